-- What reading answers, and what holds of all spellings.
use Rattle.std.specs.Prelude.{◌≡◌, ◌<◌, ◌≤◌, List, ℕ, length, ◌++◌, ◌⊎◌, Result, Ok, Err}
use Rattle.fp_ber.specs.declared.element.Element.{Element}
use Rattle.fp_ber.specs.declared.fault.BerFault.{BerFault}
use Rattle.fp_ber.specs.declared.fault.BerFault.TheVariants.{Memory}
use Rattle.std.specs.List.{AllByRecursion}
use Rattle.fp_ber.specs.Tree.{Tree, HasTags, InRange}
use Rattle.fp_ber.specs.Canon.{canon, length_octets, HasLengths}
use Rattle.fp_ber.specs.View.{tree_of}
use Rattle.fp_ber.specs.Spelling.{Spells, IsLength}
use Rattle.fp_ber.specs.Faults.{FirstFault}

-- the answer is this element, unless memory ran out
abbrev pub Reads : Result Element BerFault → Tree → Type 0
Reads (Ok e) t = tree_of e ≡ t
Reads (Err fault) t = fault ≡ Memory

-- the answer is this fault, unless memory ran out
abbrev pub Refuses : Result Element BerFault → BerFault → Type 0
Refuses (Ok e) fault = ⊥
Refuses (Err other) fault = (other ≡ Memory) ⊎ (other ≡ fault)

-- no spelling begins another, and each spells one element
abbrev pub NoneBeginsAnother : Type 0
NoneBeginsAnother = (a b x y : List ℕ) (s t : Tree) → Spells a s → Spells b t → a ++ x ≡ b ++ y → (a ≡ b) × (s ≡ t)

-- the canonical spelling is one
abbrev pub CanonSpells : Type 0
CanonSpells = (t : Tree) → HasTags t → HasLengths t → Spells (canon t) t

-- no definite length of the same number takes fewer octets than the canonical one
abbrev pub LengthsAreShortest : Type 0
LengthsAreShortest = (size : List ℕ) (n : ℕ) → IsLength size n → AllByRecursion (λ octet. octet < 256) size → length (length_octets n) ≤ length size

-- octets have one first fault at most
abbrev pub FaultsAreOne : Type 0
FaultsAreOne = (octets : List ℕ) (f g : BerFault) → FirstFault octets f → FirstFault octets g → f ≡ g

-- octets that spell an element in range have no fault
abbrev pub SpelledHaveNoFault : Type 0
SpelledHaveNoFault = (octets : List ℕ) (t : Tree) (f : BerFault) → Spells octets t → InRange t → FirstFault octets f → ⊥
