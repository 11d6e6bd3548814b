-- The first fault from left to right: what stands before it is spelled, and here it stands.
use Rattle.std.specs.Prelude.{◌≡◌, ◌≢◌, ℕ, zero, suc, ◌+◌, ◌%◌, ◌≤◌, ◌<◌, Bool, true, false, List, [], ◌∷◌, ◌++◌, length, ◌⊎◌}
use Rattle.fp_ber.specs.declared.element.Class.{Class}
use Rattle.fp_ber.specs.declared.fault.BerFault.{BerFault}
use Rattle.fp_ber.specs.declared.fault.BerFault.TheVariants.{Cut, BadLength, TooDeep, BadTag, Trailing}
use Rattle.fp_ber.specs.Tree.{Tree, Trees}
use Rattle.fp_ber.specs.Spelling.{Begins, BeginAll, BeginsTag, BeginsLength}

-- At the octets behind a first tag octet whose low five bits are all set. Zero bits in front, a number below 31
-- and a third octet are faults as soon as they show.
abbrev pub SecondFault : List ℕ → BerFault → Type 0
SecondFault [] fault = fault ≡ Cut
SecondFault (c ∷ rest) fault = (128 ≤ c) × (fault ≡ BadTag)

abbrev pub HighFault : List ℕ → BerFault → Type 0
HighFault [] fault = fault ≡ Cut
HighFault (b ∷ rest) fault = ((b < 31) × (fault ≡ BadTag)) ⊎ ((b ≡ 128) × (fault ≡ BadTag)) ⊎ ((128 < b) × SecondFault rest fault)

-- at a tag: 00 and 20 have number 0 of the universal class
abbrev pub TagFault : List ℕ → BerFault → Type 0
TagFault [] fault = fault ≡ Cut
TagFault (a ∷ rest) fault = (((a ≡ 0) ⊎ (a ≡ 32)) × (fault ≡ BadTag)) ⊎ ((a % 32 ≡ 31) × HighFault rest fault)

-- at the length octets; 80 is a length of constructed elements alone
abbrev pub LengthFault : Bool → List ℕ → BerFault → Type 0
LengthFault form [] fault = fault ≡ Cut
LengthFault form (l ∷ rest) fault =
    ((form ≡ false) × (l ≡ 0x80) × (fault ≡ BadLength))
    ⊎ ((0x85 ≤ l) × (fault ≡ BadLength))
    ⊎ ((0x80 < l) × (l < 0x85) × (length rest + 0x80 < l) × (fault ≡ Cut))

-- A fault of an element at a place where one may begin: the faults of whatever lies in it are those of Inside.
abbrev pub Faulty : Type 1
Faulty = List ℕ → BerFault → Type 0

-- whole elements, and a fault in the one after them
pub record InContents (depth : ℕ) (Inside : Faulty) (contents : List ℕ) (fault : BerFault) : Type 0 where
  pub before : Trees
  pub rest : List ℕ
  pub whole : BeginAll depth contents before rest
  pub goes_on : rest ≢ []
  pub faulty : Inside rest fault

-- what should be an element or an end is neither: it is cut, or no end and a faulty element
abbrev pub AtEnd : Faulty → List ℕ → BerFault → Type 0
AtEnd Inside [] fault = fault ≡ Cut
AtEnd Inside (a ∷ []) fault = ((a ≡ 0) × (fault ≡ Cut)) ⊎ ((0 < a) × Inside (a ∷ []) fault)
AtEnd Inside (a ∷ b ∷ rest) fault = (0 < a + b) × Inside (a ∷ b ∷ rest) fault

-- the same where an end 00 00 closes the contents
pub record InOpen (depth : ℕ) (Inside : Faulty) (octets : List ℕ) (fault : BerFault) : Type 0 where
  pub before : Trees
  pub rest : List ℕ
  pub whole : BeginAll depth octets before rest
  pub faulty : AtEnd Inside rest fault

-- behind a tag of this form
abbrev pub BodyFault : ℕ → Faulty → Bool → List ℕ → BerFault → Type 0
BodyFault depth Inside form octets fault =
    LengthFault form octets fault
    ⊎ ((n : ℕ) × (rest : List ℕ) × BeginsLength octets n rest × (length rest < n) × (fault ≡ Cut))
    ⊎ ((n : ℕ) × (contents : List ℕ) × (rest : List ℕ) × (form ≡ true) × BeginsLength octets n (contents ++ rest)
    × (length contents ≡ n) × InContents depth Inside contents fault)
    ⊎ ((rest : List ℕ) × (form ≡ true) × (octets ≡ 0x80 ∷ rest) × InOpen depth Inside rest fault)

-- the first fault of an element that should begin here, where so many may lie inside each other
abbrev pub ElementFault : ℕ → List ℕ → BerFault → Type 0
ElementFault zero octets fault = fault ≡ TooDeep
ElementFault (suc depth) octets fault =
    TagFault octets fault
    ⊎ ((class : Class) × (form : Bool) × (number : ℕ) × (rest : List ℕ) × BeginsTag octets class form number rest
    × BodyFault depth (ElementFault depth) form rest fault)

-- the first fault of a whole text
abbrev pub FirstFault : List ℕ → BerFault → Type 0
FirstFault octets fault =
    ElementFault 16 octets fault
    ⊎ ((t : Tree) × (rest : List ℕ) × Begins 16 octets t rest × (rest ≢ []) × (fault ≡ Trailing))
