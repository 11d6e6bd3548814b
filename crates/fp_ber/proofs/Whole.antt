-- What reading answers follows from what it finds: the element that is spelled, or the first fault.
use Rattle.std.proofs.Common.{◌≡◌, ◌≢◌, ℕ, ◌<◌, ◌≤◌, List, length, get_or, [], ◌⊎◌, inl, inr, refl, Result, Ok, Err, IfOk, IfErr}
use Rattle.fp_ber.specs.declared.element.Element.{Element}
use Rattle.fp_ber.specs.declared.fault.BerFault.{BerFault}
use Rattle.fp_ber.specs.declared.fault.BerFault.TheVariants.{Cut, BadLength, TooDeep, BadTag, Trailing, Memory}
use Rattle.fp_ber.specs.Tree.{Tree, InRange}
use Rattle.fp_ber.specs.View.{tree_of}
use Rattle.fp_ber.specs.Spelling.{Spells}
use Rattle.fp_ber.specs.Faults.{FirstFault}
use Rattle.fp_ber.specs.Canon.{canon, HasLengths}
use Rattle.fp_ber.specs.Laws.{Reads, Refuses}
use Rattle.fp_ber.proofs.Unique.{no_spelling_begins_another}
use Rattle.fp_ber.proofs.Canonical.{AreOctets-by_index, short_fits}
use Rattle.fp_ber.proofs.Exclusive.{spelled_no_fault, one_fault}

-- a fault is want of memory or another
memory_or : (f : BerFault) → (f ≡ Memory) ⊎ (f ≢ Memory)
memory_or Cut = inr (λ e. cc)
memory_or BadLength = inr (λ e. cc)
memory_or TooDeep = inr (λ e. cc)
memory_or BadTag = inr (λ e. cc)
memory_or Trailing = inr (λ e. cc)
memory_or Memory = inl refl

-- what is spelled and in range is read, unless memory runs out
pub only_this : (r : Result Element BerFault) (octets : List ℕ)
    → IfOk r (λ e. Spells octets (tree_of e) × InRange (tree_of e))
    → IfErr r (λ fault. fault ≢ Memory → FirstFault octets fault)
    → (t : Tree) → Spells octets t → InRange t → Reads r t
only_this (Ok e) octets found fault t h p =
    (no_spelling_begins_another octets octets [] [] (tree_of e) t found.0 h refl).1
only_this (Err f) octets found fault t h p = elim (memory_or f) [
  | inl m ↦ m
  | inr n ↦ absurd (spelled_no_fault octets t f h p.nested (fault n))
]

-- the first fault is answered, unless memory runs out before it
pub first_this : (r : Result Element BerFault) (octets : List ℕ)
    → IfOk r (λ e. Spells octets (tree_of e) × InRange (tree_of e))
    → IfErr r (λ fault. fault ≢ Memory → FirstFault octets fault)
    → (fault : BerFault) → FirstFault octets fault → Refuses r fault
first_this (Ok e) octets found fault g h = spelled_no_fault octets (tree_of e) g found.0 found.1.nested h
first_this (Err f) octets found fault g h = elim (memory_or f) [
  | inl m ↦ inl m
  | inr n ↦ inr (one_fault octets f g (fault n) h)
]

-- what a short text spells can be written, in no more octets
pub fits_this : (r : Result Element BerFault) (octets : List ℕ) → ((k : ℕ) → get_or octets k 0 < 256)
    → IfOk r (λ e. Spells octets (tree_of e) × InRange (tree_of e))
    → IfOk r (λ e. length octets < 65536 → HasLengths (tree_of e) × (length (canon (tree_of e)) ≤ length octets))
fits_this (Ok e) octets k found = λ p. short_fits (tree_of e) octets (AreOctets-by_index octets k) p found.0
fits_this (Err f) octets k found = tt
