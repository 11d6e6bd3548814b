-- An array with fillers after its list, when one element is added to the list.
use Rattle.std.proofs.Common.{◌≡◌, ℕ, ◌+◌, ◌-◌, ◌<◌, List, drop, set, sym, ◌∙◌, ap, arith}
use Rattle.std.specs.Prelude.{replicate}
use Rattle.std.proofs.lemmas.List.{drop-drop, drop-replicate, drop-set-lt, length-set}
use Rattle.fp_ism.specs.Padded.{IsPadded}

-- the fillers after the first place
fillers_behind : {A : Type 0} (size : ℕ) (filler : A) (used : ℕ) (array : List A) → drop used array ≡ replicate (size - used) filler → drop (used + 1) array ≡ replicate (size - (used + 1)) filler
fillers_behind size filler used array fillers =
    sym (drop-drop 1 used array) ∙ (ap (drop 1) fillers ∙ (drop-replicate 1 (size - used) filler ∙ ap (λ n. replicate n filler) (omega arith)))

-- one more element at the end of the list
pub IsPadded-push : {A : Type 0} (size : ℕ) (filler : A) (array : List A) (used : ℕ) (element : A) → IsPadded size filler array used → used < size → IsPadded size filler (set array used element) (used + 1)
IsPadded-push size filler array used element padding room = record {
  full = length-set array used element ∙ padding.full;
  fits = omega arith;
  fillers = drop-set-lt (used + 1) array used element (omega arith) ∙ fillers_behind size filler used array padding.fillers;
}
