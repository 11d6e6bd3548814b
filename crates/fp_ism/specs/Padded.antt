-- A list at the front of an array, with the same element in every place after it, so that equal lists have equal
-- arrays.
use Rattle.std.specs.Prelude.{◌≡◌, ℕ, ◌-◌, ◌≤◌, List, ◌++◌, length, take, drop, replicate}
use Rattle.std.proofs.Common.{arith, take-append-drop, length-take-le}

-- the array is full, and each element after its first `used` ones is the filler
pub record IsPadded {A : Type 0} (size : ℕ) (filler : A) (array : List A) (used : ℕ) : Type 0 where
  pub full : length array ≡ size
  pub fits : used ≤ size
  pub fillers : drop used array ≡ replicate (size - used) filler

-- the array of this size that begins with the list
abbrev pub padded : {A : Type 0} → ℕ → A → List A → List A
padded size filler list = list ++ replicate (size - length list) filler

pub length-take-padded : {A : Type 0} (size : ℕ) (filler : A) (array : List A) (used : ℕ) → IsPadded size filler array used → length (take used array) ≡ used
length-take-padded size filler array used padding = length-take-le used array (omega arith)

pub padded-take : {A : Type 0} (size : ℕ) (filler : A) (array : List A) (used : ℕ) → IsPadded size filler array used → padded size filler (take used array) ≡ array
padded-take size filler array used padding =
    rw (length-take-padded size filler array used padding, ← padding.fillers) (take-append-drop used array)
