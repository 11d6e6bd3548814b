-- A list kept at the front of an array, with zeros behind it, so that equal lists have equal arrays.
use Rattle.std.specs.Prelude.{◌≡◌, ℕ, ◌-◌, ◌≤◌, List, ◌++◌, length, take, drop, replicate}
use Rattle.std.proofs.Common.{arith, take-append-drop, length-take-le}

-- the array is full, of 255 places at most, and those behind the first ones, which are used, are zero
pub record IsPadded (size : ℕ) (array : List ℕ) (used : ℕ) : Type 0 where
  pub full : length array ≡ size
  pub short : size ≤ 255
  pub fits : used ≤ size
  pub zeros : drop used array ≡ replicate (size - used) 0

-- the array of this size that begins with the list
abbrev pub padded : ℕ → List ℕ → List ℕ
padded size list = list ++ replicate (size - length list) 0

pub length-take-padded : (size : ℕ) (array : List ℕ) (used : ℕ) → IsPadded size array used → length (take used array) ≡ used
length-take-padded size array used padding = length-take-le used array (omega (arith, padding.full, padding.fits))

pub padded-take : (size : ℕ) (array : List ℕ) (used : ℕ) → IsPadded size array used → padded size (take used array) ≡ array
padded-take size array used padding =
    rw (length-take-padded size array used padding, ← padding.zeros) (take-append-drop used array)
