-- What a push and a removal at the end of the list do to an array with zeros behind the list, and a list laid over
-- zeros.
use Rattle.std.proofs.Common.{◌≡◌, ℕ, suc, ◌+◌, ◌-◌, ◌<◌, List, ◌∷◌, ◌++◌, ◌≤◌, length, drop, set, refl, sym, ◌∙◌, ap, arith, length-append, length-drop}
use Rattle.std.specs.Prelude.{replicate}
use Rattle.std.proofs.lemmas.List.{drop-drop, drop-replicate, drop-set, drop-set-lt, length-replicate, length-set}
use Rattle.std.proofs.lemmas.Slice.{drop-append-drop}
use Rattle.fp_octets.specs.Padded.{IsPadded}

-- the zeros behind the first place
zeros_behind : (size used : ℕ) (array : List ℕ) → drop used array ≡ replicate (size - used) 0 → drop (used + 1) array ≡ replicate (size - (used + 1)) 0
zeros_behind size used array zeros =
    sym (drop-drop 1 used array) ∙ (ap (drop 1) zeros ∙ (drop-replicate 1 (size - used) 0 ∙ ap (λ n. replicate n 0) (omega arith)))

-- one more octet at the end of the list
pub IsPadded-push : (size : ℕ) (array : List ℕ) (used octet : ℕ) → IsPadded size array used → used < size → IsPadded size (set array used octet) (used + 1)
IsPadded-push size array used octet padding room = record {
  full = length-set array used octet ∙ padding.full;
  short = padding.short;
  fits = omega arith;
  zeros = drop-set-lt (used + 1) array used octet (omega arith) ∙ zeros_behind size used array padding.zeros;
}

-- the last octet of the list set to zero
pub IsPadded-drop_last : (size : ℕ) (array : List ℕ) (used left : ℕ) → IsPadded size array used → used ≡ left + 1 → IsPadded size (set array left 0) left
IsPadded-drop_last size array used left padding is_last = record {
  full = length-set array left 0 ∙ padding.full;
  short = padding.short;
  fits = omega (arith, padding.fits);
  zeros =
      drop-set array left 0 (omega (arith, padding.full, padding.fits)) ∙ (ap (λ n. 0 ∷ drop n array) (sym is_last) ∙ (ap (λ xs. 0 ∷ xs) padding.zeros ∙ ap (λ n. replicate n 0) (let e : suc (size - used) ≡ size - left = omega (arith, padding.fits) in e)));
}

-- a list laid over zeros
pub IsPadded-over : (size : ℕ) (list : List ℕ) → size ≤ 255 → length list ≤ size → IsPadded size (list ++ drop (length list) (replicate size 0)) (length list)
IsPadded-over size list short fits = record {
  full = grind (arith, length-append, length-drop, length-replicate);
  short = short;
  fits = fits;
  zeros = drop-append-drop (length list) (replicate size 0) list (length list) (omega arith) refl ∙ drop-replicate (length list) size 0;
}
