-- Texts that are made value by value.
use Rattle.std.proofs.Common.{◌≡◌, ℕ, suc, ◌+◌, ◌<◌, List, ◌∷◌, ◌++◌, get_or, length, sym, ◌∙◌, ap, append_assoc, arith}
use Rattle.std.proofs.Math.ListN.{drop}
use Rattle.std.proofs.Math.Seq.{drop-cons}
use Rattle.fp_metrics.specs.Text.{each}

module _ {A : Type 0} (text_of : A → List ℕ) where
  -- what is left from a value on is that and what is left after it
  next : (i : ℕ) (all : List A) (d : A) → i < length all → drop i all ≡ get_or all i d ∷ drop (i + 1) all
  next i all d below =
      let one : suc i ≡ i + 1 = omega arith in
      drop-cons all i d below ∙ ap (λ n. get_or all i d ∷ drop n all) one

  -- a text to which that of the next value was added is still the whole, with the texts of those that are left
  pub more : (i : ℕ) (all : List A) (d : A) (text added new whole : List ℕ) → i < length all
      → new ≡ text ++ added → added ≡ text_of (get_or all i d)
      → text ++ each text_of (drop i all) ≡ whole
      → new ++ each text_of (drop (i + 1) all) ≡ whole
  more i all d text added new whole below new_is added_is so_far =
      let behind = each text_of (drop (i + 1) all) in
      let with_this : text ++ (text_of (get_or all i d) ++ behind) ≡ whole
      = sym (ap (λ left. text ++ each text_of left) (next i all d below)) ∙ so_far in
      ap (λ t. t ++ behind) (new_is ∙ ap (λ l. text ++ l) added_is)
      ∙ append_assoc text (text_of (get_or all i d)) behind
      ∙ with_this
