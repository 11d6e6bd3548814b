-- The lines of links, one after the other.
use Rattle.std.proofs.Common.{◌≡◌, ℕ, suc, ◌+◌, ◌<◌, List, ◌∷◌, ◌++◌, get_or, length, sym, ◌∙◌, ap, append_assoc, arith}
use Rattle.std.proofs.Math.ListN.{drop}
use Rattle.std.proofs.Math.Seq.{drop-cons}
use Rattle.fp_watch.specs.Links.{lines_by}

module _ {A : Type 0} (line_of : ℕ → A → List ℕ) where
  -- what is left from an element on is that and what is left after it
  next : (link : ℕ) (all : List A) (d : A) → link < length all → drop link all ≡ get_or all link d ∷ drop (link + 1) all
  next link all d below =
      let one : suc link ≡ link + 1 = omega arith in
      drop-cons all link d below ∙ ap (λ n. get_or all link d ∷ drop n all) one

  -- a text to which the line of the next link was added is still that of all, with the lines of those that are left
  pub more : (link : ℕ) (all : List A) (d : A) (text line new : List ℕ) → link < length all
      → new ≡ text ++ line → line ≡ line_of link (get_or all link d)
      → text ++ lines_by line_of link (drop link all) ≡ lines_by line_of 0 all
      → new ++ lines_by line_of (link + 1) (drop (link + 1) all) ≡ lines_by line_of 0 all
  more link all d text line new below new_is line_is so_far =
      let behind = lines_by line_of (link + 1) (drop (link + 1) all) in
      let with_this : text ++ (line_of link (get_or all link d) ++ behind) ≡ lines_by line_of 0 all
      = sym (ap (λ left. text ++ lines_by line_of link left) (next link all d below)) ∙ so_far in
      ap (λ t. t ++ behind) (new_is ∙ ap (λ l. text ++ l) line_is)
      ∙ append_assoc text (line_of link (get_or all link d)) behind
      ∙ with_this
