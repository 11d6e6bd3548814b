-- Fronts of lists, and what is behind them.
use Rattle.std.proofs.Common.{◌≡◌, ℕ, ◌+◌, ◌-◌, ◌≤◌, List, ◌∷◌, ◌++◌, take, drop, Some, sym, ◌∙◌, ap, arith}
use Rattle.std.specs.Prelude.{slice_get}
use Rattle.std.proofs.lemmas.List.{take-append-drop, drop-take, drop-drop, drop_more}
use Rattle.std.proofs.lemmas.Option.{slice_get_within, get_or_from_slice_get}

-- the piece of a list from one place to another, without its front
pub piece_behind : (list : List ℕ) (from to count : ℕ) → count ≤ to - from
    → take (to - (from + count)) (drop (from + count) list) ≡ drop count (take (to - from) (drop from list))
piece_behind list from to count within =
    let rest = to - (from + count) in
    let whole : to - from ≡ count + rest = omega (arith, within) in
    sym (ap (λ n. drop count (take n (drop from list))) whole ∙ drop-take count rest (drop from list) ∙ ap (λ l. take rest l) (drop-drop count from list))

-- a list around one of its elements
pub split_at : (list : List ℕ) (n x : ℕ) → slice_get list n ≡ Some x → list ≡ take n list ++ x ∷ drop (n + 1) list
split_at list n x is =
    let within = slice_get_within list n x is in
    sym (take-append-drop n list) ∙ ap (λ l. take n list ++ l) (drop_more list n 0 within ∙ ap (λ y. y ∷ drop (n + 1) list) (get_or_from_slice_get list n x 0 is))
