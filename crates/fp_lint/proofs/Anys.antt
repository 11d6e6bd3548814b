-- Whether one of some elements passes a test, element by element.
use Rattle.std.proofs.Common.{◌≡◌, ◌<◌, ◌≤◌, ℕ, ◌+◌, suc, List, ◌∷◌, Bool, true, false, ◌||◌, add-one, drop, drop-cons, get_or, length, map, sym, ap, ◌∙◌}
use Rattle.std.specs.List.{list_any}
use Rattle.std.proofs.lemmas.List.{drop_all}

cut : {X : Type 0} (xs : List X) (i : ℕ) (x : X) → i < length xs → x ≡ get_or xs i x → drop i xs ≡ x ∷ drop (i + 1) xs
cut xs i x within is =
    drop-cons xs i x within ∙ (ap (λ y. y ∷ drop (suc i) xs) (sym is) ∙ ap (λ n. x ∷ drop n xs) (sym (add-one i)))

-- one that passes
pub any-here : {X Y : Type 0} (shown : X → Y) (test : Y → Bool) (xs : List X) (i : ℕ) (x : X) → i < length xs → x ≡ get_or xs i x → test (shown x) ≡ true
    → list_any test (map shown (drop i xs)) ≡ list_any test (map shown xs) → list_any test (map shown xs) ≡ true
any-here shown test xs i x within is passes same =
    sym same ∙ (ap (λ ys. list_any test (map shown ys)) (cut xs i x within is) ∙ ap (λ here. here || list_any test (map shown (drop (i + 1) xs))) passes)

-- one that does not
pub any-next : {X Y : Type 0} (shown : X → Y) (test : Y → Bool) (xs : List X) (i : ℕ) (x : X) → i < length xs → x ≡ get_or xs i x → test (shown x) ≡ false
    → list_any test (map shown (drop i xs)) ≡ list_any test (map shown xs) → list_any test (map shown (drop (i + 1) xs)) ≡ list_any test (map shown xs)
any-next shown test xs i x within is fails same =
    sym (ap (λ ys. list_any test (map shown ys)) (cut xs i x within is) ∙ ap (λ here. here || list_any test (map shown (drop (i + 1) xs))) fails) ∙ same

-- none
pub any-end : {X Y : Type 0} (shown : X → Y) (test : Y → Bool) (xs : List X) (i : ℕ) → length xs ≤ i
    → list_any test (map shown (drop i xs)) ≡ list_any test (map shown xs) → list_any test (map shown xs) ≡ false
any-end shown test xs i past same = sym same ∙ ap (λ ys. list_any test (map shown ys)) (drop_all i xs past)
