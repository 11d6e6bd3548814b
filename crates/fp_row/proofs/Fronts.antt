-- Fronts of lists, and what stays of them if a list grows at its end.
use Rattle.std.proofs.Common.{◌≡◌, ℕ, zero, suc, ◌+◌, ◌≤◌, ◌<◌, Bool, true, false, cond, Some, List, [], ◌∷◌, ◌++◌, length, take, drop, refl, sym, ◌∙◌, ap, arith, append-nil, length-append}
use Rattle.std.proofs.lemmas.List.{take_more, take-take, take-append-le, take-append-drop, take_all, length-take-le}
use Rattle.std.proofs.lemmas.Option.{slice_get_within, get_or_from_slice_get}
use Rattle.std.proofs.Math.Seq.{take-append-add}
use Rattle.std.specs.Prelude.{slice_get}
use mathlib.Core.List.{IsPrefix}

-- an element more
pub more_taken : {A : Type 0} (xs : List A) (n : ℕ) (x : A) → slice_get xs n ≡ Some x → take (n + 1) xs ≡ take n xs ++ x ∷ []
more_taken xs n x at = take_more xs n x (slice_get_within xs n x at) ∙ ap (λ y. take n xs ++ y ∷ []) (get_or_from_slice_get xs n x x at)

-- a front of a list that has grown is one of the list before
pub taken : {A : Type 0} (n : ℕ) (old new more : List A) → new ≡ old ++ more → n ≤ length old → take n new ≡ take n old
taken n old new more grown within = ap (take n) grown ∙ take-append-le n old more within

-- the shorter of two fronts is a front of the longer one
pub shorter_front : {A : Type 0} (xs : List A) (m n : ℕ) → m ≤ n → IsPrefix (take m xs) (take n xs)
shorter_front xs m n le = (drop m (take n xs), ap (λ front. front ++ drop m (take n xs)) (sym (take-take m n xs le)) ∙ take-append-drop m (take n xs))

-- what comes after a front is the next element
pub one_more : {A : Type 0} (xs : List A) (m n : ℕ) (x : A) (rest : List A) → m < n → m ≤ length xs → take m xs ++ x ∷ rest ≡ take n xs → take (m + 1) xs ≡ take m xs ++ x ∷ []
one_more xs m n x rest less within is =
    sym (take-take (m + 1) n xs (omega arith)) ∙ ap (take (m + 1)) (sym is)
    ∙ ap (λ k. take (k + 1) (take m xs ++ x ∷ rest)) (sym (length-take-le m xs within))
    ∙ take-append-add (take m xs) (x ∷ rest) 1

-- what is added after the part that counts: nothing, or all if the whole list counts
pub more_counted : {A : Type 0} (drops : Bool) (xs more : List A) (n : ℕ) → n ≤ length xs → (drops ≡ false → n ≡ length xs) → take (n + length (cond drops [] more)) (xs ++ more) ≡ take n xs ++ cond drops [] more
more_counted true xs more n within whole = ap (λ k. take k (xs ++ more)) (let e : n + 0 ≡ n = omega arith in e) ∙ take-append-le n xs more within ∙ sym (append-nil (take n xs))
more_counted false xs more n within whole =
    let all : n ≡ length xs = whole refl in
    take_all (n + length more) (xs ++ more) (omega (arith, length-append xs more)) ∙ ap (λ front. front ++ more) (sym (take_all n xs (omega arith)))

-- an element of the list before stays where it was
pub slice_get_append : {A : Type 0} (xs more : List A) (n : ℕ) → n < length xs → slice_get (xs ++ more) n ≡ slice_get xs n
slice_get_append [] more n within = absurd (omega arith)
slice_get_append (x ∷ xs) more zero within = refl
slice_get_append (x ∷ xs) more (suc n) within = slice_get_append xs more n (omega arith)

-- there is an element at each place
pub slice_get_some : {A : Type 0} (xs : List A) (n : ℕ) → n < length xs → (x : A) × (slice_get xs n ≡ Some x)
slice_get_some [] n within = absurd (omega arith)
slice_get_some (x ∷ xs) zero within = (x, refl)
slice_get_some (x ∷ xs) (suc n) within = slice_get_some xs n (omega arith)
