-- Sums over the dialogues that a book holds, by their births.
use Rattle.fp_steps.proofs.Names.{Event, List, None, Option, Row, Rows, Shelf, Some, Tied, amount, ap, arith, births, by_local, cases_Bool, cases_lt, cond, eq-eqb, eqb, eqb-true, false, get, get-removed, local_of, ne_eqb, none-some, refl, remove, row_at, row_of, suc, sum-none, sum-remove, sum_of, sum_to, sym, zero, ℕ, ⊎_elim, ◌+◌, ◌<◌, ◌∙◌, ◌≡◌, ◌≤◌}
use Rattle.fp_steps.proofs.HeldDialogues.{Held, by_option, held_of, other_row, own_row, row_there}

pub sum_to_same : (n : ℕ) (f g : ℕ → ℕ) → ((d : ℕ) → 0 < d → d ≤ n → f d ≡ g d) → sum_to n f ≡ sum_to n g
sum_to_same zero f g same = refl
sum_to_same (suc n) f g same =
    omega (arith, sum_to_same n f g (λ d first last. same d first (omega (arith, last))), same (suc n) (omega arith) (omega arith))

-- each dialogue has one of these births, under the identifier that it has
abbrev pub AreBorn : (ℕ → ℕ) → ℕ → Rows → Type 0
AreBorn place n rows = (l : ℕ) (row : Row) → get rows l ≡ Some row → (0 < row.birth) × (row.birth ≤ n) × (l ≡ place row.birth)

none_at : (place : ℕ → ℕ) (rows : Rows) → AreBorn place 0 rows → (l : ℕ) (o : Option Row) → get rows l ≡ o → o ≡ None
none_at place rows born l None was = refl
none_at place rows born l (Some row) was =
    let b = born l row was in
    absurd (let first : 0 < row.birth = b.0 in let last : row.birth ≤ 0 = b.1 in omega (arith, first, last))

-- where none has the last of these births
fewer_born : (place : ℕ → ℕ) (n : ℕ) (rows : Rows) → AreBorn place (suc n) rows → ((l : ℕ) (row : Row) → get rows l ≡ Some row → row.birth ≡ suc n → l ≡ place (suc n) → ⊥) → AreBorn place n rows
fewer_born place n rows born none l row was =
    let b = born l row was in let last : row.birth ≤ suc n = b.1 in
    (b.0, ⊎_elim (λ lt. absurd (let same : row.birth ≡ suc n = omega (arith, last, lt) in none l row was same (b.2 ∙ ap place same))) (λ le. le) (cases_lt n row.birth), b.2)

removed_at : (rows : Rows) (l k : ℕ) → eqb k l ≡ false → get (remove rows l) k ≡ get rows k
removed_at rows l k ne = get-removed rows l k ∙ ap (λ b. cond b None (get rows k)) ne

gone_at : (rows : Rows) (l : ℕ) → get (remove rows l) l ≡ None
gone_at rows l = get-removed rows l l ∙ ap (λ b. cond b None (get rows l)) (eq-eqb l l refl)

pub sum_births : (f : Row → ℕ) (place : ℕ → ℕ) (n : ℕ) (rows : Rows) → AreBorn place n rows → sum_of f rows ≡ sum_to n (λ d. amount f (row_of d (get rows (place d))))
sum_births f place zero rows born = sum-none f rows (λ l. none_at place rows born l (get rows l) refl)
sum_births f place (suc n) rows born =
    let top = place (suc n) in let of : ℕ → ℕ = λ d. amount f (row_of d (get rows (place d))) in
    by_option (λ o. amount f (row_of (suc n) (get rows top)) ≡ amount f o → sum_of f rows ≡ sum_to n of + of (suc n)) (row_of (suc n) (get rows top))
    (λ none here.
    let rest : sum_of f rows ≡ sum_to n of =
    sum_births f place n rows (fewer_born place n rows born (λ l row was same at. none-some row (sym none ∙ ap (λ k. row_of (suc n) (get rows k)) (sym at) ∙ ap (row_of (suc n)) was ∙ own_row (suc n) row same)))
    in
    omega (arith, rest, here))
    (λ row is here.
    let there = row_there (suc n) (get rows top) row is in let then = remove rows top in
    let rest : sum_of f then ≡ sum_to n (λ d. amount f (row_of d (get then (place d)))) =
    sum_births f place n then (fewer_born place n then
    (λ l row was. ⊎_elim (λ e. absurd (none-some row (sym (gone_at rows top) ∙ ap (get then) (sym (eqb-true l top e)) ∙ was))) (λ ne. born l row (sym (removed_at rows top l ne) ∙ was)) (cases_Bool (eqb l top)))
    (λ l row was same at. none-some row (sym (gone_at rows top) ∙ ap (get then) (sym at) ∙ was)))
    in
    let same : sum_to n (λ d. amount f (row_of d (get then (place d)))) ≡ sum_to n of =
    sum_to_same n (λ d. amount f (row_of d (get then (place d)))) of
    (λ d first last. ap (amount f) (by_local (place d) top (λ k. row_of d (get then k) ≡ row_of d (get rows k))
    (ap (row_of d) (gone_at rows top) ∙ sym (ap (row_of d) there.0 ∙ other_row d row (ne_eqb row.birth d (λ e. omega (arith, e, there.1, last)))))
    (λ ne. ap (row_of d) (removed_at rows top (place d) ne))))
    in
    let all : amount f (get rows top) ≡ amount f (Some row) = ap (amount f) there.0 in
    omega (arith, rest, same, sum-remove f rows top, all, here))
    refl

-- a number of each dialogue of a history, added up, by those that its book holds
pub sum_is : (f : Row → ℕ) (of : ℕ → ℕ) {h : List Event} {s : Shelf} → Tied h s
    → ((d : ℕ) → 0 < d → d ≤ births h → amount f (row_at h s d) ≡ of d) → sum_to (births h) of ≡ sum_of f s.rows
sum_is f of {h} {s} t same = sym (sum_births f (local_of h) (births h) s.rows
    (λ l row was. let b : Held h l row.birth row = held_of l row t was in (b.first, b.last, b.place))
    ∙ sum_to_same (births h) (λ d. amount f (row_at h s d)) of same)
