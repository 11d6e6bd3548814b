-- The entries that wait, after those that were served and those that are out.
use Rattle.std.proofs.Common.{◌≡◌, ℕ, ◌+◌, ◌≤◌, ◌<◌, Bool, true, false, not, ◌&&◌, ◌||◌, cond, nat_lt, Option, Some, None, List, [], ◌++◌, length, take, drop, refl, sym, ◌∙◌, ap, arith, append_assoc, append-nil}
use Rattle.std.proofs.lemmas.Bool.{false≢true}
use Rattle.std.proofs.lemmas.Bool.Decides.{nat_tests}
use Rattle.std.proofs.lemmas.List.{drop-append-le, drop-drop, length-drop, length-take-le, take-append-drop}
use Rattle.std.specs.Prelude.{is_some}
use mathlib.Core.List.{IsPrefix}
use Rattle.fp_row.proofs.Keeping.{known_turn}
use Rattle.fp_row.specs.declared.ending.Ending.{Ending}
use Rattle.fp_row.specs.declared.row.Row.{Row}
use Rattle.fp_row.specs.declared.turn.Turn.{Turn}
use Rattle.fp_row.specs.Row.{entries_out, is_closed, turn_out}

-- the entries that are served, out and waiting, of a list of which this many were served and are out
abbrev pub parts_in : {A : Type 0} → Bool → List A → ℕ → ℕ → List A
parts_in stopped xs n k = take n xs ++ (take k (drop n xs) ++ cond stopped [] (drop k (drop n xs)))

-- they are the whole list if the dialogue goes on
going_whole : {A : Type 0} (xs : List A) (n k : ℕ) → parts_in false xs n k ≡ xs
going_whole xs n k = ap (λ ys. take n xs ++ ys) (take-append-drop k (drop n xs)) ∙ take-append-drop n xs

pub parts_by : {A : Type 0} (stopped : Bool) (xs : List A) (n k : ℕ) → IsPrefix (parts_in stopped xs n k) xs
parts_by false xs n k = ([], append-nil (parts_in false xs n k) ∙ going_whole xs n k)
parts_by true xs n k = (
  drop k (drop n xs),
  ap (λ ys. (take n xs ++ ys) ++ drop k (drop n xs)) (append-nil (take k (drop n xs)))
      ∙ append_assoc (take n xs) (take k (drop n xs)) (drop k (drop n xs)) ∙ going_whole xs n k,
)

pub whole_by : {A : Type 0} (closed over : Bool) (xs : List A) (n k : ℕ) → closed ≡ false → over ≡ false → parts_in (closed || over) xs n k ≡ xs
whole_by closed over xs n k unclosed live = cc (going_whole xs n k)

-- the entries that are out are those of the turn
pub entries_are_out : (row : Row) (turn : Turn) → turn_out row ≡ Some turn → entries_out row ≡ turn.entries
entries_are_out row turn e = (known_turn row turn e).entries

-- the entry that is out is one of those that weren't served
out_within : {A : Type 0} (xs : List A) (n k : ℕ) → n + k ≤ length xs → k ≤ length (drop n xs)
out_within xs n k within = omega (arith, length-drop n xs)

pub out_count : {A : Type 0} (xs : List A) (n k : ℕ) → n + k ≤ length xs → length (take k (drop n xs)) ≡ k
out_count xs n k within = length-take-le k (drop n xs) (out_within xs n k within)

-- entries that are added wait after the others
pub waiting_grown : {A : Type 0} (ended : Option Ending) (over : Bool) (xs more ys : List A) (n k : ℕ) → n + k ≤ length xs → ys ≡ xs ++ more
    → (not (is_some ended) && not over) ≡ true
    → cond (is_closed ended || over) [] (drop k (drop n ys)) ≡ cond (is_closed ended || over) [] (drop k (drop n xs)) ++ more
waiting_grown None false xs more ys n k within grown admitted =
    ap (λ zs. drop k (drop n zs)) grown
    ∙ ap (drop k) (drop-append-le n xs more (omega arith))
    ∙ drop-append-le k (drop n xs) more (out_within xs n k within)
waiting_grown None true xs more ys n k within grown admitted = absurd (false≢true admitted)
waiting_grown (Some ending) over xs more ys n k within grown admitted = absurd (false≢true admitted)

-- the entries that wait are the same once the entries that were out are served, all of them if the dialogue goes on
pub waiting_served : {A : Type 0} (closed over after : Bool) (xs : List A) (n k m : ℕ) → over ≡ false → (after ≡ false → m ≡ k)
    → cond (closed || after) [] (drop (n + m) xs) ≡ cond after [] (cond (closed || over) [] (drop k (drop n xs)))
waiting_served true over true xs n k m live all = refl
waiting_served false over true xs n k m live all = refl
waiting_served true over false xs n k m live all = refl
waiting_served false over false xs n k m live all =
    ap (λ j. drop (n + j) xs) (all refl) ∙ sym (drop-drop k n xs) ∙ ap (λ stopped. cond stopped [] (drop k (drop n xs))) (sym live)

-- entries that are put back are the first of those that wait
pub waiting_put_back : {A : Type 0} (closed over : Bool) (xs : List A) (n k : ℕ) (es : List A) → over ≡ false → take k (drop n xs) ≡ es
    → cond (closed || over) [] (drop n xs) ≡ cond closed [] (es ++ cond (closed || over) [] (drop k (drop n xs)))
waiting_put_back closed over xs n k es live at = let whole = take-append-drop k (drop n xs) in grind (arith, nat_tests)

-- a dialogue that is ready has an entry that waits, and none of its entries is out
pub ready_within : (a b c : Bool) (n m : ℕ) → (a && (b && (c && nat_lt n m))) ≡ true → n < m
ready_within a b c n m ready = grind (arith, nat_tests)

none_out : (k : ℕ) (rest : Bool) → (not (nat_lt 0 k) && rest) ≡ true → k ≡ 0
none_out k rest ready = grind (arith, nat_tests)

all_wait : {A : Type 0} (a closed over d : Bool) (xs : List A) → (a && (not closed && (not over && d))) ≡ true → cond (closed || over) [] xs ≡ xs
all_wait a closed over d xs ready = grind (arith, nat_tests)

-- all of its entries that weren't served wait then
pub waiting_ready : {A : Type 0} (closed over : Bool) (xs : List A) (n k : ℕ)
    → (not (nat_lt 0 k) && (not closed && (not over && nat_lt n (length xs)))) ≡ true
    → cond (closed || over) [] (drop k (drop n xs)) ≡ drop n xs
waiting_ready closed over xs n k ready =
    ap (λ j. cond (closed || over) [] (drop j (drop n xs))) (none_out k (not closed && (not over && nat_lt n (length xs))) ready)
    ∙ all_wait (not (nat_lt 0 k)) closed over (nat_lt n (length xs)) (drop n xs) ready

-- entries that are taken out were the first of those that waited
pub waiting_taken : {A : Type 0} (closed over : Bool) (xs : List A) (n k m : ℕ) (es : List A)
    → (not (nat_lt 0 k) && (not closed && (not over && nat_lt n (length xs)))) ≡ true → es ≡ take m (drop n xs)
    → cond (closed || over) [] (drop k (drop n xs)) ≡ es ++ cond (closed || over) [] (drop m (drop n xs))
waiting_taken closed over xs n k m es ready at =
    waiting_ready closed over xs n k ready
    ∙ sym (take-append-drop m (drop n xs))
    ∙ (λ i. sym at i ++ sym (all_wait (not (nat_lt 0 k)) closed over (nat_lt n (length xs)) (drop m (drop n xs)) ready) i)
