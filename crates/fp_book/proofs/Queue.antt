-- How often a dialogue is in the queue of those that are ready.
use Rattle.fp_book.proofs.Names.{Bool, List, [], add-zero, ap, arith, both_ways, cond, eq-eqb, eqb, eqb-true, false, false_from_ne_true, joins, length, length-append, length-filter, length-filter_both, not, not-not, one_if, refl, sum_by-append, sum_by-cons, sym, true, without, zero-add, ℕ, ◌++◌, ◌+◌, ◌∙◌, ◌∷◌, ◌≡◌}
use Rattle.fp_book.proofs.Changes.{QueueChanges, count, one_by}

-- two identifiers are different, the other way round
pub eqb_swap : (d l : ℕ) → eqb d l ≡ false → eqb l d ≡ false
eqb_swap d l ne = false_from_ne_true (eqb l d) (λ e. both_ways (eqb d l) ne (eq-eqb d l (sym (eqb-true l d e))))

pub count-append : (d : ℕ) (xs ys : List ℕ) → count d (xs ++ ys) ≡ count d xs + count d ys
count-append d xs ys = sum_by-append (λ x. cond {A = ℕ} (eqb x d) 1 0) xs ys

pub count-cons : (d x : ℕ) (xs : List ℕ) → count d (x ∷ xs) ≡ one_if (eqb x d) + count d xs
count-cons d x xs = sum_by-cons (λ x. cond {A = ℕ} (eqb x d) 1 0) x xs ∙ ap (λ n. n + count d xs) (one_by (eqb x d))

-- the first of a queue is this one, or another
pub count_first : (d : ℕ) (xs : List ℕ) → count d (d ∷ xs) ≡ 1 + count d xs
count_first d xs = count-cons d d xs ∙ ap (λ b. one_if b + count d xs) (eq-eqb d d refl)

pub count_other : (d x : ℕ) (xs : List ℕ) → eqb d x ≡ false → count d (x ∷ xs) ≡ count d xs
count_other d x xs ne = count-cons d x xs ∙ ap (λ b. one_if b + count d xs) (eqb_swap d x ne) ∙ zero-add (count d xs)

pub count_joins_own : (d : ℕ) (b : Bool) → count d (joins d b) ≡ one_if b
count_joins_own d true = count_first d []
count_joins_own d false = refl

pub count_joins_other : (d l : ℕ) (b : Bool) → eqb d l ≡ false → count d (joins l b) ≡ 0
count_joins_other d l true ne = count_other d l [] ne
count_joins_other d l false ne = refl

pub length_joins : (l : ℕ) (b : Bool) → length (joins l b) ≡ one_if b
length_joins l true = refl
length_joins l false = refl

-- what is left of a queue once a dialogue has left it
pub without_by : (l x : ℕ) (xs : List ℕ) (b : Bool) → eqb x l ≡ b → without l (x ∷ xs) ≡ cond b (without l xs) (x ∷ without l xs)
without_by l x xs true is = ap (λ b. cond (not b) (x ∷ without l xs) (without l xs)) is
without_by l x xs false is = ap (λ b. cond (not b) (x ∷ without l xs) (without l xs)) is

other_by : (d l x : ℕ) (xs : List ℕ) (b : Bool) → eqb d l ≡ false → eqb x l ≡ b → count d (without l xs) ≡ count d xs
    → count d (cond b (without l xs) (x ∷ without l xs)) ≡ count d (x ∷ xs)
other_by d l x xs true ne is same = same ∙ sym (ap (λ y. count d (y ∷ xs)) (eqb-true x l is) ∙ count_other d l xs ne)
other_by d l x xs false ne is same = count-cons d x (without l xs) ∙ ap (λ n. one_if (eqb x d) + n) same ∙ sym (count-cons d x xs)

pub count_without_other : (d l : ℕ) (xs : List ℕ) → eqb d l ≡ false → count d (without l xs) ≡ count d xs
count_without_other d l [] ne = refl
count_without_other d l (x ∷ xs) ne = ap (count d) (without_by l x xs (eqb x l) refl) ∙ other_by d l x xs (eqb x l) ne refl (count_without_other d l xs ne)

pub length_without : (l : ℕ) (xs : List ℕ) → length (without l xs) + count l xs ≡ length xs
length_without l xs = ap (λ n. length (without l xs) + n) (sym (length-filter (λ x. eqb x l) xs)) ∙ length-filter_both (λ x. not (eqb x l)) (λ x. eqb x l) (λ x. sym (not-not (eqb x l))) xs

own_by : (l x : ℕ) (xs : List ℕ) (b : Bool) → eqb x l ≡ b → count l (without l xs) ≡ 0 → count l (cond b (without l xs) (x ∷ without l xs)) ≡ 0
own_by l x xs true is none = none
own_by l x xs false is none = count-cons l x (without l xs) ∙ ap (λ b. one_if b + count l (without l xs)) is ∙ zero-add (count l (without l xs)) ∙ none

pub count_without_own : (l : ℕ) (xs : List ℕ) → count l (without l xs) ≡ 0
count_without_own l [] = refl
count_without_own l (x ∷ xs) = ap (count l) (without_by l x xs (eqb x l) refl) ∙ own_by l x xs (eqb x l) refl (count_without_own l xs)

-- a queue that stays, that a dialogue joins, that it leaves, or of which it is the first that is taken off
pub queue_stays : (queue : List ℕ) (local n m : ℕ) → count local queue ≡ n → n ≡ m → QueueChanges queue queue local n m
queue_stays queue local n m was same = record { own = was ∙ same; others = λ d ne. refl; length_is = ap (λ k. length queue + k) same }

pub queue_joins : (queue : List ℕ) (local : ℕ) (b : Bool) (n m : ℕ) → count local queue ≡ n → n + one_if b ≡ m → QueueChanges queue (queue ++ joins local b) local n m
queue_joins queue local b n m was sum = record {
  own = count-append local queue (joins local b) ∙ ap (λ k. k + count local (joins local b)) was ∙ ap (λ k. n + k) (count_joins_own local b) ∙ sum;
  others = λ d ne. count-append d queue (joins local b) ∙ ap (λ k. count d queue + k) (count_joins_other d local b ne) ∙ add-zero _;
  length_is = omega (arith, length-append queue (joins local b), length_joins local b, sum);
}

pub queue_leaves : (queue : List ℕ) (local n m : ℕ) → count local queue ≡ n → m ≡ 0 → QueueChanges queue (without local queue) local n m
queue_leaves queue local n m was none = record {
  own = count_without_own local queue ∙ sym none;
  others = λ d ne. count_without_other d local queue ne;
  length_is = omega (arith, length_without local queue, was, none);
}

pub queue_next : (queue rest : List ℕ) (local n m : ℕ) → queue ≡ local ∷ rest → count local queue ≡ n → n ≡ 1 → m ≡ 0 → QueueChanges queue rest local n m
queue_next queue rest local n m first was once none =
    let left : count local rest ≡ 0 = omega (arith, ap (count local) (sym first) ∙ was, count_first local rest, once) in
    record { own = left ∙ sym none; others = λ d ne. sym (ap (count d) first ∙ count_other d local rest ne); length_is = omega (arith, ap length first, once, none) }
