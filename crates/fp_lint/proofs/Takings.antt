-- Callers that rules with longer prefixes take, digit by digit.
use Rattle.std.proofs.Common.{◌≡◌, ◌<◌, ℕ, ◌+◌, ◌/◌, ◌%◌, suc, List, [], ◌∷◌, ◌++◌, Bool, true, false, ◌&&◌, ◌||◌, length, take, nat_eq, nat_lt, append_assoc, append-nil, refl, arith}
use Rattle.std.specs.List.{All, starts_with}
use Rattle.std.specs.Cmp.Lexicographic.{pointwise}
use Rattle.fp_records.specs.Choice.{has_day}
use Rattle.fp_records.specs.Window.{holds_minute}
use Rattle.fp_records.specs.declared.rule.Rule.{Rule}
use Rattle.fp_lint.specs.Reach.{AllTaken, IsWhole, SomeLeft, takes_any}

-- what begins some digits begins those with more after them
begins-more : (front more prefix : List ℕ) → starts_with nat_eq front prefix ≡ true → starts_with nat_eq (front ++ more) prefix ≡ true
begins-more front more [] begins = refl
begins-more [] more (x ∷ prefix) begins = cc begins
begins-more (y ∷ front) more (x ∷ prefix) begins = by (nat_eq x y) begins (begins-more front more prefix)
  where
    by : (same : Bool) → (same && pointwise nat_eq prefix (take (length prefix) front)) ≡ true
        → (starts_with nat_eq front prefix ≡ true → starts_with nat_eq (front ++ more) prefix ≡ true)
        → (same && pointwise nat_eq prefix (take (length prefix) (front ++ more))) ≡ true
    by true is rest = rest is
    by false is rest = cc is

-- who takes a caller takes those with more digits
takes-more : (rules : List Rule) (longer minute : ℕ) (front more : List ℕ) → takes_any rules longer minute front ≡ true → takes_any rules longer minute (front ++ more) ≡ true
takes-more [] longer minute front more takes = cc takes
takes-more (rule ∷ rules) longer minute front more takes =
    by (nat_lt longer (length rule.prefix)) (starts_with nat_eq front rule.prefix) (has_day rule.days (minute / 1440 + 1) && holds_minute rule.window (minute % 1440))
    refl takes (takes-more rules longer minute front more)
  where
    later : (here rest : Bool) → rest ≡ true → (here || rest) ≡ true
    later true rest is = refl
    later false rest is = is

    by : (long begins holds : Bool) → starts_with nat_eq front rule.prefix ≡ begins
        → ((long && (begins && holds)) || takes_any rules longer minute front) ≡ true
        → (takes_any rules longer minute front ≡ true → takes_any rules longer minute (front ++ more) ≡ true)
        → ((long && (starts_with nat_eq (front ++ more) rule.prefix && holds)) || takes_any rules longer minute (front ++ more)) ≡ true
    by true true true was is rest = rw (begins-more front more rule.prefix was) refl
    by true true false was is rest = later (starts_with nat_eq (front ++ more) rule.prefix && false) (takes_any rules longer minute (front ++ more)) (rest is)
    by true false holds was is rest = later (starts_with nat_eq (front ++ more) rule.prefix && holds) (takes_any rules longer minute (front ++ more)) (rest is)
    by false begins holds was is rest = rest is

pub all-here : (rules : List Rule) (longer minute : ℕ) (front : List ℕ) → takes_any rules longer minute front ≡ true → AllTaken rules longer minute front
all-here rules longer minute front takes = λ more whole. takes-more rules longer minute front more takes

-- a whole number that nobody takes is left
pub left-here : (rules : List Rule) (longer minute : ℕ) (front : List ℕ) → takes_any rules longer minute front ≡ false → length front ≡ 15
    → All (λ digit. digit < 10) front → SomeLeft rules longer minute front
left-here rules longer minute front takes size decimal =
    ([], record { size = rw append-nil size; decimal = rw append-nil decimal }, rw append-nil takes)

-- digits are all taken if all of those with one more are
one-more : (front more : List ℕ) (digit : ℕ) → IsWhole front (digit ∷ more) → IsWhole (front ++ digit ∷ []) more
one-more front more digit whole = record { size = rw append_assoc whole.size; decimal = rw append_assoc whole.decimal }

next-decimal : (front more : List ℕ) (digit : ℕ) → All (λ d. d < 10) (front ++ digit ∷ more) → digit < 10
next-decimal [] more digit decimal = decimal 0 digit (omega arith)
next-decimal (first ∷ front) more digit decimal = next-decimal front more digit (λ k d within. decimal (suc k) d (omega arith))

pub all-deeper : (rules : List Rule) (longer minute : ℕ) (front : List ℕ) → length front < 15
    → ((digit : ℕ) → digit < 10 → AllTaken rules longer minute (front ++ digit ∷ [])) → AllTaken rules longer minute front
all-deeper rules longer minute front short each = taken
  where
    taken : (more : List ℕ) → IsWhole front more → takes_any rules longer minute (front ++ more) ≡ true
    taken [] whole =
        let size = rw append-nil at whole.size in
        absurd (omega (arith, size))
    taken (digit ∷ more) whole =
        rw append_assoc at (each digit (next-decimal front more digit whole.decimal) more (one-more front more digit whole))

-- one is left if one of those with one more is
pub left-deeper : (rules : List Rule) (longer minute : ℕ) (front : List ℕ) (digit : ℕ) → SomeLeft rules longer minute (front ++ digit ∷ []) → SomeLeft rules longer minute front
left-deeper rules longer minute front digit (more, whole, left) =
    (digit ∷ more, record { size = rw append_assoc at whole.size; decimal = rw append_assoc at whole.decimal }, rw append_assoc at left)
