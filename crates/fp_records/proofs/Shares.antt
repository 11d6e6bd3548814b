-- The longest prefix and the sum of its weights, rule by rule.
use Rattle.std.proofs.Common.{◌≡◌, ◌+◌, ◌%◌, ◌<◌, ◌≤◌, ℕ, max, List, [], ◌∷◌, ◌++◌, Bool, true, false, ◌==◌, length, nat_lt, nat_eq, filter, fold, get_or, take, find, option_map, cond, Option, Some, None, if◌then◌else◌, refl, arith, append_assoc, length-append}
use Rattle.std.specs.List.{enumerate_from}
use Rattle.std.proofs.Math.Seq.{take-append-add}
use Rattle.std.proofs.lemmas.List.{append-nil, take_more}
use Rattle.std.proofs.lemmas.List.Elements.{filter-append}
use Rattle.std.proofs.lemmas.Bool.Decides.{nat_tests}
use Rattle.fp_records.specs.Choice.{by_share, longest_prefix, most_exact, of_length, rule_at_draw, total_weight}
use Rattle.fp_records.specs.Share.{total_with}
use Rattle.fp_records.specs.declared.rule.Rule.{Rule}

pub fold-append : {A B : Type 0} (f : B → A → B) (start : B) (xs ys : List A) → fold f start (xs ++ ys) ≡ fold f (fold f start xs) ys
fold-append f start [] ys = refl
fold-append f start (x ∷ xs) ys = fold-append f (f start x) xs ys

pub longest_prefix-more : (rules : List Rule) (rule : Rule) → longest_prefix (rules ++ rule ∷ []) ≡ max (longest_prefix rules) (length rule.prefix)
longest_prefix-more rules rule = fold-append (λ longest r. max longest (length r.prefix)) 0 rules (rule ∷ [])

of_length-append : (n : ℕ) (xs ys : List Rule) → of_length n (xs ++ ys) ≡ of_length n xs ++ of_length n ys
of_length-append n [] ys = refl
of_length-append n (x ∷ xs) ys = rw (of_length-append n xs ys) (by (length x.prefix == n) (of_length n xs) (of_length n ys))
  where
    by : (b : Bool) (us vs : List Rule) → (if b then x ∷ (us ++ vs) else us ++ vs) ≡ (if b then x ∷ us else us) ++ vs
    by true us vs = refl
    by false us vs = refl

longest-le : (from : ℕ) (rules : List Rule) → from ≤ fold (λ longest r. max longest (length r.prefix)) from rules
longest-le from [] = omega arith
longest-le from (rule ∷ rules) = omega (arith, longest-le (max from (length rule.prefix)) rules)

-- no rule has a prefix longer than the longest
none_longer : (n from : ℕ) (rules : List Rule) → fold (λ longest r. max longest (length r.prefix)) from rules < n → of_length n rules ≡ []
none_longer n from [] above = refl
none_longer n from (rule ∷ rules) above =
    let here = longest-le (max from (length rule.prefix)) rules in
    let apart : nat_eq (length rule.prefix) n ≡ false = grind (arith, nat_tests) in
    rw apart (none_longer n (max from (length rule.prefix)) rules above)

total_weight-append : (xs ys : List Rule) → total_weight (xs ++ ys) ≡ fold (λ total rule. total + rule.weight) (total_weight xs) ys
total_weight-append xs ys = fold-append (λ total rule. total + rule.weight) 0 xs ys

-- one more rule that fits
pub total_with-more : (rules : List Rule) (rule : Rule) → total_with (longest_prefix rules) (total_weight (most_exact rules)) rule ≡ total_weight (most_exact (rules ++ rule ∷ []))
total_with-more rules rule =
    rw (longest_prefix-more rules rule, of_length-append (max (longest_prefix rules) (length rule.prefix)) rules (rule ∷ []), total_weight-append (of_length (max (longest_prefix rules) (length rule.prefix)) rules) (of_length (max (longest_prefix rules) (length rule.prefix)) (rule ∷ [])))
    (by (nat_lt (longest_prefix rules) (length rule.prefix)) refl (length rule.prefix == longest_prefix rules) refl)
  where
    by : (longer : Bool) → nat_lt (longest_prefix rules) (length rule.prefix) ≡ longer → (same : Bool) → (length rule.prefix == longest_prefix rules) ≡ same
        → (if longer then rule.weight else if same then total_weight (most_exact rules) + rule.weight else total_weight (most_exact rules))
        ≡ fold (λ total r. total + r.weight) (total_weight (of_length (max (longest_prefix rules) (length rule.prefix)) rules)) (of_length (max (longest_prefix rules) (length rule.prefix)) (rule ∷ []))
    by true is same test =
        let below : longest_prefix rules < length rule.prefix = grind (arith, nat_tests) in
        let most : max (longest_prefix rules) (length rule.prefix) ≡ length rule.prefix = omega arith in
        let here : nat_eq (length rule.prefix) (length rule.prefix) ≡ true = grind (arith, nat_tests) in
        rw (most, none_longer (length rule.prefix) 0 rules below, here) (omega arith)
    by false is true test =
        let most : max (longest_prefix rules) (length rule.prefix) ≡ longest_prefix rules = grind (arith, nat_tests) in
        rw (most, test) refl
    by false is false test =
        let most : max (longest_prefix rules) (length rule.prefix) ≡ longest_prefix rules = grind (arith, nat_tests) in
        rw (most, test) refl

-- one more rule of a list
pub filter-more : (test : Rule → Bool) (rules : List Rule) (i : ℕ) (rule default : Rule) → i < length rules → rule ≡ get_or rules i default → test rule ≡ true
    → filter test (take (i + 1) rules) ≡ filter test (take i rules) ++ rule ∷ []
filter-more test rules i rule default within is passes =
    rw (take_more rules i default within, ← is, filter-append test (take i rules) (rule ∷ []), passes) refl

pub filter-same : (test : Rule → Bool) (rules : List Rule) (i : ℕ) (rule default : Rule) → i < length rules → rule ≡ get_or rules i default → test rule ≡ false
    → filter test (take (i + 1) rules) ≡ filter test (take i rules)
filter-same test rules i rule default within is fails =
    rw (take_more rules i default within, ← is, filter-append test (take i rules) (rule ∷ []), fails) (append-nil (filter test (take i rules)))

-- the first rule at which the sum of the weights, with those before, goes above the draw
abbrev pub first_above : ℕ → ℕ → List Rule → Option Rule
first_above draw before [] = None
first_above draw before (rule ∷ rules) =
    if nat_lt draw (before + rule.weight) then Some rule else first_above draw (before + rule.weight) rules

-- it is found among the places of the rules by what the rules up to each of them weigh
first_above-places : (draw : ℕ) (done rules : List Rule) → first_above draw (total_weight done) rules
    ≡ option_map (λ at. at.1) (find (λ at. nat_lt draw (total_weight (take (at.0 + 1) (done ++ rules)))) (enumerate_from (length done) rules))
first_above-places draw done [] = refl
first_above-places draw done (rule ∷ rules) =
    let front : take (length done + 1) (done ++ rule ∷ rules) ≡ done ++ rule ∷ [] = take-append-add done (rule ∷ rules) 1 in
    let sum : total_weight (done ++ rule ∷ []) ≡ total_weight done + rule.weight = total_weight-append done (rule ∷ []) in
    let more = rw (sum, append_assoc done (rule ∷ []) rules, length-append done (rule ∷ [])) at (first_above-places draw (done ++ rule ∷ []) rules) in
    rw (front, sum) (by (nat_lt draw (total_weight done + rule.weight)) more)
  where
    by : (here : Bool)
        → first_above draw (total_weight done + rule.weight) rules ≡ option_map (λ at. at.1) (find (λ at. nat_lt draw (total_weight (take (at.0 + 1) (done ++ rule ∷ rules)))) (enumerate_from (length done + 1) rules))
        → (if here then Some rule else first_above draw (total_weight done + rule.weight) rules)
        ≡ option_map (λ at. at.1) (cond here (Some (length done, rule)) (find (λ at. nat_lt draw (total_weight (take (at.0 + 1) (done ++ rule ∷ rules)))) (enumerate_from (length done + 1) rules)))
    by true more = refl
    by false more = more

pub first_above-draw : (draw : ℕ) (rules : List Rule) → first_above draw 0 rules ≡ rule_at_draw draw rules
first_above-draw draw rules = first_above-places draw [] rules

-- no rule is above a draw that is no less than all weights
none_above : (draw before : ℕ) (rules : List Rule) → fold (λ total rule. total + rule.weight) before rules ≤ draw → first_above draw before rules ≡ None
none_above draw before [] above = refl
none_above draw before (rule ∷ rules) above =
    let rest = total-le (before + rule.weight) rules in
    let high : nat_lt draw (before + rule.weight) ≡ false = grind (arith, nat_tests) in
    rw high (none_above draw (before + rule.weight) rules above)
  where
    total-le : (from : ℕ) (others : List Rule) → from ≤ fold (λ total r. total + r.weight) from others
    total-le from [] = omega arith
    total-le from (other ∷ others) = omega (arith, total-le (from + other.weight) others)

-- without weight there is no share
pub none_without_weight : (draw : ℕ) (rules : List Rule) → total_weight rules ≡ 0 → rule_at_draw draw rules ≡ None
none_without_weight draw rules none = rw (← first_above-draw draw rules) (none_above draw 0 rules (omega arith))

-- the rule at the draw, over what was found of the share
pub by_share-is : (birth longest total : ℕ) (rules : List Rule) → longest ≡ longest_prefix rules → total ≡ total_weight (of_length longest rules)
    → by_share birth (most_exact rules) ≡ rule_at_draw (birth % total) (of_length longest rules)
by_share-is birth longest total rules same sum = rw (sum, same) refl
