-- What is known of the fields of a rule that are there.
use Rattle.std.proofs.Common.{◌≡◌, ◌<◌, ℕ, ◌+◌, ◌-◌, zero, suc, List, ◌∷◌, [], true, false, ◌||◌, Option, Some, None, length, ap, subst, sym, ◌∙◌, arith, refl}
use Rattle.std.specs.Prelude.{is_some, not, option_and_then}
use Rattle.csv.specs.Records.{field_at}
use Rattle.fp_records.specs.Fields.{differ, has_form, read_at, takes, times_differ, verb_of}
use Rattle.fp_records.specs.Window.{time_of}
use Rattle.fp_lint.specs.Faults.{count_fits}
use Rattle.fp_lint.proofs.FieldForms.{differ_from-none}

-- a field that is there is within the record
pub at-within : (fields : List (List ℕ)) (place : ℕ) (text : List ℕ) → Some text ≡ field_at fields place → place < length fields
unfolding field_at
at-within [] place text at = cc at
at-within (first ∷ rest) zero text at = omega arith
at-within (first ∷ rest) (suc place) text at = let below = at-within rest place text at in omega (arith, below)

-- an action that is one takes as many fields as there are, or the count does not fit
pub count-known : (fields : List (List ℕ)) (text : List ℕ) → Some text ≡ field_at fields 6 → is_some (verb_of text) ≡ true
    → takes (verb_of text) (7 + (length fields - 7)) ≡ count_fits fields
count-known fields text there is = by (field_at fields 6) there
  where
    size : 7 + (length fields - 7) ≡ length fields
    size = let within = at-within fields 6 text there in omega (arith, within)

    by : (read : Option (List ℕ)) → Some text ≡ read
        → takes (verb_of text) (7 + (length fields - 7)) ≡ (not (has_form verb_of read) || takes (option_and_then verb_of read) (length fields))
    by None at = cc at
    by (Some other) at =
        let same : text ≡ other = cc at in
        subst (λ word. takes (verb_of text) (7 + (length fields - 7)) ≡ (not (is_some (verb_of word)) || takes (verb_of word) (length fields))) same
        (ap (takes (verb_of text)) size ∙ sym (ap (λ known. not known || takes (verb_of text) (length fields)) is))

-- times of which the second is none are not the same
none-of : (time : Option ℕ) → is_some time ≡ false → time ≡ None
none-of None is = refl
none-of (Some minute) is = cc is

pub window-none : (fields : List (List ℕ)) (to : List ℕ) → Some to ≡ field_at fields 4 → is_some (time_of 1440 to) ≡ false → true ≡ times_differ fields
window-none fields to there is = by (field_at fields 4) there
  where
    by : (read : Option (List ℕ)) → Some to ≡ read → true ≡ differ (read_at 3 (time_of 1439) fields) (option_and_then (time_of 1440) read)
    by None at = cc at
    by (Some other) at =
        let same : to ≡ other = cc at in
        let none = none-of (time_of 1440 other) (subst (λ text. is_some (time_of 1440 text) ≡ false) same is) in
        sym (ap (differ (read_at 3 (time_of 1439) fields)) none ∙ differ_from-none (read_at 3 (time_of 1439) fields))
