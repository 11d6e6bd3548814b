-- The faults of fields and of records, one after another.
use Rattle.std.proofs.Common.{◌≡◌, ◌<◌, ◌≤◌, ℕ, ◌+◌, suc, List, [], ◌∷◌, ◌++◌, Some, add-one, append_assoc, append-nil, drop, drop-cons, get_or, length, sym, ap, ◌∙◌, arith}
use Rattle.std.specs.List.{enumerate_from, flat_map}
use Rattle.std.specs.Prelude.{is_some}
use Rattle.std.proofs.lemmas.List.{drop_all}
use Rattle.csv.specs.Records.{field_at, fields_of}
use Rattle.fp_records.specs.Digits.{some_digits_of}
use Rattle.fp_records.specs.declared.fault.Reason.TheVariants.{BadDestination}
use Rattle.fp_records.specs.declared.version.Version.{Version}
use Rattle.fp_records.proofs.Places.{drop-field}
use Rattle.fp_lint.specs.Faults.{item_faults, items_faults, unless_good}
use Rattle.fp_lint.specs.Rows.{rows_in}
use Rattle.fp_lint.specs.declared.fault.Fault.{Fault}
use Rattle.fp_lint.specs.declared.fault.Part.TheVariants.{Field}
use Rattle.fp_lint.specs.declared.rows.Row.{Row}

-- the faults of fields, of which the first has this place
abbrev pub destinations_from : ℕ → ℕ → List (List ℕ) → List Fault
destinations_from at place texts = flat_map (λ field. unless_good (is_some (some_digits_of field.1)) at (Field field.0) BadDestination) (enumerate_from place texts)

pub next-destination : (at place : ℕ) (fields : List (List ℕ)) (text : List ℕ) (old new whole : List Fault) → Some text ≡ field_at fields place
    → old ++ destinations_from at place (drop place fields) ≡ whole → new ≡ old ++ unless_good (is_some (some_digits_of text)) at (Field place) BadDestination
    → new ++ destinations_from at (place + 1) (drop (place + 1) fields) ≡ whole
next-destination at place fields text old new whole there before new_is =
    let cut : drop place fields ≡ text ∷ drop (place + 1) fields =
    drop-field fields place text there ∙ ap (λ n. text ∷ drop n fields) (sym (add-one place)) in
    let here = rw cut at before in
    rw (new_is, append_assoc) here

pub no-destination : (at place : ℕ) (fields : List (List ℕ)) (old whole : List Fault) → length fields ≤ place
    → old ++ destinations_from at place (drop place fields) ≡ whole → old ≡ whole
no-destination at place fields old whole past before =
    let none = rw (drop_all place fields past) at before in
    sym (append-nil old) ∙ none

pub next-item : (version : Version) (first index : ℕ) (rows : List Row) (row : Row) (old new whole : List Fault) → index < length rows → row ≡ get_or rows index row
    → old ++ items_faults version (first + index) (rows_in (drop index rows)) ≡ whole → new ≡ old ++ item_faults version (first + index) (fields_of row.fields)
    → new ++ items_faults version (first + (index + 1)) (rows_in (drop (index + 1) rows)) ≡ whole
next-item version first index rows row old new whole within is before new_is =
    let cut : drop index rows ≡ row ∷ drop (index + 1) rows =
    drop-cons rows index row within ∙ (ap (λ r. r ∷ drop (suc index) rows) (sym is) ∙ ap (λ n. row ∷ drop n rows) (sym (add-one index))) in
    let place : first + (index + 1) ≡ first + index + 1 = omega arith in
    let here = rw cut at before in
    rw (new_is, place, append_assoc) here

pub no-item : (version : Version) (first index : ℕ) (rows : List Row) (old whole : List Fault) → length rows ≤ index
    → old ++ items_faults version (first + index) (rows_in (drop index rows)) ≡ whole → old ≡ whole
no-item version first index rows old whole past before =
    let none = rw (drop_all index rows past) at before in
    sym (append-nil old) ∙ none

-- nine times some faults after others
pub joined-nine : (old a b c d e f g h i rest n1 n2 n3 n4 n5 n6 n7 n8 n9 new : List Fault)
    → n1 ≡ old ++ a → n2 ≡ n1 ++ b → n3 ≡ n2 ++ c → n4 ≡ n3 ++ d → n5 ≡ n4 ++ e → n6 ≡ n5 ++ f → n7 ≡ n6 ++ g → n8 ≡ n7 ++ h → n9 ≡ n8 ++ i → new ≡ n9 ++ rest
    → new ≡ old ++ ((a ++ (b ++ (c ++ (d ++ (e ++ (f ++ (g ++ (h ++ [])))))))) ++ (i ++ rest))
joined-nine old a b c d e f g h i rest n1 n2 n3 n4 n5 n6 n7 n8 n9 new e1 e2 e3 e4 e5 e6 e7 e8 e9 last =
    rw (last, e9, e8, e7, e6, e5, e4, e3, e2, e1) (simp append_assoc)

-- two and three times
pub joined-two : (old a b n1 n2 : List Fault) → n1 ≡ old ++ a → n2 ≡ n1 ++ b → n2 ≡ old ++ (a ++ b)
joined-two old a b n1 n2 e1 e2 = rw (e2, e1) (append_assoc old a b)

pub joined-three : (old a b c n1 n2 n3 : List Fault) → n1 ≡ old ++ a → n2 ≡ n1 ++ b → n3 ≡ n2 ++ c → n3 ≡ old ++ (a ++ (b ++ c))
joined-three old a b c n1 n2 n3 e1 e2 e3 = rw (e3, e2, e1) (simp append_assoc)
