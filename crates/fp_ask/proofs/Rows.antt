-- What waits of a dialogue, and whether it goes on.
use Rattle.std.proofs.Common.{◌≡◌, ℕ, ◌≤◌, Bool, true, false, cond, eqb, not, ◌&&◌, ◌||◌, nat_lt, Option, Some, None, is_some, List, [], ◌++◌, length, drop, refl, sym, ◌∙◌, ap, arith, append-nil, length-drop}
use Rattle.std.specs.FinMap as fin
use Rattle.std.proofs.lemmas.Bool.{ltb-true}
use Rattle.std.proofs.lemmas.Bool.Decides.{nat_tests}
use Rattle.std.proofs.lemmas.List.{drop_all}
use Rattle.fp_book.proofs.Changes.{by_held, not_held, turns_none}
use Rattle.fp_book.proofs.Sums.{OneChanges, left_of}
use Rattle.fp_book.specs.Calls.{joins}
use Rattle.fp_entry.specs.declared.entry.Entry.{Entry}
use Rattle.fp_row.specs.declared.ending.Ending.{Ending}
use Rattle.fp_row.specs.declared.row.Row.{Row}
use Rattle.fp_row.specs.Calls.{IsSame}
use Rattle.fp_row.specs.Row.{is_closed, is_ready, waiting_of, waits, has_turn_out}
use Rattle.fp_service.specs.Dialogue.{is_over}
use Rattle.fp_ask.specs.Solo.{Dialogue, found, jobs_for}
use Rattle.fp_ask.specs.Tied.{Rows, Same, dialogue_of, is_out, live}
use Rattle.fp_ask.specs.proof_only.Serving.{jobs_in, waiting_at}
use Rattle.fp_ask.proofs.Dialogues.{by_number}

-- by its parts: what waits,
none_by : (out closed over : Bool) (n k : ℕ) (xs : List Entry) → k ≡ 0 → out ≡ false → (not out && (not closed && (not over && nat_lt n (length xs)))) ≡ false
    → cond (closed || over) [] (drop k (drop n xs)) ≡ []
none_by out closed over n k xs z o h =
    ap (λ k. cond (closed || over) [] (drop k (drop n xs))) z ∙ (let none : cond (closed || over) [] (drop n xs) ≡ [] = grind (arith, nat_tests, drop_all) in none)

-- of a dialogue that isn't ready, and of which no turn is out, no entry waits
pub none_waits : (row : Row) → has_turn_out row ≡ false → is_ready row ≡ false → waiting_of row ≡ []
none_waits row o h = none_by (has_turn_out row) (is_closed row.ended) (is_over row.core) row.served row.out row.accepted (turns_none row o) o h

-- whether it is ready,
ready_by : (out closed over : Bool) (n k : ℕ) (xs : List Entry) → (out ≡ false → k ≡ 0) → cond (closed || over) [] (drop k (drop n xs)) ≡ []
    → (not out && (not closed && (not over && nat_lt n (length xs)))) ≡ false
ready_by false false false n k xs none h =
    let le : length xs ≤ n = omega (arith, length-drop n xs, ap length (sym (ap (λ k. drop k (drop n xs)) (none refl)) ∙ h)) in grind (arith, ltb-true)
ready_by out closed over n k xs none h = refl

-- one of which no entry waits isn't ready
pub none_ready : (row : Row) → waiting_of row ≡ [] → is_ready row ≡ false
none_ready row h = ready_by (has_turn_out row) (is_closed row.ended) (is_over row.core) row.served row.out row.accepted (turns_none row) h

-- what waits for nothing is not ready
both_by : (out waits : Bool) → waits ≡ false → (not out && waits) ≡ false
both_by out waits w = grind (arith, nat_tests)

-- what is dropped is no more
pub cut : (b : Bool) (d : ℕ) (xs : List Entry) → (length (cond b [] xs) ≤ length xs) × (length (jobs_for d (cond b [] xs)) ≤ length (jobs_for d xs))
cut true d xs = (omega arith, omega arith)
cut false d xs = (omega arith, omega arith)

-- what is left of a dialogue is unchanged: whether it goes on,
pub live_left : (row : Row) → live (left_of row) ≡ live (Some row)
live_left row = by_held row (λ o. live o ≡ live (Some row)) (λ h. refl) (λ h. sym (ap (λ b. cond b (Some (dialogue_of row)) None) (not_held row h).admitted))

-- what waits,
pub waiting_left : (row : Row) → waiting_at (left_of row) ≡ waiting_of row
waiting_left row = by_held row (λ o. waiting_at o ≡ waiting_of row) (λ h. refl)
    (λ h. let n = not_held row h in sym (none_waits row n.is_out (both_by (has_turn_out row) (waits row) n.waits)))

-- and that no turn is out
pub out_left : (row : Row) → has_turn_out row ≡ false → is_out (left_of row) ≡ false
out_left row o = by_held row (λ o. is_out o ≡ false) (λ h. o) (λ h. refl)

-- whether a dialogue goes on, by its end and what the plain list has of it
pub live_is : (row : Row) (ended : Option Ending) (t : Dialogue) → row.ended ≡ ended → dialogue_of row ≡ t → live (Some row) ≡ cond (not (is_some ended) && not (is_over t.core)) (Some t) None
live_is row ended t e is = λ i. cond (not (is_some (e i)) && not (is_over (is i).core)) (Some (is i)) None

-- a dialogue goes on as before if its end and its core are unchanged
pub live_stays : (before after : Row) → IsSame before after → after.ended ≡ before.ended → after.core ≡ before.core → live (Some after) ≡ live (Some before)
live_stays before after same ended core =
    live_is after before.ended (dialogue_of before) ended (λ i. record { birth = same.birth i; local = same.local i; peer = same.peer i; core = core i })

-- a dialogue that was ended from outside doesn't go on
pub ended_gone : (row : Row) (ending : Ending) → row.ended ≡ Some ending → live (Some row) ≡ None
ended_gone row ending e = live_is row (Some ending) (dialogue_of row) e refl

-- ONE DIALOGUE CHANGES

-- no turn is out after it,
pub outs_then : {old new : Rows} {d : ℕ} {before left : Option Row} → OneChanges old new d before left → ((k : ℕ) → is_out (fin.get old k) ≡ false) → is_out left ≡ false
    → (k : ℕ) → is_out (fin.get new k) ≡ false
outs_then {new = new} {d} c idle own k = by_number k d (λ k. is_out (fin.get new k) ≡ false) (ap is_out c.there ∙ own) (λ ne. ap is_out (c.others k ne) ∙ idle k)

-- and a list that finds it as it is then, and the others as before, has the dialogues that go on
pub same_then : {old new : Rows} {d : ℕ} {before left : Option Row} (dialogues then : List Dialogue) → OneChanges old new d before left → Same dialogues old
    → found d then ≡ live left → ((k : ℕ) → eqb k d ≡ false → found k then ≡ found k dialogues) → Same then new
same_then {new = new} {d} dialogues then c same own other k =
    by_number k d (λ k. found k then ≡ live (fin.get new k)) (own ∙ sym (ap live c.there)) (λ ne. other k ne ∙ same k ∙ ap live (sym (c.others k ne)))

-- THE QUEUE OF ONE DIALOGUE

-- a dialogue that waits for nothing isn't ready, and one that does is
pub joined : (rows : Rows) (d : ℕ) (waiting : List Entry) (ready : List ℕ) (b : Bool) → ready ≡ [] → waiting_at (fin.get rows d) ≡ waiting → (b ≡ false → waiting ≡ [])
    → (jobs_in (ready ++ joins d b) rows ≡ jobs_for d waiting) × (length (ready ++ joins d b) ≤ 1)
joined rows d waiting ready true none is free = rw none (append-nil (jobs_for d (waiting_at (fin.get rows d))) ∙ ap (jobs_for d) is, omega arith)
joined rows d waiting ready false none is free = rw none (ap (jobs_for d) (sym (free refl)), omega arith)
