-- What a book logs of a step, and what the history tells of it.
use Rattle.fp_steps.proofs.Names.{greatest_place, cond_some, nat_le, placed, ⊤, first_step, option_to_list, Bool, ClocksAt, Content, Due, Err, Event, FramesBorn, IfOk, IsOut, List, LoggedStep, MakesOf, None, Ok, Option, Output, PicksParcel, Posted, Prepared, PutsTurnBack, Result, Row, Sends, Shelf, Some, Sound, Step, Ticks, Tied, Turn, Waiting, [], ap, append-nil, arith, being_sent, birth_out, birth_picked, birth_under, cases_Bool, cond, eqb, eqb-true, false, filter, followed_log, get, handed, is_idle, is_written, known_turn, length, list_any, local_if_out, local_of, log_with, logged, map_list, named, nat_cmp-IsAntisymmetric, nat_eq, nat_lt, nat_tests, nil_from_length, not, option_map, option_map_or, parcel_birth, parcel_local, positions, posted_line, refl, same_Some, same_map, step_of, subst, sym, tick_in, told, told_back, told_from, told_message, told_tick, true, unsent_frames, written, ℕ, ⊎_elim, ◌++◌, ◌+◌, ◌∙◌, ◌∷◌, ◌≡◌}
use Rattle.std.specs.Cmp.{nat_cmp_total}
use Rattle.fp_book.specs.Log as book
use Rattle.fp_steps.proofs.Cases.{Cases, by_made}
use Rattle.fp_steps.proofs.HeldDialogues.{Held, count_tied, held_of, not_abort}
use Rattle.fp_steps.proofs.TieAtParcels.{held, out_there}
use Rattle.fp_steps.proofs.TieAtTurns.{place_of}

-- what holds of a value holds of it with more
pub if_ok : {T E : Type 0} → (P Q : T → Type 0) (r : Result T E) → ((x : T) → P x → Q x) → IfOk r P → IfOk r Q
if_ok P Q (Ok x) more p = more x p
if_ok P Q (Err e) more p = tt

-- the line that was taken out of a log is its first
pub line_from : (log : List LoggedStep) (step : Step) (output : Output) {first line : Option LoggedStep} → first ≡ first_step log → line ≡ told_from (option_to_list first) step output → line ≡ told_from log step output
line_from [] step output is line_is = line_is ∙ ap (λ o. told_from (option_to_list o) step output) is
line_from (one ∷ log) step output is line_is = line_is ∙ ap (λ o. told_from (option_to_list o) step output) is

-- nothing but the log changes
pub rest_then : (a b c : Shelf) → b ≡ record a { log = b.log } → c ≡ record b { log = c.log } → c ≡ record a { log = c.log }
rest_then a b c first second = second ∙ ap (λ (s : Shelf). record s { log = c.log }) first

-- BIRTHS

-- of a frame that waits or is out
frame_birth : {h : List Event} {s : Shelf} (w : Waiting) (rest : List Waiting) (row : Row) → Tied h s → Sound s → get s.rows w.local ≡ Some row → unsent_frames s.outbox ≡ w ∷ rest → birth_under w.local (named h w.local) ≡ w.birth
frame_birth {h} {s} w rest row t k was first =
    let born : FramesBorn w.local row.birth (w ∷ rest) = subst (FramesBorn w.local row.birth) first (k.own w.local row was).frames_born in
    ap (λ b. cond {A = ℕ} b 0 (option_map_or (λ d. d) (named h w.local) 0)) (not_abort w.local row t was) ∙ ap (λ o. option_map_or (λ (d : ℕ). d) o 0) (t.names w.local row was) ∙ sym (born.0 refl)

-- of what is out
pub out_birth : {h : List Event} {s : Shelf} (content : Content) → Tied h s → Sound s → s.outbox.out ≡ Some content → birth_out h ≡ Some (parcel_birth content)
out_birth {h} {s} (Content.Abort frame) t k is = ap (option_map (λ o. birth_under o.local o.dialogue)) (t.is_out ∙ ap (option_map (handed h)) is)
out_birth {h} {s} (Content.Frame w) t k is =
    let there = out_there w k is in
    ap (option_map (λ o. birth_under o.local o.dialogue)) (t.is_out ∙ ap (option_map (handed h)) is)
    ∙ ap Some (frame_birth w s.outbox.frames there.0 t k there.1 (ap (λ o. being_sent o ++ s.outbox.frames) is))

-- of what is picked
pub picked_birth : {h : List Event} {s new : Shelf} (content : Content) → Tied h s → Sound s → PicksParcel s content new → birth_under (parcel_local content) (named h (parcel_local content)) ≡ parcel_birth content
picked_birth (Content.Abort frame) t k g = refl
picked_birth {h} {s} (Content.Frame w) t k g =
    let there = held w g.rest.frames k g.next.2 in
    frame_birth w g.rest.frames there.0 t k there.1 (ap (λ o. being_sent o ++ s.outbox.frames) g.none_out ∙ g.next.2)

-- THE LINES OF A BOOK

-- of what was out
pub sent_line : (s : Shelf) (content : Content) (after : Shelf) → Sends s content after → after.log ≡ book.logged s.log (LoggedStep.Sent (parcel_birth content))
sent_line s (Content.Abort frame) after g = ap (λ (s : Shelf). s.log) g.new_is
sent_line s (Content.Frame w) after g = ap (λ (s : Shelf). s.log) g.new_is

-- the turn that is out is the one that goes back
pub back_told : {h : List Event} {s new : Shelf} {turn : Turn} → Tied h s → (g : PutsTurnBack s turn new) → Some (LoggedStep.PutBack g.before.birth turn.position) ≡ told_back h (Step.PutBack turn.local)
back_told {h} {turn} t g =
    let l = turn.local in let b = g.before.birth in
    let held : Held h l b g.before = held_of l g.before t g.was in
    let place : length (positions h b) ≡ turn.position = count_tied held.tied ∙ place_of (known_turn g.before turn g.puts.was_out) in
    sym (ap (option_map (λ d. LoggedStep.PutBack d (length (positions h d)))) held.name ∙ ap (λ n. Some (LoggedStep.PutBack b n)) place)

-- what the log that was empty has of a step is told, or it is a tick at which no dialogue was due

abbrev log_after : Option LoggedStep → List LoggedStep
log_after o = log_with [] o

over_from : {X : Type 0} → (o : Option X) (of : X → LoggedStep) (step : Step) (output : Output) → ((x : X) → is_written (of x) ≡ true) → ((x : X) → placed step (of x) ≡ of x) → tick_in step output ≡ None
    → told_from (log_after (written (option_map of o))) step output ≡ option_map of o
over_from None of step output all same none = none
over_from (Some x) of step output all same none = ap (λ b. told_from (log_after (cond b (Some (of x)) None)) step output) (all x) ∙ ap Some (same x)

tick_by : (b : Bool) (line : LoggedStep) (step : Step) (output : Output) → placed step line ≡ line → tick_in step output ≡ Some line → told_from (log_after (cond b (Some line) None)) step output ≡ Some line
tick_by true line step output same is = ap Some same
tick_by false line step output same is = is

tick_from : (step : Step) (added wanting : ℕ) → told_from (log_after (written (told_tick step added wanting))) step (Output.Ticked added wanting) ≡ told_tick step added wanting
tick_from (Step.Tick moment) added wanting = tick_by (not (nat_eq (added + wanting) 0)) (LoggedStep.Tick moment added wanting) (Step.Tick moment) (Output.Ticked added wanting) refl refl
tick_from step added wanting = refl

back_from : (h : List Event) (step : Step) → told_from (log_after (written (told_back h step))) step Output.WentBack ≡ told_back h step
back_from h (Step.PutBack local) = over_from (named h local) (λ d. LoggedStep.PutBack d (length (positions h d))) (Step.PutBack local) Output.WentBack (λ d. refl) (λ d. refl) refl
back_from h step = refl

-- whether an answer is that of a message
abbrev pub IsOther : Output → Type 0
IsOther (Output.Posted answer components) = ⊥
IsOther output = ⊤

from_written : (h : List Event) (step : Step) (output : Output) → IsOther output → told_from (log_after (written (told h step output))) step output ≡ told h step output
from_written h step (Output.Posted answer components) other = absurd other
from_written h step (Output.Ticked added wanting) other = tick_from step added wanting
from_written h step (Output.Took local position count) other = over_from (named h local) (λ d. LoggedStep.Take d position count) step (Output.Took local position count) (λ d. refl) (λ d. refl) refl
from_written h step (Output.Gave local position served given) other = over_from (named h local) (λ d. LoggedStep.Give d position served given) step (Output.Gave local position served given) (λ d. refl) (λ d. refl) refl
from_written h step Output.WentBack other = back_from h step
from_written h step Output.Sent other = over_from (birth_out h) (λ d. LoggedStep.Sent d) step Output.Sent (λ d. refl) (λ d. refl) refl
from_written h step Output.Unsent other = over_from (birth_out h) (λ d. LoggedStep.Unsent d) step Output.Unsent (λ d. refl) (λ d. refl) refl
from_written h step output other = refl

pub from_log : (h : List Event) (step : Step) (output : Output) (before after : List LoggedStep) → IsOther output → before ≡ [] → after ≡ log_with before (logged h step output) → told_from after step output ≡ told h step output
from_log h step output before after other empty logs = ap (λ log. told_from log step output) (logs ∙ ap (λ log. log_with log (logged h step output)) empty) ∙ from_written h step output other

-- WHAT ISN'T WRITTEN

none_due : (due : Bool) (step : LoggedStep) → cond (not due) (Some step) None ≡ None → due ≡ true
none_due due step e = grind (arith, nat_tests)

-- a tick at which no dialogue was due
tick_stays : {s : Shelf} {moment added wanting : ℕ} {mid : Shelf} → Ticks s moment added wanting mid → nat_eq (added + wanting) 0 ≡ true → mid ≡ s
tick_stays {s} {moment} {added} {wanting} {mid} g none =
    let zero : added + wanting ≡ 0 = eqb-true (added + wanting) 0 none in
    let added_is : added ≡ 0 = omega (arith, zero) in
    let due : g.due ≡ [] = nil_from_length g.due (sym g.added_is ∙ added_is) in
    let rows : mid.rows ≡ s.rows = same_map nat_cmp_total nat_cmp-IsAntisymmetric mid.rows s.rows
    (λ local. subst (λ ds. ClocksAt (list_any (λ (d : Due). eqb d.1 local) ds) moment (get s.rows local) (get mid.rows local)) due (g.rows local))
    in
    let entries : s.entries + added ≡ s.entries = omega (arith, added_is) in
    let ready = ap (λ ds. s.ready ++ filter (λ local. is_idle (get s.rows local)) (map_list (λ (d : Due). d.1) ds)) due ∙ append-nil s.ready in
    g.new_is ∙ (λ i. record s { entries = entries i; rows = rows i; ready = ready i; log = cond (none i) s.log (book.logged s.log (LoggedStep.Tick moment added wanting)) })

-- a line that is written
one_logged : (before after : List LoggedStep) (line : LoggedStep) (step : Step) (output : Output) → before ≡ [] → after ≡ book.logged before line → is_written (placed step line) ≡ true → written (told_from after step output) ≡ None → ⊥
one_logged before after line step output empty logs is un =
    let told : told_from after step output ≡ Some (placed step line) = ap (λ log. told_from log step output) (logs ∙ ap (λ log. book.logged log line) empty) in
    let clash : Some (placed step line) ≡ None = sym (ap written told ∙ ap (λ b. cond b (Some (placed step line)) None) is) ∙ un in cc

posted_written : (step : Step) (p : Prepared) (answer : Posted) → is_written (placed step (posted_line p answer)) ≡ true
posted_written step (Prepared.Message arrival incoming) answer = refl
posted_written step (Prepared.Refused arrival fault) answer = refl
posted_written step (Prepared.Lost arrival) answer = refl

tick_unwritten : {s : Shelf} {moment added wanting : ℕ} {mid : Shelf} → Ticks s moment added wanting mid → s.log ≡ [] → written (told_from mid.log (Step.Tick moment) (Output.Ticked added wanting)) ≡ None → mid ≡ s
tick_unwritten {s} {moment} {added} {wanting} {mid} g empty un =
    let line = LoggedStep.Tick moment added wanting in
    ⊎_elim (λ none. tick_stays g none)
    (λ some. absurd (one_logged s.log mid.log line (Step.Tick moment) (Output.Ticked added wanting) empty
    (ap (λ (s : Shelf). s.log) g.new_is ∙ ap (λ b. cond b s.log (book.logged s.log line)) some) (ap not some) un))
    (cases_Bool (nat_eq (added + wanting) 0))

abbrev Unwritten : Shelf → Shelf → Step → Output → Type 0
Unwritten s new step output = s.log ≡ [] → written (told_from new.log step output) ≡ None → new ≡ s

unwritten : (came : Option Prepared) (s new : Shelf) → Cases (Unwritten s new) came s new
unwritten came s new = record {
  posted = λ step posting p answer components same count g totals empty un. absurd (one_logged s.log new.log (posted_line p answer) step (Output.Posted answer components) empty (followed_log s p answer new g) (posted_written step p answer) un);
  none_posted = λ step posting none same empty un. same;
  ticked = λ moment added wanting zero g empty un. tick_unwritten g empty un;
  took = λ turn g empty un. absurd (one_logged s.log new.log (LoggedStep.Take g.before.birth turn.position (length turn.entries)) Step.Take _ empty (ap (λ (s : Shelf). s.log) g.new_is) refl un);
  no_room = λ some full same empty un. same;
  none_taken = λ none same empty un. same;
  gave = λ done given g empty un. absurd (one_logged s.log new.log (LoggedStep.Give g.before.birth done.turn.position done.served given) _ _ empty (ap (λ (s : Shelf). s.log) g.new_is) refl un);
  none_given = λ local out same empty un. same;
  went_back = λ turn g empty un. absurd (one_logged s.log new.log (LoggedStep.PutBack g.before.birth turn.position) _ _ empty (ap (λ (s : Shelf). s.log) g.new_is) refl un);
  none_back = λ local out same empty un. same;
  picked = λ content frame octets g empty un. absurd (one_logged s.log new.log (LoggedStep.Pick (parcel_birth content)) _ _ empty (ap (λ (s : Shelf). s.log) g.new_is) refl un);
  busy = λ some same empty un. same;
  none_picked = λ none same empty un. same;
  sent = λ content g empty un. absurd (one_logged s.log new.log (LoggedStep.Sent (parcel_birth content)) _ _ empty (sent_line s content new g) refl un);
  none_sent = λ none same empty un. same;
  unsent = λ parcel g empty un. absurd (one_logged s.log new.log (LoggedStep.Unsent (parcel_birth parcel.content)) _ _ empty (ap (λ (s : Shelf). s.log) g.down.new_is) refl un);
  none_unsent = λ none same empty un. same;
  down = λ g empty un. absurd (one_logged s.log new.log LoggedStep.Down _ _ empty (ap (λ (s : Shelf). s.log) g.new_is) refl un);
}

-- what isn't written changed nothing
pub unwritten_is : (step : Step) (came : Option Prepared) (output : Output) (s new : Shelf) → MakesOf step came output s new → s.log ≡ [] → written (told_from new.log step output) ≡ None → new ≡ s
unwritten_is step came output s new g = by_made (Unwritten s new) step output (unwritten came s new) g

-- WHICH STEP IS TOLD

step_is : (h : List Event) (line other : LoggedStep) (step : Step) → Some other ≡ Some line → step_of h other ≡ Some step → step_of h line ≡ Some step
step_is h line other step e is = ap (step_of h) (sym (same_Some other line e)) ∙ is

over_step : {X : Type 0} → (h : List Event) (o : Option X) (of : X → LoggedStep) (other : LoggedStep) (step : Step) → option_map of o ≡ Some other → ((n : X) → step_of h (of n) ≡ Some step) → step_of h other ≡ Some step
over_step h None of other step e is = absurd (cc)
over_step h (Some n) of other step e is = step_is h other (of n) step e (is n)

message_step : (h : List Event) (step : Step) (answer : Posted) (other : LoggedStep) → told_message greatest_place step answer ≡ Some other → step_of h other ≡ Some step
message_step h (Step.Post table frame moment) answer other e =
    step_is h other (LoggedStep.Post table moment frame answer) (Step.Post table frame moment) (ap Some (cond_some (nat_le table greatest_place) (LoggedStep.Post table moment frame answer) other e).1) refl
message_step h (Step.Lost frame moment) answer other e = step_is h other (LoggedStep.Lost moment frame answer) (Step.Lost frame moment) e refl
message_step h step answer other e = absurd (cc)

-- the turn of a dialogue that is out
out_at : {h : List Event} {s : Shelf} (local : ℕ) (row : Row) (turn : Turn) → Tied h s → get s.rows local ≡ Some row → IsOut row turn → local_if_out h row.birth ≡ Some local
out_at {h} local row turn t was is =
    let held : Held h local row.birth row = held_of local row t was in
    ap (λ b. cond b (Some (local_of h row.birth)) None) (ap (nat_lt 0) held.tied.outs ∙ is.is_out) ∙ ap Some (sym held.place)

abbrev TellsStep : List Event → Step → Output → Type 0
TellsStep h step output = (other : LoggedStep) → told h step output ≡ Some other → step_of h other ≡ Some step

tells_step : {h : List Event} (came : Option Prepared) {s : Shelf} (new : Shelf) → Tied h s → Cases (TellsStep h) came s new
tells_step {h} came {s} new t = record {
  posted = λ step posting p answer components same count g totals other e. message_step h step answer other e;
  none_posted = λ step posting none same other e. absurd (cc);
  ticked = λ moment added wanting zero g other e. step_is h other (LoggedStep.Tick moment added wanting) (Step.Tick moment) e refl;
  took = λ turn g other e. over_step h (named h turn.local) (λ d. LoggedStep.Take d turn.position (length turn.entries)) other Step.Take e (λ n. refl);
  no_room = λ some full same other e. absurd (cc);
  none_taken = λ none same other e. absurd (cc);
  gave = λ done given g other e.
      let l = done.turn.local in let b = g.before.birth in
      step_is h other (LoggedStep.Give b done.turn.position done.served given) (Step.Give l)
      (sym (ap (option_map (λ d. LoggedStep.Give d done.turn.position done.served given)) (t.names l g.before g.was)) ∙ e)
      (ap (option_map (λ n. Step.Give n)) (out_at l g.before done.turn t g.was (known_turn g.before done.turn g.gives.was_out)));
  none_given = λ local out same other e. absurd (cc);
  went_back = λ turn g other e.
      let l = turn.local in let b = g.before.birth in
      step_is h other (LoggedStep.PutBack b (length (positions h b))) (Step.PutBack l)
      (sym (ap (option_map (λ d. LoggedStep.PutBack d (length (positions h d)))) (t.names l g.before g.was)) ∙ e)
      (ap (option_map (λ n. Step.PutBack n)) (out_at l g.before turn t g.was (known_turn g.before turn g.puts.was_out)));
  none_back = λ local out same other e. absurd (cc);
  picked = λ content frame is g other e. step_is h other (LoggedStep.Pick (birth_picked h (parcel_local content))) Step.Pick e refl;
  busy = λ some same other e. absurd (cc);
  none_picked = λ none same other e. absurd (cc);
  sent = λ content g other e. over_step h (birth_out h) (λ d. LoggedStep.Sent d) other Step.Sent e (λ n. refl);
  none_sent = λ none same other e. absurd (cc);
  unsent = λ parcel g other e. over_step h (birth_out h) (λ d. LoggedStep.Unsent d) other Step.Unsent e (λ n. refl);
  none_unsent = λ none same other e. absurd (cc);
  down = λ g other e. step_is h other LoggedStep.Down Step.Down e refl;
}

-- the line of a step tells of that step
pub line_step : {h : List Event} (step : Step) (came : Option Prepared) (output : Output) {old : Shelf} (new : Shelf) → Tied h old → MakesOf step came output old new → (other : LoggedStep) → told h step output ≡ Some other → step_of h other ≡ Some step
line_step {h} step came output new t g = by_made (TellsStep h) step output (tells_step came new t) g
