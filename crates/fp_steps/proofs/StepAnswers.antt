-- Each step is answered as its history tells, and keeps its link and its tag.
use Rattle.fp_steps.proofs.Names.{Bool, ByAge, Content, Done, Ending, Event, Freed, Given, GivesDone, Handed, IsAnswer, IsLongestReady, IsNext, IsOut, IsReadyBefore, IsTied, KeepsOrder, Lined, List, MakesOf, None, Option, Outbox, Output, PicksParcel, Prepared, PutsTurnBack, QueuedFrame, Request, Row, RowsKeepTheirOrder, Sends, Shelf, Some, Sorted, Sound, Step, TakesTurn, Ticks, Tied, TiedAt, Turn, Waiting, [], aborts_waiting, amount, ap, arith, as_waiting, base, base_of, births, cond, core_of, count, count-cons, count_out, cut, due_at, ending, eqb, eqb-false, false, false_from_ne_true, frame_octets, frame_of, gave, get, given_for, given_of, handed, how_many, if_out, is_closed, is_due, is_over, is_ready, is_sending, is_some, known_turn, length, length-map, local_of, map_list, min, most_entries, most_places, named, nat_lt, nat_tests, ne_eqb, next_served, not, octets_of, one_if, option_map, option_map_or, out, parcel_local, parcel_octets, places, places_held, places_out, positions, posted, put_back, refl, requested_of, requests, row_at, row_turn, same_Some, story, subst, sum_of, sym, take, ticked, true, turn_of, turn_out, turns_of, unserved, waiting, waiting_ready, ℕ, ◌-◌, ◌<◌, ◌||◌, ◌∙◌, ◌∷◌, ◌≡◌, ◌≢◌}
use Rattle.fp_steps.proofs.Cases.{Cases, IsPost, by_made}
use Rattle.fp_steps.proofs.HeldDialogues.{Held, by_option, core_tied, count_tied, held_at, held_of, not_abort, row_named, unserved_tied}
use Rattle.fp_steps.proofs.MessageAnswers.{posted_is}
use Rattle.fp_steps.proofs.QueueInOrder.{InQueue, all_at, in_queue, queued_at, ready_at, ready_held, ready_is, first_in}
use Rattle.fp_steps.proofs.SumsOverBirths.{sum_is}
use Rattle.fp_steps.proofs.TieAtParcels.{out_there}
use Rattle.fp_steps.proofs.TieAtTicks.{due_at_is}
use Rattle.fp_steps.proofs.TieAtTurns.{count_served, frames_served, place_of as turn_place, served_now}
use Rattle.fp_steps.proofs.TokensKept.{follows_untouched}
use Rattle.fp_steps.proofs.WaitingAtSteps.{First, aborts_wait, first_of}
use Rattle.fp_row.specs.Row.{has_turn_out, waiting_of}

-- no turn of a dialogue is out where the book has none
no_turn : RowsKeepTheirOrder → (row : Row) (b : Bool) → has_turn_out row ≡ b → row_turn row ≡ None → b ≡ false
no_turn law row true out none = let k : KeepsOrder row = law row in absurd (k.next out none)
no_turn law row false out none = refl

none_out : RowsKeepTheirOrder → {h : List Event} {s : Shelf} (local d : ℕ) → Tied h s → named h local ≡ Some d → turn_of (get s.rows local) ≡ None → turn_out h d ≡ false
none_out law {h} {s} local d t name none = by_option (λ o. TiedAt (births h) d (story h d) o → turn_of o ≡ None → turn_out h d ≡ false) (row_at h s d)
    (λ was tied no. ap (nat_lt 0) tied.outs) (λ row was tied no. ap (nat_lt 0) tied.outs ∙ no_turn law row (has_turn_out row) refl no)
    (t.rows d) (ap turn_of (row_named local d t name) ∙ none)

-- GIVE

pub gave_none : RowsKeepTheirOrder → {h : List Event} {s : Shelf} (local : ℕ) → Tied h s → turn_of (get s.rows local) ≡ None → Output.Nothing ≡ gave h local (named h local)
gave_none law {h} local t none = by_option (λ o. Output.Nothing ≡ gave h local o) (named h local) (λ name. refl) (λ d name.
    sym (ap (λ b. cond b (Output.Gave local (length (positions h d)) (length (next_served h d)) (given_for (is_sending h d) (requests (core_of h d) (next_served h d)))) Output.Nothing) (none_out law local d t name none)))

given_by : (ended : Option Ending) (asked : List Request) (frame : Request → List ℕ) → given_of (requested_of ended (map_list frame asked)) ≡ given_for (not (is_some ended)) asked
given_by None [] frame = refl
given_by None (request ∷ asked) frame = ap Given.Queued (length-map (request ∷ asked) frame)
given_by (Some ending) [] frame = refl
given_by (Some ending) (request ∷ asked) frame = ap Given.Dropped (length-map (request ∷ asked) frame)

-- the entries of a dialogue that are served next are those of its row
next_tied : (h : List Event) {row : Row} {d : ℕ} → IsTied d (story h d) row → next_served h d ≡ served_now row
next_tied h k = λ i. cut (core_tied k i) (take (k.outs i) (unserved_tied h k i))

-- the end of the link closes all dialogues
sends_by : (down : Bool) (ended : Option Ending) → (down ≡ true → ended ≡ Some Ending.Closed) → not (down || is_some ended) ≡ not (is_some ended)
sends_by down ended closed = grind (arith, nat_tests)

pub gave_done : {h : List Event} {old new : Shelf} {done : Done} {given : Given} → Tied h old → Sound old → Lined h old → GivesDone old done given new
    → Output.Gave done.turn.local done.turn.position done.served given ≡ gave h done.turn.local (named h done.turn.local)
gave_done {h} {old} {done} {given} t k line g =
    let l = done.turn.local in let b = g.before.birth in
    let held : Held h l b g.before = held_of l g.before t g.was in
    let is : IsOut g.before done.turn = known_turn g.before done.turn g.gives.was_out in
    let place : length (positions h b) ≡ done.turn.position = count_tied held.tied ∙ turn_place is in
    let next : next_served h b ≡ served_now g.before = next_tied h held.tied in
    let count : length (next_served h b) ≡ done.served = ap length next ∙ sym (count_served done is) in
    let asked : List Request = requests g.before.core (served_now g.before) in
    let frame : Request → List ℕ = λ request. frame_of request g.before.local (octets_of g.before.peer) in
    let given_is : given_for (is_sending h b) (requests (core_of h b) (next_served h b)) ≡ given =
    (λ i. given_for (not (line.down i || is_some (held.tied.ends i))) (requests (core_tied held.tied i) (next i)))
    ∙ ap (λ x. given_for x asked) (sends_by old.is_down g.before.ended (k.own l g.before g.was).closed)
    ∙ sym (given_by g.before.ended asked frame)
    ∙ ap (λ fs. given_of (requested_of g.before.ended fs)) (sym (frames_served done is))
    ∙ sym (g.given_is ∙ ap given_of g.gives.requested_is) in
    let there : turn_out h b ≡ true = ap (nat_lt 0) held.tied.outs ∙ is.is_out in
    sym (ap (gave h l) held.name
    ∙ (λ i. cond (there i) (Output.Gave l (place i) (count i) (given_is i)) Output.Nothing))

-- PUT BACK

pub back_none : RowsKeepTheirOrder → {h : List Event} {s : Shelf} (local : ℕ) → Tied h s → turn_of (get s.rows local) ≡ None → Output.Nothing ≡ put_back h (named h local)
back_none law {h} local t none = by_option (λ o. Output.Nothing ≡ put_back h o) (named h local) (λ name. refl)
    (λ d name. sym (ap (λ b. cond b Output.WentBack Output.Nothing) (none_out law local d t name none)))

pub back_done : {h : List Event} {old new : Shelf} {turn : Turn} → Tied h old → PutsTurnBack old turn new → Output.WentBack ≡ put_back h (named h turn.local)
back_done {h} {turn} t g =
    let held : Held h turn.local g.before.birth g.before = held_of turn.local g.before t g.was in
    sym (ap (put_back h) held.name ∙ ap (λ x. cond x Output.WentBack Output.Nothing) (ap (nat_lt 0) held.tied.outs ∙ (known_turn g.before turn g.puts.was_out).is_out))

-- SENT, UNSENT

pub sent_out : (old : Shelf) (content : Content) (new : Shelf) → Sends old content new → old.outbox.out ≡ Some content
sent_out old (Content.Abort frame) new g = g.was_out
sent_out old (Content.Frame w) new g = g.was_out

pub if_is : {h : List Event} {s : Shelf} {o : Option Content} (output : Output) → Tied h s → s.outbox.out ≡ o → if_out (option_map (handed h) o) output ≡ if_out (out h) output
if_is {h} output t was = sym (ap (λ o. if_out o output) (t.is_out ∙ ap (option_map (handed h)) was))

-- TICK

pub ticked_is : {h : List Event} {old new : Shelf} {moment added wanting : ℕ} → Tied h old → wanting ≡ 0 → Ticks old moment added wanting new → Output.Ticked added wanting ≡ ticked h moment
ticked_is {h} {old} {moment} {added} t none g =
    let due : how_many (births h) (is_due h moment) ≡ sum_of (λ row. cond {A = ℕ} (due_at old moment row) 1 0) old.rows =
    sum_is (λ row. cond {A = ℕ} (due_at old moment row) 1 0) (λ d. cond {A = ℕ} (is_due h moment d) 1 0) t (λ d first last. due_at_is moment d (row_at h old d) t refl (t.rows d))
    in
    let is : added ≡ how_many (births h) (is_due h moment) = omega (arith, g.wanting_is, none, due) in
    λ i. Output.Ticked (is i) (none i)

-- PLACES

abbrev place_of : Option Handed → ℕ
place_of o = option_map_or (λ (handed : Handed). cond {A = ℕ} (eqb handed.local 0) 0 1) o 0

out_place : {h : List Event} {s : Shelf} (o : Option Content) → Tied h s → Sound s → s.outbox.out ≡ o → place_of (option_map (handed h) o) ≡ places_out o
out_place None t k is = refl
out_place (Some (Content.Abort frame)) t k is = refl
out_place (Some (Content.Frame w)) t k is =
    let row = out_there w k is in ap (λ b. cond {A = ℕ} b 0 1) (not_abort w.local row.0 t row.1)

turn_places : (n d : ℕ) (h : List Event) (o : Option Row) → TiedAt n d (story h d) o → amount turns_of o ≡ count_out h d
turn_places n d h None k = sym k.outs
turn_places n d h (Some row) k = sym k.outs

pub places_are : {h : List Event} {s : Shelf} → Tied h s → Sound s → Lined h s → places h ≡ places_held s
places_are {h} {s} t k l =
    let fs : length (waiting h) ≡ length s.outbox.frames = sym (length-map (waiting h) (as_waiting h)) ∙ ap length l.frames in
    let o : place_of (out h) ≡ places_out s.outbox.out = ap place_of t.is_out ∙ out_place s.outbox.out t k refl in
    omega (arith, fs, o, sum_is turns_of (count_out h) t (λ d first last. turn_places (births h) d h (row_at h s d) (t.rows d)))

-- TAKE

-- the dialogue at the front of the queue has been ready longest
pub front_longest : {h : List Event} {s : Shelf} (lo b : ℕ) (rest : List ℕ) → Tied h s → Sound s → Lined h s → s.ready ≡ lo ∷ rest → named h lo ≡ Some b
    → (c : ℕ) → is_ready h c ≡ true → eqb c b ≡ false → IsReadyBefore h b c
front_longest {h} {s} lo b rest t k l first name c r ne =
    let order : Sorted (ByAge h) (lo ∷ rest) = subst (Sorted (ByAge h)) first l.order in
    let n = local_of h c in let row = ready_held c t r in
    let other : Held h n c row.0 = held_at c row.0 t row.1 in
    let there : count n s.ready ≡ 1 = in_queue c t k r in
    let none : one_if (eqb lo n) ≡ 0 = ap one_if (ne_eqb lo n (λ same. eqb-false c b ne (same_Some c b (sym other.name ∙ ap (named h) (sym same) ∙ name)))) in
    all_at (ByAge h lo) rest n order.0 (omega (arith, there, ap (count n) first, count-cons n lo rest, none)) b c name other.name

pub longest_is : {h : List Event} {old new : Shelf} {turn : Turn} → Tied h old → Sound old → Lined h old → TakesTurn old turn new → IsLongestReady h turn.local turn.position (length turn.entries)
longest_is {h} {old} {turn} t k l g =
    let lo = turn.local in let b = g.before.birth in
    let held : Held h lo b g.before = held_of lo g.before t g.was in
    let waits : waiting_of g.before ≡ unserved h b =
    waiting_ready (is_closed g.before.ended) (is_over g.before.core) g.before.accepted g.before.served g.before.out g.takes.was_ready ∙ sym (unserved_tied h held.tied)
    in
    record {
      dialogue = b;
      name = held.name;
      stands = ready_is _ _ b t ∙ ap ready_at (row_named lo b t held.name ∙ g.was) ∙ g.takes.was_ready;
      longest = front_longest lo b g.rest t k l g.first held.name;
      next = sym (turn_place (known_turn g.after turn g.takes.turn_is)) ∙ g.takes.stay.served ∙ sym (count_tied held.tied);
      count_is = g.takes.count ∙ (λ i. min most_entries (min (length (waits i)) (most_places - sym (places_are t k l) i)));
    }

pub some_ready : {h : List Event} {s : Shelf} (xs : List ℕ) → Tied h s → Sound s → s.ready ≡ xs → s.ready ≢ [] → (d : ℕ) × (is_ready h d ≡ true)
some_ready [] t k is some = absurd (some is)
some_ready {h} {s} (x ∷ xs) t k is some =
    let q : InQueue h s x = queued_at x t k (subst (λ ys. 0 < count x ys) (sym is) (first_in x xs)) in
    (q.row.birth, q.stands)

pub none_ready : {h : List Event} {s : Shelf} → Tied h s → Sound s → s.ready ≡ [] → (d : ℕ) → is_ready h d ≡ false
none_ready {h} {s} t k is d = false_from_ne_true (is_ready h d) (λ r. omega (arith, in_queue d t k r, ap (count (local_of h d)) is))

-- PICK

pub none_waits : (h : List Event) (xs : List QueuedFrame) → map_list (as_waiting h) xs ≡ [] → xs ≡ []
none_waits h [] e = refl
none_waits h (x ∷ xs) e = absurd (let clash : as_waiting h x ∷ map_list (as_waiting h) xs ≡ [] = e in cc)

pub next_is : {h : List Event} {old new : Shelf} (content : Content) → Tied h old → Sound old → Lined h old → PicksParcel old content new
    → IsNext h (aborts_waiting h) (waiting h) (parcel_local content) (parcel_octets content)
next_is {h} (Content.Abort frame) t k l g =
    subst (λ xs. IsNext h xs (waiting h) 0 (frame_octets frame)) (sym (aborts_wait t k l ∙ ap (map_list frame_octets) g.next.0)) (refl, refl)
next_is {h} (Content.Frame w) t k l g =
    let f : First h (waiting h) w g.rest.frames = first_of h (waiting h) w g.rest.frames (l.frames ∙ g.next.2) in
    subst (λ xs. IsNext h xs (waiting h) w.local w.frame) (sym (aborts_wait t k l ∙ ap (map_list frame_octets) g.next.0))
    (subst (λ xs. IsNext h [] xs w.local w.frame) (sym f.is) (ap (λ (w : Waiting). w.local) (sym f.first_is), ap (λ (w : Waiting). w.frame) (sym f.first_is)))

pub some_handed : (h : List Event) (o : Option Content) → is_some o ≡ true → is_some (option_map (handed h) o) ≡ true
some_handed h None e = e
some_handed h (Some content) e = refl

-- EACH STEP

posted_answer : (n : ℕ) (h : List Event) (step : Step) (came : Option Prepared) (output : Output) → IsPost step → output ≡ posted n h came → IsAnswer n h step came output
posted_answer n h (Step.Post table frame moment) came output posting is = is
posted_answer n h (Step.Lost frame moment) came output posting is = is
posted_answer n h step came output posting is = absurd posting

answers : RowsKeepTheirOrder → {h : List Event} (came : Option Prepared) {old : Shelf} (new : Shelf) → Tied h old → Sound old → Lined h old → Freed h old
    → Cases (λ step output. IsAnswer (base old) h step came output) came old new
answers law {h} came {old} new t k l f = record {
  posted = λ step posting p answer components is count g totals.
      posted_answer (base old) h step came (Output.Posted answer components) posting (posted_is law new p answer components t k l f count g ∙ ap (posted (base old) h) (sym is));
  none_posted = λ step posting none same. posted_answer (base old) h step came Output.Nothing posting (ap (posted (base old) h) (sym none));
  ticked = λ moment added wanting none g. ticked_is t none g;
  took = λ turn g. (longest_is t k l g, (let room : places_held old < most_places = g.room in omega (arith, room, places_are t k l)));
  no_room = λ some full same. (some_ready old.ready t k refl some, omega (arith, full, places_are t k l));
  none_taken = λ none same. none_ready t k none;
  gave = λ done given g. gave_done t k l g;
  none_given = λ local out same. gave_none law local t out;
  went_back = λ turn g. back_done t g;
  none_back = λ local out same. back_none law local t out;
  picked = λ content frame is g. (t.is_out ∙ ap (option_map (handed h)) g.none_out, subst (IsNext h (aborts_waiting h) (waiting h) (parcel_local content)) is (next_is _ t k l g));
  busy = λ some same. ap is_some t.is_out ∙ some_handed h old.outbox.out some;
  none_picked = λ none same.
      (t.is_out ∙ ap (λ (o : Outbox). option_map (handed h) o.out) none, aborts_wait t k l ∙ ap (λ (o : Outbox). map_list frame_octets o.aborts) none, none_waits h (waiting h) (l.frames ∙ ap (λ (o : Outbox). o.frames) none));
  sent = λ content g. if_is Output.Sent t (sent_out old content new g);
  none_sent = λ none same. if_is Output.Sent t none;
  unsent = λ parcel g. if_is Output.Unsent t g.was_out;
  none_unsent = λ none same. if_is Output.Unsent t none;
  down = λ g. refl;
}

pub answer_made : RowsKeepTheirOrder → {h : List Event} (step : Step) (came : Option Prepared) (output : Output) {old : Shelf} (new : Shelf) → Tied h old → Sound old → Lined h old → Freed h old → MakesOf step came output old new → IsAnswer (base old) h step came output
answer_made law {h} step came output {old} new t k l f g = by_made (λ step output. IsAnswer (base old) h step came output) step output (answers law came new t k l f) g

-- the link and the tag are the same

abbrev pub SameMarks : Shelf → Shelf → Type 0
SameMarks old new = (new.link ≡ old.link) × (new.tag ≡ old.tag)

sent_marks : (old : Shelf) (content : Content) (new : Shelf) → Sends old content new → SameMarks old new
sent_marks old (Content.Abort frame) new g = subst (SameMarks old) (sym g.new_is) (refl, refl)
sent_marks old (Content.Frame w) new g = subst (SameMarks old) (sym g.new_is) (refl, refl)

marks_cases : (came : Option Prepared) {old : Shelf} (new : Shelf) → Sound old → Cases (λ step output. SameMarks old new) came old new
marks_cases came new k = grind (arith, follows_untouched, sent_marks)

pub marks_made : (step : Step) (came : Option Prepared) (output : Output) {old : Shelf} (new : Shelf) → Sound old → MakesOf step came output old new → SameMarks old new
marks_made step came output {old} new k g = by_made (λ step output. SameMarks old new) step output (marks_cases came new k) g

pub base_made : (step : Step) (came : Option Prepared) (output : Output) {old : Shelf} (new : Shelf) → Sound old → MakesOf step came output old new → base new ≡ base old
base_made step came output new k g = let same = marks_made step came output new k g in λ i. base_of (same.0 i) (same.1 i)
