-- One turn is served.
use Rattle.std.proofs.Common.{◌≡◌, ℕ, ◌<◌, ◌≤◌, ◌+◌, Bool, true, false, cond, eqb, nat_lt, not, ◌&&◌, Option, Some, None, is_some, option_to_list, List, [], ◌∷◌, ◌++◌, length, map, refl, sym, ◌∙◌, ap, subst, arith, append_assoc, append-nil, length-append, ⊎_elim, ◌⊎◌, inl, inr}
use Rattle.std.specs.FinMap as fin
use Rattle.std.proofs.lemmas.List.{length-map, map-append, nil_from_length}
use Rattle.std.proofs.lemmas.List.Elements.{filter-append}
use Rattle.std.specs.List.{filter}
use Rattle.std.proofs.lemmas.Bool.{and_right, cases_Bool, eqb-true, false≢true, lt-ltb}
use Rattle.std.proofs.lemmas.Bool.Decides.{nat_tests}
use Rattle.fp_book.specs.declared.answers.Given.{Given}
use Rattle.fp_book.specs.declared.parcel.Waiting.{Waiting}
use Rattle.fp_book.specs.Calls.{GivesDone, TakesTurn, joins, turn_of, waiting_in}
use Rattle.fp_book.specs.Limits.{most_places}
use Rattle.fp_book.specs.Outbox.{places_out, waiting_frames}
use Rattle.fp_book.specs.Shelf.{Shelf, Sound, free_with, places_held, ready_count, turns_of}
use Rattle.fp_book.specs.Totals.{sum_of}
use Rattle.fp_book.proofs.Sums.{OneChanges, amount, inserted, kept, left_of}
use Rattle.fp_book.proofs.Changes.{turns_none}
use Rattle.fp_book.proofs.Unsent.{requested_count}
use Rattle.fp_entry.specs.declared.entry.Entry.{Entry}
use Rattle.fp_entry.specs.declared.entry.EntryKind.{EntryKind}
use Rattle.fp_entry.specs.Entries.{entry_at}
use Rattle.fp_q773.specs.Tid.{octets_of}
use Rattle.fp_reply.specs.ProviderAbort.{frame_octets}
use Rattle.fp_reply.specs.Reply.{frame_of}
use Rattle.fp_row.specs.declared.done.Done.{Done}
use Rattle.fp_row.specs.declared.requested.Requested.{Requested}
use Rattle.fp_row.specs.declared.requested.Requested.TheVariants as requested
use Rattle.fp_row.specs.declared.ending.Ending.{Ending}
use Rattle.fp_row.specs.declared.row.Row.{Row}
use Rattle.fp_row.specs.declared.turn.Turn.{Turn}
use Rattle.fp_row.specs.Calls.{Gives, frames_in as frames_asked, requested_of}
use Rattle.fp_row.specs.Row.{has_turn_out, is_admitted, is_held, is_ready, waiting_of, waits}
use Rattle.fp_row.proofs.Keeping.{known_turn}
use Rattle.fp_service.specs.declared.dialogue.Core.{Core}
use Rattle.fp_service.specs.declared.request.Request.{Request}
use Rattle.fp_service.specs.Dialogue.{is_over}
use Rattle.fp_service.specs.Fold as fold
use Rattle.fp_service.specs.Serve.{next, request_of}
use Rattle.fp_ask.specs.Solo.{Served, Dialogue, Job, found, jobs_for, serve_all}
use Rattle.fp_tids.specs.Identifiers.{serial_of}
use Rattle.fp_ask.specs.Tied.{Rows, Same, dialogue_of, is_out, live}
use Rattle.fp_ask.specs.proof_only.Serving.{Concerned, Concerns, Fit, HasClock, KeepsEnd, SameCounts, Singles, all_free, frames_in, is_leaving, jobs_in, jobs_of, senders, waiting_at}
use Rattle.fp_ask.proofs.Clocks.{clock_says}
use Rattle.fp_ask.proofs.Counting.{sum_zero_at}
use Rattle.fp_ask.proofs.Rows.{cut, ended_gone, joined, live_is, live_left, none_ready, none_waits, out_left, outs_then, same_then, waiting_left}
use Rattle.fp_ask.proofs.Dialogues.{after_all, all_served, answers_of, answers_to, by_number, count, count-cons, count_own, cut_over, none_if, serve_both, serve_none, swapped}
use Rattle.fp_ask.proofs.Serials.{admitted_held, count-append, count_joins, count_other, count_same, filter_none, filter_same, frames_held, free_left, held_free, in_list, leaving_left, own_serial, own_served, returned_at}

abbrev job : ℕ → Entry → Job
job d entry = record { local = d; entry = entry }

-- frames, unless the dialogue was ended
abbrev pub sent_by : Option Ending → List (List ℕ) → List (List ℕ)
sent_by None frames = frames
sent_by (Some ending) frames = []

-- what is sent for entries: the frames of their requests
abbrev pub frames_by : Option Ending → Dialogue → List Entry → List (List ℕ)
frames_by ended dialogue entries = sent_by ended (answers_to dialogue entries)

-- the next entries of a dialogue were served, up to the one that ended it
pub record Turned (s new : Shelf) (d : ℕ) (entries : List Entry) (before then : Row) (more : List Entry) (rest : List ℕ) : Type 0 where
  pub row : OneChanges s.rows new.rows d (Some before) (left_of then)
  pub local_is : before.local ≡ d
  pub dialogue : dialogue_of then ≡ after_all (dialogue_of before) entries
  pub ended : then.ended ≡ before.ended
  pub out : has_turn_out then ≡ false
  pub some : 0 < length entries
  pub waits : waiting_of before ≡ entries ++ more
  pub waits_then : waiting_of then ≡ cond (is_over then.core) [] more
  pub ready_old : s.ready ≡ d ∷ rest
  pub ready_new : new.ready ≡ rest ++ joins d (is_ready then)
  pub once : count d rest ≡ 0
  pub frames : frames_in new.outbox ≡ frames_in s.outbox ++ frames_by before.ended (dialogue_of before) entries
  pub senders_new : senders new.outbox ≡ senders s.outbox ++ map (λ _. d) (frames_by before.ended (dialogue_of before) entries)
  pub held : 0 < length (frames_by before.ended (dialogue_of before) entries) → is_held then ≡ true
  pub free : new.free ≡ free_with s.free d then
  pub few : length new.outbox.frames ≤ length s.outbox.frames + length entries
  pub none_out : new.outbox.out ≡ s.outbox.out
  pub link : new.link ≡ s.link
  pub up : new.is_down ≡ s.is_down
  pub counts : SameCounts s new

pub record OneServed (s new : Shelf) : Type 0 where
  pub fit : Fit new
  pub ends : KeepsEnd s new
  pub counts : SameCounts s new
  pub less : length (jobs_of new) < length (jobs_of s)

-- a queue in which the dialogue isn't is unchanged
others_same : (rows new : Rows) (d : ℕ) (queue : List ℕ) → ((k : ℕ) → eqb k d ≡ false → fin.get new k ≡ fin.get rows k) → count d queue ≡ 0
    → (jobs_in queue new ≡ jobs_in queue rows) × (Singles queue rows → Singles queue new)
others_same rows new d [] others h = (refl, λ a. a)
others_same rows new d (x ∷ xs) others h =
    let parts = count-cons d x xs in
    let own = others x (none_if (eqb x d) (omega (arith, h, parts))) in
    let rest = others_same rows new d xs others (omega (arith, h, parts)) in
    (λ i. jobs_for x (waiting_at (own i)) ++ rest.0 i, λ a. (ap (λ r. length (waiting_at r)) own ∙ a.0, rest.1 a.1))

-- what waits of a dialogue is dropped if it is over, and then it is in no list
cut_served : (b : Bool) (d : ℕ) (more : List Entry) (dialogues : List Dialogue) → (b ≡ true → found d dialogues ≡ None) → serve_all (jobs_for d (cond b [] more)) dialogues ≡ serve_all (jobs_for d more) dialogues
cut_served true d more dialogues gone = sym (serve_none d more dialogues (gone refl))
cut_served false d more dialogues gone = refl

-- nothing is left of nothing
cut_none : {A : Type 0} (b : Bool) (more : List A) → more ≡ [] → cond b [] more ≡ []
cut_none b more h = grind arith

-- what the list is after the entries
record Stepped (new : Shelf) (d : ℕ) (entries : List Entry) (dialogues : List Dialogue) (frames : List (List ℕ)) (returned : List ℕ) : Type 0 where
  pub same : Same (serve_all (jobs_for d entries) dialogues).dialogues new.rows
  pub serves : (serve_all (jobs_for d entries) dialogues).frames ≡ frames
  pub returns : (serve_all (jobs_for d entries) dialogues).returned ≡ returned

twice : (b : Bool) → b ≡ not (not b)
twice true = refl
twice false = refl

-- what is left to do
record Left (s new : Shelf) (d : ℕ) (then : Row) (more : List Entry) (rest : List ℕ) : Type 0 where
  pub orderly : (length new.ready ≤ 1) ⊎ Singles new.ready new.rows
  pub fewer : length (jobs_of new) ≤ length (jobs_for d more ++ jobs_in rest s.rows)
  pub serves : (dialogues : List Dialogue) → found d dialogues ≡ live (Some then) → serve_all (jobs_of new) dialogues ≡ serve_all (jobs_for d more ++ jobs_in rest s.rows) dialogues

-- a dialogue that is over stays over, and one that was ended stays ended
abbrev core_then : Core → List Entry → Core
core_then core entries = fold.core_after core (fold.cut core entries)

over_by : (over : Bool) (ended : Option Ending) → (not (is_some ended) && not over) ≡ false → (over ≡ false → is_some ended ≡ true)
over_by over ended gone on = grind (arith, nat_tests)

out_by : (ended ended_then : Option Ending) (core then : Core) (entries : List Entry) → ended_then ≡ ended → then ≡ core_then core entries
    → (not (is_some ended) && not (is_over core)) ≡ false → (not (is_some ended_then) && not (is_over then)) ≡ false
out_by ended ended_then core then entries same is gone = ⊎_elim
    (λ over.
    let still : is_over then ≡ true = ap is_over (is ∙ ap (fold.core_after core) (cut_over core entries over)) ∙ over in
    (λ i. not (is_some ended_then) && not (still i)) ∙ and_right (not (is_some ended_then)) false refl)
    (λ on. λ i. not (((ap is_some same) ∙ over_by (is_over core) ended gone on) i) && not (is_over then))
    (cases_Bool (is_over core))

-- of one entry some are the only one
only_one : (entries more : List Entry) (entry : Entry) → entry ∷ [] ≡ entries ++ more → 0 < length entries → (entries ≡ entry ∷ []) × (more ≡ [])
only_one entries more entry is some =
    let none : more ≡ [] = nil_from_length more (omega (arith, some, ap length is, length-append entries more)) in
    (sym (append-nil entries) ∙ ap (λ m. entries ++ m) (sym none) ∙ sym is, none)

-- a list of one
filter_one : {A : Type 0} (test : ℕ → Bool) (d : ℕ) (xs : List A) → length xs ≡ 1 → test d ≡ true → filter test (map (λ _. d) xs) ≡ d ∷ []
filter_one test d [] one holds = absurd (omega (arith, one))
filter_one test d (x ∷ []) one holds = ap (λ b. cond b (d ∷ []) []) holds
filter_one test d (x ∷ y ∷ xs) one holds = absurd (omega (arith, one))

-- one request has one frame
one_answer : (dialogue : Dialogue) (o : Option Request) → is_some o ≡ true → length (answers_of dialogue (option_to_list o ++ [])) ≡ 1
one_answer dialogue None is = absurd (false≢true is)
one_answer dialogue (Some request) is = refl

-- a Clock that ends a dialogue requests one frame, its Abort
ended_one : (ended ended_then : Option Ending) (dialogue : Dialogue) (then : Core) (moment : ℕ) → ended_then ≡ ended → then ≡ core_then dialogue.core (entry_at moment EntryKind.Clock ∷ [])
    → (not (is_some ended) && not (is_over dialogue.core)) ≡ true → (not (is_some ended_then) && not (is_over then)) ≡ false
    → length (frames_by ended dialogue (entry_at moment EntryKind.Clock ∷ [])) ≡ 1
ended_one (Some ending) ended_then dialogue then moment same is on gone = absurd (false≢true on)
ended_one None ended_then dialogue then moment same is on gone =
    let clock = entry_at moment EntryKind.Clock in
    let core = dialogue.core in
    let goes : is_over core ≡ false = twice (is_over core) ∙ ap not on in
    let cut_is : fold.cut core (clock ∷ []) ≡ clock ∷ [] = ap (λ b. cond b [] (clock ∷ [])) goes in
    let over : is_over (next core clock) ≡ true =
    ap is_over (sym (ap (fold.core_after core) cut_is) ∙ sym is) ∙ twice (is_over then) ∙ ap not ((λ i. not (is_some (sym same i)) && not (is_over then)) ∙ gone) in
    ap (λ es. length (answers_of dialogue (fold.requests core es))) cut_is ∙ one_answer dialogue (request_of core clock) (clock_says core moment goes over)

module _ {s new : Shelf} {d : ℕ} {entries : List Entry} {before then : Row} {more : List Entry} {rest : List ℕ} (t : Turned s new d entries before then more rest) where
  -- whether the dialogue goes on then
  live_then : live (fin.get new.rows d) ≡ live (Some then)
  live_then = ap live t.row.there ∙ live_left then

  -- the list after the entries: the dialogue has changed, unless it was ended
  stepped_by : (ended : Option Ending) → before.ended ≡ ended → (dialogues : List Dialogue) → Same dialogues s.rows
      → Stepped new d entries dialogues (frames_by ended (dialogue_of before) entries) (returned_at d before then)
  stepped_by None e dialogues same =
      let one : Dialogue = dialogue_of before in
      let all = all_served d entries one dialogues t.local_is (same d ∙ ap live t.row.was ∙ live_is before None one e refl) in
      record {
        same = same_then dialogues (serve_all (jobs_for d entries) dialogues).dialogues t.row same
            (all.own ∙ sym (live_is then None (after_all one entries) (t.ended ∙ e) t.dialogue) ∙ sym (live_left then))
            all.others;
        serves = all.frames;
        returns =
            all.returned
            ∙ (λ i. cond (not (is_over before.core) && twice (is_over (sym t.dialogue i).core) i) (serial_of d ∷ []) [])
            ∙ sym (λ i. cond ((not (is_some (e i)) && not (is_over before.core)) && not (not (is_some ((t.ended ∙ e) i)) && not (is_over then.core))) (serial_of d ∷ []) []);
      }
  stepped_by (Some ending) e dialogues same =
      let there : found d dialogues ≡ None = same d ∙ ap live t.row.was ∙ ended_gone before ending e in
      let none = serve_none d entries dialogues there in
      record {
        same = same_then dialogues (serve_all (jobs_for d entries) dialogues).dialogues t.row same
            (ap (λ (v : Served). found d v.dialogues) none ∙ there ∙ sym (live_left then ∙ ended_gone then ending (t.ended ∙ e)))
            (λ k ne. ap (λ (v : Served). found k v.dialogues) none);
        serves = ap (λ (v : Served). v.frames) none;
        returns = ap (λ (v : Served). v.returned) none
            ∙ sym (λ i. cond ((not (is_some (e i)) && not (is_over before.core)) && not (is_admitted then)) (serial_of d ∷ []) []);
      }

  -- what is to be done after them
  abbrev todo : List Job
  todo = jobs_for d more ++ jobs_in rest s.rows

  -- the jobs before
  jobs_before : jobs_of s ≡ jobs_for d entries ++ todo
  jobs_before =
      ap (λ q. jobs_in q s.rows) t.ready_old ∙ ap (λ r. jobs_for d (waiting_at r) ++ jobs_in rest s.rows) t.row.was ∙ ap (λ w. jobs_for d w ++ jobs_in rest s.rows) t.waits
      ∙ ap (λ j. j ++ jobs_in rest s.rows) (map-append (job d) entries more)
      ∙ append_assoc (jobs_for d entries) (jobs_for d more) (jobs_in rest s.rows)

  -- as many as entries more than those
  count_before : length (jobs_of s) ≡ length entries + length todo
  count_before =
      ap length jobs_before ∙ length-append (jobs_for d entries) todo ∙ ap (λ n. n + length todo) (length-map entries (job d))

  -- either no other dialogue is ready, or nothing more waits of this one
  left_alone : rest ≡ [] → Left s new d then more rest
  left_alone none =
      let j = joined new.rows d (waiting_of then) rest (is_ready then) none (ap waiting_at t.row.there ∙ waiting_left then) (none_waits then t.out) in
      let jobs : jobs_of new ≡ jobs_for d (cond (is_over then.core) [] more) = ap (λ q. jobs_in q new.rows) t.ready_new ∙ j.0 ∙ ap (jobs_for d) t.waits_then in
      let alone : jobs_for d more ++ jobs_in rest s.rows ≡ jobs_for d more = ap (λ r. jobs_for d more ++ jobs_in r s.rows) none ∙ append-nil (jobs_for d more) in
      record {
        orderly = inl (omega (arith, ap length t.ready_new, j.1));
        fewer = omega (arith, ap length jobs, ap length alone, (cut (is_over then.core) d more).1);
        serves = λ dialogues h.
            ap (λ j. serve_all j dialogues) jobs
            ∙ cut_served (is_over then.core) d more dialogues
            (λ over. h ∙ ap (λ b. cond b (Some (dialogue_of then)) None) (and_right (not (is_some then.ended)) (not (is_over then.core)) (ap not over)))
            ∙ ap (λ j. serve_all j dialogues) (sym alone);
      }

  -- or each that is ready has one entry
  left_each : Singles (d ∷ rest) s.rows → Left s new d then more rest
  left_each a =
      let one = ap length t.waits in
      let done : more ≡ [] = nil_from_length more (omega (arith, one, length-append entries more, t.some, ap (λ r. length (waiting_at r)) t.row.was, a.0)) in
      let none : waiting_of then ≡ [] = t.waits_then ∙ cut_none (is_over then.core) more done in
      let queue : new.ready ≡ rest = t.ready_new ∙ ap (λ b. rest ++ joins d b) (none_ready then none) ∙ append-nil rest in
      let same = others_same s.rows new.rows d rest t.row.others t.once in
      let jobs : jobs_of new ≡ jobs_for d more ++ jobs_in rest s.rows = ap (λ q. jobs_in q new.rows) queue ∙ same.0 ∙ ap (λ w. jobs_for d w ++ jobs_in rest s.rows) (sym done) in
      record {
        orderly = inr (subst (λ q. Singles q new.rows) (sym queue) (same.1 a.1));
        fewer = omega (arith, ap length jobs);
        serves = λ dialogues h. ap (λ j. serve_all j dialogues) jobs;
      }

  -- so what is left to be served is known in both cases
  left_to_do : Fit s → Left s new d then more rest
  left_to_do f = ⊎_elim
      (λ h. left_alone (nil_from_length rest (omega (arith, ap length t.ready_old, h))))
      (λ h. left_each (subst (λ q. Singles q s.rows) t.ready_old h))
      f.orderly

  -- a dialogue that left the list before isn't in it after
  stays_out : is_admitted before ≡ false → is_admitted then ≡ false
  stays_out gone = out_by before.ended then.ended before.core then.core entries t.ended (ap (λ (u : Dialogue). u.core) t.dialogue) gone

  -- the turn was of the dialogue that is concerned
  is_one : (c : ℕ) → Concerns (Concerned.one c) s → d ≡ c
  is_one c alone = ⊎_elim (λ e. eqb-true d c e)
      (λ ne. absurd (let none = (alone d ne).0 in omega (arith, none, ap (count d) t.ready_old, count_own d rest)))
      (cases_Bool (eqb d c))

  -- the serials that will have come back: that of one dialogue,
  free_one : Concerns (Concerned.one d) s → Concerns (Concerned.one d) new × (all_free (Concerned.one d) new ≡ all_free (Concerned.one d) s ++ returned_at d before then)
  free_one alone = (
    λ other ne. (
      omega (
        arith,
        (alone other ne).0,
        ap (count other) t.ready_old,
        count-cons other d rest,
        ap (count other) t.ready_new,
        count-append other rest (joins d (is_ready then)),
        count_joins d other (is_ready then) (swapped other d ne),
      ),
      ap is_leaving (t.row.others other ne) ∙ (alone other ne).1,
    ),
    (λ i. t.free i ++ own_serial d (t.row.there i)) ∙ free_left s.free d then ∙ ap (λ l. s.free ++ l) (own_served d before then stays_out)
        ∙ sym (append_assoc s.free (own_serial d (Some before)) (returned_at d before then))
        ∙ ap (λ o. (s.free ++ own_serial d o) ++ returned_at d before then) (sym t.row.was),
  )

  -- or of each that is due
  module _ (c : Concerns Concerned.due s) where
    some : 0 < count d s.ready
    some = omega (arith, ap (count d) t.ready_old, count_own d rest)

    has_clock : HasClock (Some before)
    has_clock = subst HasClock t.row.was (c.0 d some)

    admitted : is_admitted before ≡ true
    admitted = in_list before has_clock.0

    -- the turn was its Clock
    is_clock : (entries ≡ entry_at has_clock.1.0 EntryKind.Clock ∷ []) × (more ≡ [])
    is_clock = only_one entries more (entry_at has_clock.1.0 EntryKind.Clock) (sym has_clock.1.1 ∙ t.waits) t.some

    abbrev own : List (List ℕ)
    own = frames_by before.ended (dialogue_of before) entries

    none_then : waiting_of then ≡ []
    none_then = t.waits_then ∙ cut_none (is_over then.core) more is_clock.1

    queue : new.ready ≡ rest
    queue = t.ready_new ∙ ap (λ b. rest ++ joins d b) (none_ready then none_then) ∙ append-nil rest

    -- before it no frame of the dialogue waited
    unsent : count d (senders s.outbox) ≡ 0
    unsent = omega (arith, c.1 d, some)

    few_own : length own ≤ 1
    few_own = omega (
      arith,
      t.few,
      ap length is_clock.0,
      ap length t.senders_new,
      length-append (senders s.outbox) (map (λ _. d) own),
      length-map own (λ (frame : List ℕ). d),
      length-map s.outbox.frames (λ (w : Waiting). w.local),
      length-map new.outbox.frames (λ (w : Waiting). w.local),
    )

    due_then : Concerns Concerned.due new
    due_then = (
      λ k ready. by_number k d (λ k. 0 < count k new.ready → HasClock (fin.get new.rows k))
          (λ ready. absurd (omega (arith, ready, ap (count d) queue, t.once)))
          (λ ne ready. subst HasClock (sym (t.row.others k ne)) (c.0 k (omega (arith, ready, ap (count k) queue, ap (count k) t.ready_old, count-cons k d rest))))
          ready,
      λ k. by_number k d (λ k. count k (senders new.outbox) + count k new.ready ≤ 1)
          (omega (arith, ap (count d) t.senders_new, count-append d (senders s.outbox) (map (λ _. d) own), count_same d own, unsent, few_own, ap (count d) queue, t.once))
          (λ ne. omega (
            arith,
            c.1 k,
            ap (count k) t.senders_new,
            count-append k (senders s.outbox) (map (λ _. d) own),
            count_other d k own (swapped k d ne),
            ap (count k) queue,
            ap (count k) t.ready_old,
            count-cons k d rest,
          )),
    )

    abbrev left_before : ℕ → Bool
    left_before k = is_leaving (fin.get s.rows k)

    abbrev left_then : ℕ → Bool
    left_then k = is_leaving (fin.get new.rows k)

    -- those that left the list before
    same_before : filter left_then (senders s.outbox) ≡ filter left_before (senders s.outbox)
    same_before = filter_same left_then left_before (senders s.outbox)
        (λ k there. by_number k d (λ k. 0 < count k (senders s.outbox) → left_then k ≡ left_before k)
        (λ there. absurd (omega (arith, there, unsent))) (λ ne there. ap is_leaving (t.row.others k ne)) there)

    leaving_then : filter left_then (senders new.outbox) ≡ filter left_before (senders s.outbox) ++ filter left_then (map (λ _. d) own)
    leaving_then = ap (filter left_then) t.senders_new ∙ filter-append left_then (senders s.outbox) (map (λ _. d) own) ∙ ap (λ l. l ++ filter left_then (map (λ _. d) own)) same_before

    -- the dialogue stays in the list,
    free_stays : is_admitted then ≡ true → all_free Concerned.due new ≡ all_free Concerned.due s ++ returned_at d before then
    free_stays is =
        let none : left_then d ≡ false = ap is_leaving t.row.there ∙ leaving_left then is in
        (λ i. (t.free ∙ held_free s.free d then (admitted_held then is)) i ++ map serial_of (leaving_then i))
        ∙ ap (λ l. s.free ++ map serial_of (filter left_before (senders s.outbox) ++ l)) (filter_none left_then d own none)
        ∙ ap (λ l. s.free ++ map serial_of l) (append-nil (filter left_before (senders s.outbox)))
        ∙ sym (append-nil (all_free Concerned.due s))
        ∙ sym (λ i. all_free Concerned.due s ++ cond (admitted i && not (is i)) (serial_of d ∷ []) [])

    -- or it leaves it, and its Abort is to be sent
    free_leaves : is_admitted then ≡ false → all_free Concerned.due new ≡ all_free Concerned.due s ++ returned_at d before then
    free_leaves gone =
        let one = ended_one before.ended then.ended (dialogue_of before) then.core has_clock.1.0 t.ended
        (ap (λ (u : Dialogue). u.core) t.dialogue ∙ ap (λ es. core_then before.core es) is_clock.0) admitted gone in
        let own_is : length own ≡ 1 = ap (λ es. length (frames_by before.ended (dialogue_of before) es)) is_clock.0 ∙ one in
        let held = t.held (omega (arith, own_is)) in
        let there : left_then d ≡ true = ap is_leaving (t.row.there ∙ ap (λ b. cond b (Some then) None) held) ∙ ap not gone in
        (λ i. (t.free ∙ held_free s.free d then held) i ++ map serial_of (leaving_then i))
        ∙ ap (λ l. s.free ++ map serial_of (filter left_before (senders s.outbox) ++ l)) (filter_one left_then d own own_is there)
        ∙ ap (λ l. s.free ++ l) (map-append serial_of (filter left_before (senders s.outbox)) (d ∷ []))
        ∙ sym (append_assoc s.free (map serial_of (filter left_before (senders s.outbox))) (serial_of d ∷ []))
        ∙ sym (λ i. all_free Concerned.due s ++ cond (admitted i && not (gone i)) (serial_of d ∷ []) [])

    free_due : all_free Concerned.due new ≡ all_free Concerned.due s ++ returned_at d before then
    free_due = ⊎_elim free_stays free_leaves (cases_Bool (is_admitted then))

  -- in both cases those before, and then that of the dialogue if it leaves the list
  free_then : (who : Concerned) → Concerns who s → Concerns who new × (all_free who new ≡ all_free who s ++ returned_at d before then)
  free_then (Concerned.one c) alone =
      subst (λ c. Concerns (Concerned.one c) s → Concerns (Concerned.one c) new × (all_free (Concerned.one c) new ≡ all_free (Concerned.one c) s ++ returned_at d before then)) (is_one c alone) free_one alone
  free_then Concerned.due c = (due_then c, free_due c)

  -- and to serve it ends as before
  ends_then : Fit s → KeepsEnd s new
  ends_then f end m =
      let own = frames_by before.ended (dialogue_of before) entries in
      let step = stepped_by before.ended refl m.dialogues m.same in
      let dialogues = (serve_all (jobs_for d entries) m.dialogues).dialogues in
      let then_all = serve_all todo dialogues in
      let first : serve_all (jobs_of s) m.dialogues ≡ record { dialogues = then_all.dialogues; returned = returned_at d before then ++ then_all.returned; frames = own ++ then_all.frames } =
      ap (λ j. serve_all j m.dialogues) jobs_before ∙ serve_both (jobs_for d entries) todo m.dialogues
      ∙ (λ i. record { dialogues = then_all.dialogues; returned = step.returns i ++ then_all.returned; frames = step.serves i ++ then_all.frames }) in
      let serves : serve_all (jobs_of new) dialogues ≡ then_all = (left_to_do f).serves dialogues (step.same d ∙ live_then) in
      let frees = free_then m.who m.concerns in
      record {
        dialogues = dialogues;
        same = step.same;
        dialogues_end = ap (λ (v : Served). v.dialogues) serves ∙ sym (ap (λ (v : Served). v.dialogues) first) ∙ m.dialogues_end;
        frames_end =
            (λ i. t.frames i ++ (serves i).frames) ∙ append_assoc (frames_in s.outbox) own then_all.frames
            ∙ sym (ap (λ (v : Served). frames_in s.outbox ++ v.frames) first) ∙ m.frames_end;
        who = m.who;
        concerns = frees.0;
        free_end =
            (λ i. frees.1 i ++ (serves i).returned) ∙ append_assoc (all_free m.who s) (returned_at d before then) then_all.returned
            ∙ sym (ap (λ (v : Served). all_free m.who s ++ v.returned) first) ∙ m.free_end;
      }

  -- so the book goes on as the list does
  pub served_one : Fit s → Sound new → OneServed s new
  served_one f sound =
      let l = left_to_do f in
      record {
        fit = record {
          sound = sound;
          link = t.link ∙ f.link;
          up = t.up ∙ f.up;
          idle = outs_then t.row f.idle (out_left then t.out);
          none_out = t.none_out ∙ f.none_out;
          orderly = l.orderly;
          room = omega (arith, count_before, l.fewer, f.room, t.few);
        };
        ends = ends_then f;
        counts = t.counts;
        less = omega (arith, count_before, l.fewer, t.some);
      }

-- WHAT THE CALLS OF A BOOK SAY

-- a dialogue whose turn is out isn't ready
none_counted : (n : ℕ) (b : Bool) → 0 < n → cond {A = ℕ} (not (nat_lt 0 n) && b) 1 0 ≡ 0
none_counted n b some = grind (arith, nat_tests)

unwrapped : (local birth : ℕ) (frames : List (List ℕ)) → map (λ (w : Waiting). w.frame) (waiting_frames local birth frames) ≡ frames
unwrapped local birth [] = refl
unwrapped local birth (frame ∷ frames) = ap (λ rest. frame ∷ rest) (unwrapped local birth frames)

-- they are all of the dialogue
all_own : (local birth : ℕ) (frames : List (List ℕ)) → map (λ (w : Waiting). w.local) (waiting_frames local birth frames) ≡ map (λ _. local) frames
all_own local birth [] = refl
all_own local birth (frame ∷ frames) = ap (λ rest. local ∷ rest) (all_own local birth frames)

senders_queued : (local birth : ℕ) (asked : Requested) → map (λ (w : Waiting). w.local) (waiting_in local birth asked) ≡ map (λ _. local) (frames_asked asked)
senders_queued local birth requested.Nothing = refl
senders_queued local birth (requested.Frames frames) = all_own local birth frames
senders_queued local birth (requested.Dropped count) = refl

-- what is asked for
frames_are_asked : (ended : Option Ending) (frames : List (List ℕ)) → frames_asked (requested_of ended frames) ≡ sent_by ended frames
frames_are_asked None [] = refl
frames_are_asked (Some ending) [] = refl
frames_are_asked None (frame ∷ frames) = refl
frames_are_asked (Some ending) (frame ∷ frames) = refl

-- the frames that wait for requests are those that are sent for them
frames_queued : (local birth : ℕ) (ended : Option Ending) (frames : List (List ℕ)) → map (λ (w : Waiting). w.frame) (waiting_in local birth (requested_of ended frames)) ≡ sent_by ended frames
frames_queued local birth None [] = refl
frames_queued local birth (Some ending) [] = refl
frames_queued local birth None (frame ∷ frames) = unwrapped local birth (frame ∷ frames)
frames_queued local birth (Some ending) (frame ∷ frames) = refl

-- a turn was taken, served and given back
pub taken_and_given : {s mid new : Shelf} {done : Done} {given : Given} → Fit s → Sound mid → Sound new → TakesTurn s done.turn mid → GivesDone mid done given new → OneServed s new
taken_and_given {s} {new = new} {done} {given} f sound_mid sound t g =
    let turn = done.turn in
    let d = turn.local in
    let before = dialogue_of t.before in
    let known = (known_turn t.after turn t.takes.turn_is).turn_is in
    let local : d ≡ t.before.local = t.takes.local in
    let peer : turn.peer ≡ t.before.peer = sym (ap (λ (u : Turn). u.peer) known) ∙ t.takes.same.peer in
    let core : turn.before ≡ t.before.core = sym (ap (λ (u : Turn). u.before) known) ∙ t.takes.stay.core in
    let frames_are : done.frames ≡ answers_to before turn.entries =
    done.frames_are ∙ (λ i. map (λ request. frame_of request (local i) (octets_of (peer i))) (fold.requests (core i) (fold.cut (core i) turn.entries))) in
    let then_is : done.after ≡ fold.core_after t.before.core (fold.cut t.before.core turn.entries) =
    done.after_is ∙ (λ i. fold.core_after (core i) (fold.cut (core i) turn.entries)) in
    subst (λ m. Sound m → GivesDone m done given new → OneServed s new) (sym t.new_is) (λ sound_mid (g : GivesDone _ done given new). subst (λ n. Sound n → OneServed s n) (sym g.new_is) (λ sound.
    let took = inserted s.rows d (Some t.before) t.after t.was in
    let gave = kept (fin.insert s.rows d t.after) d (Some g.before) g.after g.was in
    let two : Some g.before ≡ Some t.after = sym g.was ∙ took.there in
    let one : g.before ≡ t.after = cc in
    let gives : Gives t.after done g.asked g.after = subst (λ (r : Row). Gives r done g.asked g.after) one g.gives in
    let asked : g.asked ≡ requested_of t.before.ended done.frames = gives.requested_is ∙ ap (λ o. requested_of o done.frames) t.takes.ended in
    let asked_are : frames_asked g.asked ≡ frames_by t.before.ended before turn.entries =
    ap frames_asked asked ∙ frames_are_asked t.before.ended done.frames ∙ ap (sent_by t.before.ended) frames_are in
    let waiting = λ (w : Waiting). w.frame in
    let sender = λ (w : Waiting). w.local in
    let birth = g.before.birth in
    served_one {before = t.before} {then = g.after} (record {
      row = record {
        was = t.was;
        there = gave.there;
        others = λ k ne. gave.others k ne ∙ took.others k ne;
        sums = λ f. let one = took.sums f in let two = gave.sums f in omega (arith, one, two, ap (amount f) (sym g.was ∙ took.there));
      };
      local_is = sym local;
      dialogue = λ i. record {
        birth = (gives.same.birth ∙ t.takes.same.birth) i;
        local = (gives.same.local ∙ t.takes.same.local) i;
        peer = octets_of ((gives.same.peer ∙ t.takes.same.peer) i);
        core = (gives.core ∙ then_is) i;
      };
      ended = gives.ended ∙ t.takes.ended;
      out = ap (nat_lt 0) gives.out;
      some = t.takes.some;
      waits = t.takes.waiting;
      waits_then = gives.waiting ∙ (λ i. cond (is_over (sym gives.core i)) [] (waiting_of t.after));
      ready_old = t.first;
      ready_new = refl;
      once = sound_mid.ready d ∙ ap ready_count took.there ∙ (λ i. cond {A = ℕ} (not (nat_lt 0 (t.takes.out i)) && waits t.after) 1 0) ∙ none_counted (length turn.entries) (waits t.after) t.takes.some;
      frames =
          ap (λ x. map frame_octets s.outbox.aborts ++ x) (map-append waiting s.outbox.frames (waiting_in d birth g.asked)
          ∙ ap (λ x. map waiting s.outbox.frames ++ x) (ap (λ a. map waiting (waiting_in d birth a)) asked ∙ frames_queued d birth t.before.ended done.frames ∙ ap (sent_by t.before.ended) frames_are))
          ∙ sym (append_assoc (map frame_octets s.outbox.aborts) (map waiting s.outbox.frames) (frames_by t.before.ended before turn.entries));
      senders_new =
          map-append sender s.outbox.frames (waiting_in d birth g.asked)
          ∙ ap (λ x. map sender s.outbox.frames ++ x) (senders_queued d birth g.asked ∙ ap (map (λ _. d)) asked_are);
      held = λ some. frames_held g.after (lt-ltb g.after.sent g.after.kept (omega (arith, some, ap length asked_are, gives.kept, gives.sent, t.after.sent_within)));
      free = refl;
      few = omega (arith, length-append s.outbox.frames (waiting_in d birth g.asked), requested_count d birth g.asked, gives.few_frames, t.takes.out);
      none_out = refl;
      link = refl;
      up = refl;
      counts = record { bases = refl; births = refl; entries = refl };
    }) f sound) sound) sound_mid g

-- the turn that was taken is the one that is out
pub known_done : {s mid : Shelf} (done : Done) → TakesTurn s done.turn mid → turn_of (fin.get mid.rows done.turn.local) ≡ Some done.turn
known_done {s} done t =
    let d = done.turn.local in
    ap turn_of (ap (λ (x : Shelf). fin.get x.rows d) t.new_is ∙ (inserted s.rows d (Some t.before) t.after t.was).there) ∙ t.takes.turn_is

-- NO PLACE FOR FRAMES IS MISSED

-- nothing is out, so all places that are held are held by frames that wait, which are fewer
pub has_room : (s : Shelf) → Fit s → most_places ≤ places_held s → ⊥
has_room s f full =
    let turns : sum_of turns_of s.rows ≡ 0 = sum_zero_at turns_of s.rows (λ k row was. turns_none row (sym (ap is_out was) ∙ f.idle k)) in
    absurd (omega (arith, full, turns, ap places_out f.none_out, f.room))
