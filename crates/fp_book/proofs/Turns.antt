-- To hand out a turn, and to take it back, keeps what a book keeps.
use Rattle.fp_book.proofs.Names.{AreBorn, AsksOnceAtMost, Bool, Changes, Closed, Done, Ending, Entry, FramesStay, Given, GivesDone, HandsOut, HandsOutAt, Inside, IsEmptyIfNone, IsKept, IsSame, IsServed, List, LoggedStep, Memory, NoRoom, None, Nothing, Option, PutsTurnBack, Requested, Row, Shelf, Some, Sound, Taken, Takes, TakesTurn, Turn, [], accepted_by, and_left, and_parts, ap, append-nil, append_assoc, arith, being_sent, component_count, cond, count_by-le-length, eqb, false, false≢true, frame_out, frames_for, frames_in, has_turn_out, is_admitted, is_from_component, is_held, is_over, is_ready, is_some, joins, kept_of, le_refl, length, length-append, length-take-le, logged, min, more_served, most_entries, nat_lt, nat_tests, not, not-true, of_row, one_if, option_to_list, or_left, or_right, places_held, ready_count, refl, request_count, requested_of, sent_of, serial_of, slice_get, start_of, subst, sum_by-append, sum_of, sym, take, true, turn_out, turns_of, unsent_for, unsent_frames, waiting_in, waiting_of, waits, with_dialogue, with_row, ℕ, ◌&&◌, ◌++◌, ◌+◌, ◌-◌, ◌<◌, ◌*◌, ◌∙◌, ◌∷◌, ◌≡◌, ◌≤◌, most_dialogues, most_places, all_entries}
use Rattle.fp_book.proofs.LowerLaws.{LowerLaws}
use Rattle.std.specs.FinMap as map
use Rattle.fp_book.proofs.Changes.{CountsChange, OutboxChanges, QueueChanges, Sound-change, admitted, count, count_is, link_stays, one_most, own_after, ready, still_apart}
use Rattle.fp_book.proofs.Queue.{queue_joins, queue_next, count_first}
use Rattle.fp_book.proofs.Sums.{amount, Rows}
use Rattle.fp_book.proofs.Born.{asked_other, asked_own, born_append}
use Rattle.fp_book.proofs.Serials.{held_free, serials_end}
use Rattle.fp_book.proofs.Unsent.{frames_for-append, requested_count, requested_other, requested_own}
use Rattle.fp_book.specs.declared.line.LoggedStep.TheVariants as line
use Rattle.fp_book.specs.declared.taken.Taken.TheVariants.{Turn as ATurn}
use Rattle.fp_row.specs.Calls.{Gives}
use Rattle.fp_row.specs.declared.requested.Requested.TheVariants as requested
use Rattle.fp_book.proofs.Kept.{amount_within, turns_by}

-- what is held is where it was, and nothing of it is gone
pub held_dialogue : (s : Shelf) (local : ℕ) (after : Row) → is_held after ≡ true → with_dialogue s local after ≡ record s { rows = map.insert s.rows local after }
held_dialogue s local after held = ap (λ b. record s { free = cond b s.free (s.free ++ serial_of local ∷ []); rows = cond b (map.insert s.rows local after) (map.remove s.rows local); gone = cond b s.gone (with_row s.gone after) }) held

-- each frame that was sent is that of an entry that was served
pub few_sent : AsksOnceAtMost → (row : Row) → row.sent ≤ row.served
few_sent law row =
    omega (arith, law (start_of row) (take row.served row.accepted), row.queued_within, row.kept_within, row.sent_within, row.served_within, length-take-le row.served row.accepted row.served_within)

-- the frames of a dialogue that is there
pub frames_at : (s : Shelf) (local : ℕ) (o : Option Row) → Sound s → map.get s.rows local ≡ o → of_row sent_of o ++ unsent_for local s.outbox ≡ of_row kept_of o
frames_at s local o k was = subst (λ o. of_row sent_of o ++ unsent_for local s.outbox ≡ of_row kept_of o) was (k.frames local)

-- how often it is in the queue
pub ready_at : (s : Shelf) (local : ℕ) (o : Option Row) → Sound s → map.get s.rows local ≡ o → count local s.ready ≡ amount ready o
ready_at s local o k was = k.ready local ∙ count_is (map.get s.rows local) ∙ ap (amount ready) was

-- whether it is admitted, by how it ended and its core
pub admitted_as : (before after : Row) → after.ended ≡ before.ended → after.core ≡ before.core → is_admitted after ≡ is_admitted before
admitted_as before after ended core = ap (λ e. not (is_some e) && not (is_over after.core)) ended ∙ ap (λ c. not (is_some before.ended) && not (is_over c)) core

-- there are as many requests as frames
pub requests_are : (ended : Option Ending) (frames : List (List ℕ)) → request_count (requested_of ended frames) ≡ length frames
requests_are None [] = refl
requests_are (Some ending) [] = refl
requests_are None (frame ∷ frames) = refl
requests_are (Some ending) (frame ∷ frames) = refl

-- no more than the entries that were out
pub few_requests : (before after : Row) (done : Done) (asked : Requested) → Gives before done asked after → IsServed done → request_count asked ≤ before.out
few_requests before after done asked gives law =
    let same : request_count asked ≡ length done.frames = ap request_count gives.requested_is ∙ requests_are before.ended done.frames in
    omega (arith, same, law.few_frames, gives.few_served)

pub not_ready_out : (row : Row) → has_turn_out row ≡ true → is_ready row ≡ false
not_ready_out row out = and_left (not (has_turn_out row)) (waits row) (ap not out)

-- it is held
pub held_out : (row : Row) → has_turn_out row ≡ true → is_held row ≡ true
held_out row out = or_right (is_admitted row) _ (or_left (has_turn_out row) _ out)

-- the components among more entries, and how many there are
components_more : (before after : Row) (more : List Entry) → after.accepted ≡ before.accepted ++ more → accepted_by after ≡ accepted_by before + component_count more
components_more before after more is =
    ap component_count is ∙ sum_by-append (λ (entry : Entry). cond {A = ℕ} (is_from_component entry.kind) 1 0) before.accepted more

pub components_few : (more : List Entry) → component_count more ≤ length more
components_few more = count_by-le-length (λ (entry : Entry). is_from_component entry.kind) more

-- what is counted if a dialogue accepts more, or none
pub counts_of : LowerLaws → (old new : Shelf) (before after : Row) (more : List Entry) → Sound old → after.accepted ≡ before.accepted ++ more → new.entries ≡ old.entries + length more
    → new.totals.accepted ≡ old.totals.accepted + component_count more → new.totals.served + before.served ≡ old.totals.served + after.served → new.totals.sent + before.sent ≡ old.totals.sent + after.sent
    → CountsChange old new (Some before) after
counts_of law old new before after more s is entries accepted served sent = record {
  accepted = omega (arith, accepted, components_more before after more is);
  served = served;
  sent = sent;
  all_entries = omega (arith, entries, ap length is ∙ length-append before.accepted more);
  few_accepted = omega (arith, s.few_accepted, accepted, entries, components_few more);
  few_sent = few_sent law.asks after;
}

-- what is to be sent stays
pub outbox_stays : (s : Shelf) (local : ℕ) (before : Option Row) (after : Row) → Sound s → map.get s.rows local ≡ before → sent_of after ≡ of_row sent_of before → kept_of after ≡ of_row kept_of before
    → places_held s + turns_of after ≤ amount turns_of before + most_places → OutboxChanges s s.outbox local before after
outbox_stays s local before after k was sent kept places = record {
  other_dropped = λ d ne e. e;
  own_frames = ap (λ r. r ++ unsent_for local s.outbox) sent ∙ frames_at s local before k was ∙ sym kept;
  other_frames = λ d ne. refl;
  others_born = λ d birth ne all. all;
  places = omega (arith, places);
  aborts = k.aborts;
  quiet = k.quiet;
}

-- a dialogue accepts entries, or none, and its turn goes out, or comes back: all that was served and requested stays
pub Sound-stays : LowerLaws → (old : Shelf) (local : ℕ) (before after : Row) (more : List Entry) (entries accepted : ℕ) (queue : List ℕ) (log : List LoggedStep) → Sound old → map.get old.rows local ≡ Some before
    → IsSame before after → after.accepted ≡ before.accepted ++ more → FramesStay before after → after.ended ≡ before.ended → QueueChanges old.ready queue local (ready before) (ready after)
    → places_held old + turns_of after ≤ turns_of before + most_places → entries ≡ old.entries + length more → accepted ≡ old.totals.accepted + component_count more → entries + sum_of admitted old.rows ≤ all_entries + 2 * most_dialogues
    → Sound (record (with_dialogue old local after) { entries = entries; ready = queue; totals = record old.totals { accepted = accepted }; log = log })
Sound-stays law old l before after more entries accepted queue log s was same is stay ended queued places entries_are accepted_is limit =
    let own = s.own l before was in
    let then : Shelf = record (with_dialogue old l after) { entries = entries; ready = queue; totals = record old.totals { accepted = accepted }; log = log } in
    Sound-change old then l (Some before) after s (record {
      was = was;
      rows = refl;
      gone = refl;
      link = link_stays old then s refl refl (omega (arith, entries_are)) refl;
      serials = serials_end law old l before after s was;
      apart = still_apart old l before after s was same.birth;
      entries = omega (arith, limit, ap one_if (admitted_as before after ended stay.core));
      room = omega (arith, s.held);
      own = own_after old then l before after own same refl (held_free old.free l after) (le_refl old.births) own.frames_born (λ e. own.dropped (ap is_some (sym ended) ∙ e)) (λ e. ended ∙ own.closed e);
      queue = queued;
      outbox = outbox_stays old l (Some before) after s was stay.sent_frames stay.kept_frames places;
      counts = counts_of law old then before after more s is entries_are accepted_is (omega (arith, stay.served)) (omega (arith, stay.sent));
    })

-- no more entries than there are free places
pub min_most : (a b c : ℕ) → min a (min b c) ≤ c
min_most a b c = omega arith

-- a turn that goes out is out
some_out : (n : ℕ) → 0 < n → nat_lt 0 n ≡ true
some_out n some = grind (arith, nat_tests)

pub taken_out : (free : ℕ) (before : Row) (turn : Turn) (after : Row) → HandsOut free before turn after → has_turn_out after ≡ true
taken_out free before turn after takes = some_out after.out (omega (arith, takes.out, takes.some))

pub Sound-takes : LowerLaws → (old new : Shelf) (turn : Turn) → Sound old → TakesTurn old turn new → Sound new
Sound-takes law old new turn s g =
    let l = turn.local in
    let log = logged old.log (line.Take g.before.birth turn.position (length turn.entries)) in
    subst Sound (ap (λ (t : Shelf). record t { ready = g.rest; log = log }) (held_dialogue old l g.after (held_out g.after (taken_out (most_places - places_held old) g.before turn g.after g.takes))) ∙ sym g.new_is)
    (Sound-stays law old l g.before g.after [] old.entries old.totals.accepted g.rest log s g.was g.takes.same (g.takes.accepted ∙ sym (append-nil g.before.accepted)) g.takes.stay g.takes.ended
    (queue_next old.ready g.rest l (ready g.before) (ready g.after) g.first (ready_at old l (Some g.before) s g.was) (ap one_if g.takes.was_ready) (ap one_if (not_ready_out g.after (taken_out (most_places - places_held old) g.before turn g.after g.takes))))
    (omega (arith, g.room, g.takes.out, g.takes.count, min_most most_entries (length (waiting_of g.before)) (most_places - places_held old))) (omega arith) (omega arith) s.entries)

-- a turn is handed out, or none
pub Sound-takes_one : LowerLaws → (old new : Shelf) (taken : Taken) → Sound old → Takes old taken new → Sound new
Sound-takes_one law old new (ATurn turn) s g = Sound-takes law old new turn s g
Sound-takes_one law old new Nothing s g = subst Sound (sym g.1) s
Sound-takes_one law old new NoRoom s g = subst Sound (sym g.2) s
Sound-takes_one law old new Memory s g = subst Sound (sym g.2) s

-- a turn that is out is of a dialogue that isn't over
pub record IsOut (row : Row) : Type 0 where
  pub is_out : has_turn_out row ≡ true
  pub live : is_over row.core ≡ false

out_by : (b : Bool) (o : Option Turn) (turn : Turn) → cond b o None ≡ Some turn → b ≡ true
out_by true o turn e = refl
out_by false o turn e = absurd (cc)

live_by : (out over : Bool) → (out && over) ≡ false → out ≡ true → over ≡ false
live_by true over live out = live
live_by false over live out = absurd (false≢true out)

pub is_out : (row : Row) (turn : Turn) → turn_out row ≡ Some turn → IsOut row
is_out row turn e =
    let out : has_turn_out row ≡ true = out_by (has_turn_out row) _ turn e in
    record { is_out = out; live = live_by (has_turn_out row) (is_over row.core) row.out_is_live out }

-- a dialogue whose turn is out isn't in the queue
pub not_queued : (s : Shelf) (local : ℕ) (row : Row) → Sound s → map.get s.rows local ≡ Some row → has_turn_out row ≡ true → count local s.ready ≡ 0
not_queued s local row k was out = ready_at s local (Some row) k was ∙ ap one_if (not_ready_out row out)

pub Sound-puts_back : LowerLaws → (old new : Shelf) (turn : Turn) → Sound old → PutsTurnBack old turn new → Sound new
Sound-puts_back law old new turn s g =
    let l = turn.local in
    let out = is_out g.before turn g.puts.was_out in
    subst Sound (sym g.new_is)
    (Sound-stays law old l g.before g.after [] old.entries old.totals.accepted (old.ready ++ joins l (is_ready g.after)) (logged old.log (line.PutBack g.before.birth turn.position)) s g.was g.puts.same
    (g.puts.accepted ∙ sym (append-nil g.before.accepted)) g.puts.stay g.puts.ended
    (queue_joins old.ready l (is_ready g.after) (ready g.before) (ready g.after) (ready_at old l (Some g.before) s g.was) (omega (arith, ap one_if (not_ready_out g.before out.is_out))))
    (omega (arith, s.places, g.puts.out)) (omega arith) (omega arith) s.entries)

-- of a dialogue that was ended from outside no request is accepted
none_asked : (P : Requested → Type 0) → P requested.Nothing → ((count : ℕ) → P (requested.Dropped count)) → (ended : Option Ending) (frames : List (List ℕ)) → is_some ended ≡ true → P (requested_of ended frames)
none_asked P nothing dropped None frames e = absurd (false≢true e)
none_asked P nothing dropped (Some ending) [] e = nothing
none_asked P nothing dropped (Some ending) (frame ∷ frames) e = dropped (length (frame ∷ frames))

-- a dialogue that ends with an entry is admitted no longer
fewer_by : (a b : Bool) → one_if (a && b) ≤ one_if (a && true)
fewer_by true true = omega arith
fewer_by true false = omega arith
fewer_by false b = omega arith

fewer_admitted : (before after : Row) → after.ended ≡ before.ended → is_over before.core ≡ false → admitted after ≤ admitted before
fewer_admitted before after ended live =
    let then : admitted after ≡ one_if (not (is_some before.ended) && not (is_over after.core)) = ap (λ e. one_if (not (is_some e) && not (is_over after.core))) ended in
    let was : admitted before ≡ one_if (not (is_some before.ended) && true) = ap (λ b. one_if (not (is_some before.ended) && not b)) live in
    omega (arith, then, was, fewer_by (not (is_some before.ended)) (not (is_over after.core)))

pub Sound-gives : LowerLaws → (old new : Shelf) (done : Done) (given : Given) → Sound old → GivesDone old done given new → Sound new
Sound-gives law old new done given s g =
    let l = done.turn.local in
    let own = s.own l g.before g.was in
    let out = is_out g.before done.turn g.gives.was_out in
    let joined = is_ready g.after in
    let more = waiting_in l g.before.birth g.asked in
    let then : Shelf = record (with_dialogue old l g.after) {
      ready = old.ready ++ joins l joined;
      outbox = record old.outbox { frames = old.outbox.frames ++ more };
      totals = more_served old.totals done.served;
      log = logged old.log (line.Give g.before.birth done.turn.position done.served given);
    } in
    let frames_then : frames_for l (old.outbox.frames ++ more) ≡ frames_for l old.outbox.frames ++ frames_in g.asked =
    frames_for-append l old.outbox.frames more ∙ ap (λ r. frames_for l old.outbox.frames ++ r) (requested_own l g.before.birth g.asked) in
    let others_then : (d : ℕ) → eqb d l ≡ false → frames_for d (old.outbox.frames ++ more) ≡ frames_for d old.outbox.frames =
    λ d ne. frames_for-append d old.outbox.frames more ∙ ap (λ r. frames_for d old.outbox.frames ++ r) (requested_other d l g.before.birth g.asked ne) ∙ append-nil _ in
    let first_out = frame_out l old.outbox.out in
    let all_then : unsent_frames old.outbox ++ more ≡ unsent_frames then.outbox = append_assoc (being_sent old.outbox.out) old.outbox.frames more in
    subst Sound (sym g.new_is) (Sound-change old then l (Some g.before) g.after s (record {
      was = g.was;
      rows = refl;
      gone = refl;
      link = link_stays old then s refl refl (le_refl old.entries) refl;
      serials = serials_end law old l g.before g.after s g.was;
      apart = still_apart old l g.before g.after s g.was g.gives.same.birth;
      entries = omega (arith, s.entries, fewer_admitted g.before g.after g.gives.ended out.live);
      room = omega (arith, s.held);
      own = own_after old then l g.before g.after own g.gives.same refl (held_free old.free l g.after) (le_refl old.births)
          (subst (AreBorn l g.before.birth) all_then (born_append l g.before.birth (unsent_frames old.outbox) more own.frames_born (asked_own l g.before.birth g.asked)))
          (λ e.
          let was : is_some g.before.ended ≡ true = ap is_some (sym g.gives.ended) ∙ e in
          frames_then ∙ ap (λ r. r ++ frames_in g.asked) (own.dropped was) ∙ ap frames_in g.gives.requested_is ∙ none_asked (λ r. frames_in r ≡ []) refl (λ count. refl) g.before.ended done.frames was)
          (λ e. g.gives.ended ∙ own.closed e);
      queue = queue_joins old.ready l joined (ready g.before) (ready g.after) (ready_at old l (Some g.before) s g.was) (omega (arith, ap one_if (not_ready_out g.before out.is_out)));
      outbox = record {
        other_dropped = λ d ne e. others_then d ne ∙ e;
        own_frames =
            ap (λ r. r ++ (first_out ++ frames_for l (old.outbox.frames ++ more))) g.gives.sent_frames
            ∙ ap (λ r. sent_of g.before ++ (first_out ++ r)) frames_then
            ∙ ap (λ r. sent_of g.before ++ r) (sym (append_assoc first_out (frames_for l old.outbox.frames) (frames_in g.asked)))
            ∙ sym (append_assoc (sent_of g.before) (unsent_for l old.outbox) (frames_in g.asked))
            ∙ ap (λ r. r ++ frames_in g.asked) (frames_at old l (Some g.before) s g.was) ∙ sym g.gives.kept_frames;
        other_frames = λ d ne. ap (λ r. frame_out d old.outbox.out ++ r) (others_then d ne);
        others_born = λ d birth ne all. subst (AreBorn d birth) all_then (born_append d birth (unsent_frames old.outbox) more all (asked_other d l birth g.before.birth g.asked ne));
        places = omega (arith, s.places, g.gives.out, length-append old.outbox.frames more, requested_count l g.before.birth g.asked, g.gives.few_frames);
        aborts = s.aborts;
        quiet = λ e.
            let closed : g.before.ended ≡ Some Closed = own.closed e in (
              (s.quiet e).0,
              ap (λ r. r ++ more) (s.quiet e).1 ∙ ap (waiting_in l g.before.birth) g.gives.requested_is ∙ none_asked (λ r. waiting_in l g.before.birth r ≡ []) refl (λ count. refl) g.before.ended done.frames (ap is_some closed),
            );
      };
      counts = counts_of law old then g.before g.after [] s (g.gives.accepted ∙ sym (append-nil g.before.accepted)) (omega arith) (omega arith) (omega (arith, g.gives.served)) (omega (arith, g.gives.sent));
    }))

none_first : (local : ℕ) → slice_get {X = ℕ} [] 0 ≡ Some local → ⊥
none_first local e = cc

same_first : (x local : ℕ) (rest : List ℕ) → slice_get (x ∷ rest) 0 ≡ Some local → x ≡ local
same_first x local rest e = cc

-- the first of a queue is taken off
pub first_is : (queue rest : List ℕ) (local : ℕ) (o : Option ℕ) → slice_get queue 0 ≡ Some local → queue ≡ option_to_list o ++ rest → IsEmptyIfNone o queue → queue ≡ local ∷ rest
first_is queue rest local None first taken none = absurd (none_first local (ap (λ q. slice_get q 0) (sym none) ∙ first))
first_is queue rest local (Some x) first taken none = taken ∙ ap (λ y. y ∷ rest) (same_first x local rest (ap (λ q. slice_get q 0) (sym taken) ∙ first))

stands_there : (queue : List ℕ) (local : ℕ) → slice_get queue 0 ≡ Some local → 1 ≤ count local queue
stands_there [] local first = absurd (none_first local first)
stands_there (x ∷ rest) local first =
    let here : count local (x ∷ rest) ≡ count local (local ∷ rest) = ap (λ y. count local (y ∷ rest)) (same_first x local rest first) in
    omega (arith, here, count_first local rest)

once_at_most : (o : Option Row) → ready_count o ≤ 1
once_at_most None = omega arith
once_at_most (Some row) = one_most (is_ready row)

-- the dialogue that is first is ready
pub first_is_ready : (s : Shelf) (local : ℕ) → Sound s → slice_get s.ready 0 ≡ Some local → ready_count (map.get s.rows local) ≡ 1
first_is_ready s local k first = omega (arith, k.ready local, stands_there s.ready local first, once_at_most (map.get s.rows local))

-- a turn is handed out

-- the turn is of the dialogue that is first
pub turn_is_of : (free : ℕ) (s : Shelf) (local : ℕ) (turn : Turn) (rows : Rows) → Sound s → (h : HandsOutAt free s.rows local turn rows) → turn.local ≡ local
turn_is_of free s local turn rows k h = h.does.local ∙ (k.own local h.before h.was).local_is

-- a dialogue that is ready has no turn out
pub idle : (row : Row) → is_ready row ≡ true → has_turn_out row ≡ false
idle row e = not-true (has_turn_out row) (and_parts (not (has_turn_out row)) (waits row) e).0

-- the entries of a turn are out
pub turn_there : (b : Inside) (local : ℕ) (row : Row) (count : ℕ) → IsKept b → map.get b.rows local ≡ Some row → count ≡ row.out → count ≤ b.turns
turn_there b local row count k was out = omega (arith, amount_within turns_of b.rows local row was, out, k.turns)

-- the entries of a turn are out no longer
pub fewer_turns : {R : Row → Row → Type 0} {rows : Rows} {local : ℕ} → (b : Inside) (count : ℕ) (g : Changes R b.rows local rows) → IsKept b → count ≡ g.before.out → g.after.out ≡ 0 → b.turns - count ≡ sum_of turns_of rows
fewer_turns {R} {rows} {local} b count g k out none =
    turns_by b.turns (b.turns - count) g k.turns (omega (arith, out, none, turn_there b local g.before count k g.was out))
