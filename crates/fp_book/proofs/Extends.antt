-- Messages that dialogues accept, that open one or end one, and dialogues that are closed: all that keeps what a book
-- keeps.
use Rattle.fp_book.proofs.Names.{AreBorn, AreSerials, Bool, ByPeer, Closed, ClosesDialogue, Content, Ending, Ends, EndsDialogue, Entry, Extends, ExtendsDialogue, FramesStay, IsSame, List, LoggedStep, None, OpensDialogue, Option, Posted, Prepared, Request, Row, Shelf, Some, Sound, Tid, [], all_entries, and_left, and_right, ap, append-nil, append_assoc, arith, base, being_sent, component_count, cond, ended_by, entries_in, eqb, false, false≢true, frame_of, frame_out, frames_for, frames_of, has_turn_out, identifier, is_admitted, is_closed, is_frame_of, is_held, is_over, is_ready, is_some, joins, kept_of, le_refl, length, length-append, length-map, length-take-le, logged, more_accepted, most_dialogues, most_elements, nat_lt, not, octets_of, one_if, option_map_or, or_cases, or_left, or_right, posted_line, ready_stays, refl, requests_of, sending, sent_of, subst, sum_of, sym, take, take-append-le, take_all, true, turns_of, unsent_for, unsent_frames, waits, with_dialogue, with_row, without, without_frames_of, zero-add, ℕ, ⊎_elim, ◌&&◌, ◌++◌, ◌+◌, ◌<◌, ◌||◌, ◌∙◌, ◌∷◌, ◌≡◌, ◌≤◌, ◌⊎◌, ◌*◌}
use Rattle.fp_book.proofs.LowerLaws.{LowerLaws}
use Rattle.std.specs.FinMap as map
use Rattle.fp_book.proofs.Born.{born_append, born_back, born_fewer, born_front, born_none, none_unsent}
use Rattle.fp_book.proofs.Changes.{Sound-change, admitted, one, one_if_most, ready, QueueChanges, link_stays, own_after, still_apart}
use Rattle.fp_book.proofs.Serials.{held_free, is_fresh, serial_given, serials_end}
use Rattle.fp_book.proofs.Queue.{queue_joins, queue_leaves}
use Rattle.fp_book.proofs.Sums.{len-sum, put_held, sum-le}
use Rattle.fp_book.proofs.Turns.{Sound-stays, admitted_as, components_few, counts_of, few_sent, frames_at, held_dialogue, outbox_stays, ready_at}
use Rattle.fp_book.proofs.Unsent.{dropped_other, dropped_own, fewer, others}
use Rattle.fp_book.specs.declared.parcel.Content.TheVariants as content

-- entries that wait still wait if more come
waits_more : (before after : Row) (more : List Entry) → Extends before more after → waits before ≡ true → waits after ≡ true
waits_more before after more g h =
    rw (g.ended, g.stay.core, g.stay.served) (ready_stays true (not (is_closed before.ended)) (not (is_over before.core)) before.served before.accepted more after.accepted g.accepted h)

more_true : (a b c d : Bool) → (a ≡ true → c ≡ true) → (b ≡ true → d ≡ true) → (a || b) ≡ true → (c || d) ≡ true
more_true a b c d f g h = ⊎_elim (λ e. or_left c d (f e)) (λ e. or_right c d (g e)) (or_cases a b h)

-- a dialogue of which something is left keeps it
pub held_more : (before after : Row) (more : List Entry) → Extends before more after → is_held before ≡ true → is_held after ≡ true
held_more before after more g h =
    more_true (is_admitted before) (has_turn_out before || (waits before || nat_lt before.sent before.kept)) (is_admitted after) (has_turn_out after || (waits after || nat_lt after.sent after.kept))
    (λ e. admitted_as before after g.ended g.stay.core ∙ e)
    (more_true (has_turn_out before) (waits before || nat_lt before.sent before.kept) (has_turn_out after) (waits after || nat_lt after.sent after.kept)
    (λ e. ap (nat_lt 0) g.out ∙ e)
    (more_true (waits before) (nat_lt before.sent before.kept) (waits after) (nat_lt after.sent after.kept)
    (waits_more before after more g)
    (λ e. ap (λ n. nat_lt n after.kept) g.stay.sent ∙ ap (nat_lt before.sent) g.stay.kept ∙ e)))
    h

-- a dialogue that becomes ready joins the queue
pub joined : (b a : Bool) → (b ≡ true → a ≡ true) → one_if b + one_if (not b && a) ≡ one_if a
joined true true h = omega arith
joined true false h = absurd (false≢true (h refl))
joined false true h = omega arith
joined false false h = omega arith

-- fewer dialogues are admitted than there are
pub few_admitted : (s : Shelf) → sum_of admitted s.rows ≤ map.len s.rows
few_admitted s = omega (arith, len-sum s.rows, sum-le admitted one s.rows (λ row. one_if_most (is_admitted row)))

-- one that is there has accepted entries
pub Sound-extended : LowerLaws → (old : Shelf) (local : ℕ) (before after : Row) (more : List Entry) (joins_it : Bool) (log : List LoggedStep) → Sound old → map.get old.rows local ≡ Some before
    → Extends before more after → one_if (is_ready before) + one_if joins_it ≡ one_if (is_ready after) → old.entries + length more + sum_of admitted old.rows ≤ all_entries + 2 * most_dialogues
    → Sound (record old {
      entries = old.entries + length more;
      rows = map.insert old.rows local after;
      ready = old.ready ++ joins local joins_it;
      totals = more_accepted old.totals more;
      log = log;
    })
Sound-extended law old l before after more joins_it log s was extends join limit =
    let held : is_held after ≡ true = held_more before after more extends (s.own l before was).is_left in
    let queue = old.ready ++ joins l joins_it in
    subst Sound (ap (λ (t : Shelf). record t { entries = old.entries + length more; ready = queue; totals = more_accepted old.totals more; log = log }) (held_dialogue old l after held))
    (Sound-stays law old l before after more (old.entries + length more) (old.totals.accepted + component_count more) queue log s was extends.same extends.accepted extends.stay extends.ended
    (queue_joins old.ready l joins_it (ready before) (ready after) (ready_at old l (Some before) s was) join) (omega (arith, s.places, extends.out)) refl refl limit)

pub Sound-extends : LowerLaws → (old new : Shelf) (local : ℕ) (came : Prepared) (answer : Posted) → Sound old → ExtendsDialogue old local came answer new → old.entries < all_entries
    → length (entries_in came) ≤ most_elements + 1 → Sound new
Sound-extends law old new local came answer s g room few =
    subst Sound (sym g.new_is)
    (Sound-extended law old local g.before g.after (entries_in came) (not (is_ready g.before) && is_ready g.after) (logged old.log (posted_line came answer)) s g.was g.extends
    (joined (is_ready g.before) (is_ready g.after) g.extends.ready_stays) (omega (arith, room, few, few_admitted old, s.held)))

pub Sound-opens : LowerLaws → (old new : Shelf) (peer : Tid) (came : Prepared) (answer : Posted) → Sound old → OpensDialogue old peer came answer new → old.is_down ≡ false → old.entries < all_entries
    → length (entries_in came) ≤ most_elements + 1 → 0 < length (entries_in came) → map.len old.rows < most_dialogues → Sound new
Sound-opens law old new peer came answer s g up room few some places =
    let l = identifier (base old) g.serial in
    let more = entries_in came in
    let after = g.after in
    let was : map.get old.rows l ≡ None = is_fresh old g.serial g.rest s g.first in
    let given = law.gives g.serial g.rest (subst AreSerials g.first s.serials) in
    let then : Shelf = record old {
      free = g.rest;
      births = old.births + 1;
      entries = old.entries + length more;
      rows = map.insert old.rows l after;
      ready = old.ready ++ joins l (is_ready after);
      totals = more_accepted old.totals more;
      log = logged old.log (posted_line came answer);
    } in
    let not_ended : after.ended ≡ None = g.extends.ended ∙ g.opens.ended in
    let is_admitted_then : is_admitted after ≡ true =
    ap (λ e. not (is_some e) && not (is_over after.core)) not_ended ∙ ap (λ c. not (is_over c)) (g.extends.stay.core ∙ g.opens.core) in
    let held : is_held after ≡ true = or_left (is_admitted after) _ is_admitted_then in
    let no_turn : turns_of after ≡ 0 = g.extends.out ∙ g.opens.out in
    let accepted_is : after.accepted ≡ more = g.extends.accepted ∙ ap (λ es. es ++ more) g.opens.accepted in
    let birth_is : after.birth ≡ old.births + 1 = g.extends.same.birth ∙ g.opens.birth_is in
    subst Sound (sym g.new_is) (Sound-change old then l None after s (record {
      was = was;
      rows = put_held old.rows l after held;
      gone = ap (λ b. cond b old.gone (with_row old.gone after)) (sym held);
      link = record { link = refl; births = omega arith; few_births = omega (arith, s.births, some); down = refl };
      serials = serial_given law old g.serial g.rest l after s g.first held;
      apart = λ q other ne there same. absurd (let most : other.birth ≤ old.births = (s.own q other there).born.1 in omega (arith, most, same, birth_is));
      entries = omega (arith, room, few, few_admitted old, places, ap one_if is_admitted_then);
      room = omega (arith, places);
      own = λ _. record {
        local_is = g.extends.same.local ∙ g.opens.local_is;
        is_left = held;
        born = (omega arith, omega arith);
        serial = (g.serial, given.0, given.1, refl, given.2);
        frames_born = born_none l after.birth (unsent_frames old.outbox) (none_unsent l old.outbox (frames_at old l None s was));
        dropped = λ e. absurd (false≢true (sym (ap is_some not_ended) ∙ e));
        closed = λ e. absurd (false≢true (sym up ∙ e));
      };
      queue = queue_joins old.ready l (is_ready after) 0 (ready after) (ready_at old l None s was) (zero-add _);
      outbox = outbox_stays old l None after s was (g.extends.stay.sent_frames ∙ ap (λ n. take n (frames_of g.opened)) g.opens.sent) (g.extends.stay.kept_frames ∙ ap (λ n. take n (frames_of g.opened)) g.opens.kept)
          (omega (arith, s.places, no_turn));
      counts = record {
        accepted = omega (arith, ap component_count accepted_is);
        served = omega (arith, g.extends.stay.served, g.opens.served);
        sent = omega (arith, g.extends.stay.sent, g.opens.sent);
        all_entries = omega (arith, ap length accepted_is);
        few_accepted = omega (arith, s.few_accepted, components_few more);
        few_sent = few_sent law.asks after;
      };
    }))

-- a frame of the dialogue is being sent: it is the one
one_by : (local : ℕ) (own : Bool) (frame : List ℕ) → sending own ≡ length (cond own (frame ∷ []) [] ++ [])
one_by local true frame = refl
one_by local false frame = refl

pub sending_count : (local : ℕ) (out : Option Content) → sending (is_frame_of local out) ≡ length (frame_out local out)
sending_count local None = refl
sending_count local (Some (content.Abort frame)) = refl
sending_count local (Some (content.Frame w)) = one_by local (eqb w.local local) w.frame

-- as many frames were sent as are counted
pub sent_count : (row : Row) → length (sent_of row) ≡ row.sent
sent_count row =
    let count : length (frames_of row) ≡ length (requests_of row) = length-map (requests_of row) (λ (request : Request). frame_of request row.local (octets_of row.peer)) in
    length-take-le row.sent (frames_of row) (omega (arith, row.queued_within, row.kept_within, row.sent_within))

-- and as many are kept
pub kept_count : (row : Row) → length (kept_of row) ≡ row.kept
kept_count row =
    let count : length (frames_of row) ≡ length (requests_of row) = length-map (requests_of row) (λ (request : Request). frame_of request row.local (octets_of row.peer)) in
    length-take-le row.kept (frames_of row) (omega (arith, row.queued_within, row.kept_within))

pub front : (n : ℕ) (xs ys zs : List (List ℕ)) → n ≡ length xs + length ys → take n (xs ++ (ys ++ zs)) ≡ xs ++ ys
front n xs ys zs is =
    let all : length (xs ++ ys) ≡ n = length-append xs ys ∙ sym is in
    ap (take n) (sym (append_assoc xs ys zs)) ∙ take-append-le n (xs ++ ys) zs (omega (arith, all)) ∙ take_all n (xs ++ ys) (omega (arith, all))

-- what is kept of the frames of a dialogue that is ended: what was sent, and what is being sent
pub ended_frames : (s : Shelf) (local : ℕ) (row : Row) → sent_of row ++ unsent_for local s.outbox ≡ kept_of row
    → sent_of row ++ frame_out local s.outbox.out ≡ take (row.sent + sending (is_frame_of local s.outbox.out)) (kept_of row)
ended_frames s local row all =
    let out = frame_out local s.outbox.out in
    sym (ap (take (row.sent + sending (is_frame_of local s.outbox.out))) (sym all)
    ∙ front (row.sent + sending (is_frame_of local s.outbox.out)) (sent_of row) out (frames_for local s.outbox.frames)
    (omega (arith, sent_count row, sending_count local s.outbox.out)))

-- a dialogue that is ended takes no messages
some_ended : (ending : Ending) (ended : Option Ending) → is_some (ended_by ending ended) ≡ true
some_ended ending None = refl
some_ended ending (Some ByPeer) = refl
some_ended ending (Some Closed) = refl

pub none_admitted : (ending : Ending) (sends : Bool) (before after : Row) → Ends ending sends before after → is_admitted after ≡ false
none_admitted ending sends before after g =
    and_left (not (is_some after.ended)) (not (is_over after.core)) (ap (λ e. not (is_some e)) g.ended ∙ ap not (some_ended ending before.ended))

-- one that its peer ended is served as before
closed_as : (ended : Option Ending) → is_closed (ended_by ByPeer ended) ≡ is_closed ended
closed_as None = refl
closed_as (Some ByPeer) = refl
closed_as (Some Closed) = refl

served_on : (sends : Bool) (before after : Row) → Ends ByPeer sends before after → is_ready after ≡ is_ready before
served_on sends before after g = rw (g.out, g.ended, closed_as before.ended, g.core, g.served, g.accepted) refl

-- one that is closed is not served
pub closed_then : (ended : Option Ending) → ended_by Closed ended ≡ Some Closed
closed_then None = refl
closed_then (Some ByPeer) = refl
closed_then (Some Closed) = refl

pub not_served : (sends : Bool) (before after : Row) → Ends Closed sends before after → is_ready after ≡ false
not_served sends before after g =
    and_right (not (has_turn_out after)) (waits after)
    (and_left (not (is_closed after.ended)) (not (is_over after.core) && nat_lt after.served (length after.accepted))
    (ap (λ e. not (is_closed e)) (g.ended ∙ closed_then before.ended)))

same_both : (a b c : Row) → IsSame a b → IsSame b c → IsSame a c
same_both a b c f g = record { local = g.local ∙ f.local; peer = g.peer ∙ f.peer; birth = g.birth ∙ f.birth; opened = g.opened ∙ f.opened }

-- a dialogue accepts entries, or none, and is ended: its frames that wait are dropped
Sound-ended : LowerLaws → (ending : Ending) (old : Shelf) (local : ℕ) (before middle after : Row) (more : List Entry) (entries accepted : ℕ) (queue : List ℕ) (log : List LoggedStep) → Sound old
    → map.get old.rows local ≡ Some before → IsSame before middle → middle.accepted ≡ before.accepted ++ more → FramesStay before middle → middle.out ≡ before.out
    → Ends ending (is_frame_of local old.outbox.out) middle after → (old.is_down ≡ true → after.ended ≡ Some Closed) → QueueChanges old.ready queue local (ready before) (ready after)
    → entries ≡ old.entries + length more → accepted ≡ old.totals.accepted + component_count more → entries + sum_of admitted old.rows ≤ all_entries + 2 * most_dialogues + admitted before
    → Sound (record (with_dialogue old local after) {
      entries = entries;
      ready = queue;
      outbox = without_frames_of local old.outbox;
      totals = record old.totals { accepted = accepted };
      log = log;
    })
Sound-ended law ending old l before middle after more entries accepted queue log s was same is stay out ends closed queued entries_are accepted_is limit =
    let own = s.own l before was in
    let then : Shelf = record (with_dialogue old l after) {
      entries = entries;
      ready = queue;
      outbox = without_frames_of l old.outbox;
      totals = record old.totals { accepted = accepted };
      log = log;
    } in
    let all : sent_of middle ++ unsent_for l old.outbox ≡ kept_of middle =
    ap (λ r. r ++ unsent_for l old.outbox) stay.sent_frames ∙ frames_at old l (Some before) s was ∙ sym stay.kept_frames in
    let fewer_born : (d birth : ℕ) → AreBorn d birth (unsent_frames old.outbox) → AreBorn d birth (unsent_frames then.outbox) =
    λ d birth all.
    born_append d birth (being_sent old.outbox.out) (others l old.outbox.frames) (born_front d birth (being_sent old.outbox.out) old.outbox.frames all)
    (born_fewer d birth l old.outbox.frames (born_back d birth (being_sent old.outbox.out) old.outbox.frames all)) in
    Sound-change old then l (Some before) after s (record {
      was = was;
      rows = refl;
      gone = refl;
      link = link_stays old then s refl refl (omega (arith, entries_are)) refl;
      serials = serials_end law old l before after s was;
      apart = still_apart old l before after s was (ends.same.birth ∙ same.birth);
      entries = omega (arith, limit, ap one_if (none_admitted ending (is_frame_of l old.outbox.out) middle after ends));
      room = omega (arith, s.held);
      own = own_after old then l before after own (same_both before middle after same ends.same) refl (held_free old.free l after) (le_refl old.births) (fewer_born l before.birth own.frames_born)
          (λ e. dropped_own l old.outbox.frames) closed;
      queue = queued;
      outbox = record {
        other_dropped = λ d ne e. dropped_other d l old.outbox.frames ne ∙ e;
        own_frames =
            ap (λ r. r ++ unsent_for l then.outbox) ends.sent_frames
            ∙ ap (λ r. sent_of middle ++ (frame_out l old.outbox.out ++ r)) (dropped_own l old.outbox.frames)
            ∙ ap (λ r. sent_of middle ++ r) (append-nil (frame_out l old.outbox.out))
            ∙ ended_frames old l middle all ∙ sym ends.kept_frames;
        other_frames = λ d ne. ap (λ r. frame_out d old.outbox.out ++ r) (dropped_other d l old.outbox.frames ne);
        others_born = λ d birth ne all. fewer_born d birth all;
        places = omega (arith, s.places, ends.out, out, fewer l old.outbox.frames);
        aborts = s.aborts;
        quiet = λ e. ((s.quiet e).0, ap (others l) (s.quiet e).1);
      };
      counts = counts_of law old then before after more s (ends.accepted ∙ is) entries_are accepted_is (omega (arith, ends.served, stay.served)) (omega (arith, ends.sent, stay.sent));
    })

pub Sound-ends : LowerLaws → (old new : Shelf) (local : ℕ) (came : Prepared) (answer : Posted) → Sound old → EndsDialogue old local came answer new → option_map_or is_admitted (map.get old.rows local) false ≡ true
    → ((old.entries < all_entries) × (length (entries_in came) ≤ most_elements + 1)) ⊎ (length (entries_in came) ≤ 1) → Sound new
Sound-ends law old new local came answer s g takes_more limit =
    let more = entries_in came in
    let join : ready g.before + one_if (not (is_ready g.before) && is_ready g.after) ≡ ready g.after =
    joined (is_ready g.before) (is_ready g.after) (λ e. served_on (is_frame_of local old.outbox.out) g.extended g.after g.ends ∙ g.extends.ready_stays e) in
    let was_admitted : admitted g.before ≡ 1 = ap one_if (sym (ap (λ o. option_map_or is_admitted o false) g.was) ∙ takes_more) in
    let room : old.entries + length more + sum_of admitted old.rows ≤ all_entries + 2 * most_dialogues + admitted g.before =
    ⊎_elim (λ h. let room : old.entries < all_entries = h.0 in let few : length more ≤ most_elements + 1 = h.1 in omega (arith, few_admitted old, s.held)) (λ h. omega (arith, h, s.entries, was_admitted)) limit in
    subst Sound (sym g.new_is)
    (Sound-ended law ByPeer old local g.before g.extended g.after more (old.entries + length more) (old.totals.accepted + component_count more) (old.ready ++ joins local (not (is_ready g.before) && is_ready g.after))
    (logged old.log (posted_line came answer)) s g.was g.extends.same g.extends.accepted g.extends.stay g.extends.out g.ends
    (λ e. g.ends.ended ∙ ap (ended_by ByPeer) (g.extends.ended ∙ (s.own local g.before g.was).closed e))
    (queue_joins old.ready local (not (is_ready g.before) && is_ready g.after) (ready g.before) (ready g.after) (ready_at old local (Some g.before) s g.was) join) refl refl room)

-- nothing changed yet
frames_same : (row : Row) → FramesStay row row
frames_same row = record {
  served = refl;
  core = refl;
  queued = refl;
  kept = refl;
  sent = refl;
  all_frames = refl;
  queued_frames = refl;
  kept_frames = refl;
  sent_frames = refl;
}

pub Sound-closes : LowerLaws → (old new : Shelf) (local : ℕ) → Sound old → ClosesDialogue old local new → Sound new
Sound-closes law old new local s g =
    let before = g.before in
    subst Sound (sym g.new_is)
    (Sound-ended law Closed old local before before g.after [] old.entries old.totals.accepted (without local old.ready) old.log s g.was (record { local = refl; peer = refl; birth = refl; opened = refl })
    (sym (append-nil before.accepted)) (frames_same before) refl g.ends (λ e. g.ends.ended ∙ closed_then before.ended)
    (queue_leaves old.ready local (ready before) (ready g.after) (ready_at old local (Some before) s g.was) (ap one_if (not_served (is_frame_of local old.outbox.out) before g.after g.ends)))
    (omega arith) (omega arith) (omega (arith, s.entries)))
