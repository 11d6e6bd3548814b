-- To hand out what is sent next, and to take it back, keeps what a book keeps.
use Rattle.fp_book.proofs.Names.{AbortFrame, AreBorn, Content, IsNext, List, LoggedStep, None, Outbox, PicksParcel, Sends, SendsAbort, SendsFrame, Shelf, Some, Sound, Waiting, [], ap, append-nil, append_assoc, arith, being_sent, birth_of, frame_out, frames_for, frames_held, is_some, kept_of, le_refl, length, logged, of_row, one_if, one_sent, places_out, refl, sent_of, subst, sym, true, unsent_for, unsent_frames, with_dialogue, with_nothing_out, ℕ, ◌++◌, ◌∙◌, ◌∷◌, ◌≡◌, ◌≤◌, all_entries, most_aborts_waiting}
use Rattle.fp_book.proofs.LowerLaws.{LowerLaws}
use Rattle.std.specs.FinMap as map
use Rattle.fp_book.proofs.Born.{born_back}
use Rattle.fp_book.proofs.Changes.{Sound-change, link_stays, ready, stays_own, still_apart, own_after}
use Rattle.fp_book.proofs.Queue.{queue_stays}
use Rattle.fp_book.proofs.Serials.{held_free, serials_end}
use Rattle.fp_book.proofs.Turns.{admitted_as, counts_of, frames_at, ready_at}
use Rattle.fp_book.proofs.Unsent.{first_other, first_own, frames_for-append}
use Rattle.fp_book.specs.declared.line.LoggedStep.TheVariants as line
use Rattle.fp_book.specs.declared.parcel.Content.TheVariants as content

-- the frames that are to be sent are the same, wherever they wait
pub record WaitsAlike (s : Shelf) (outbox : Outbox) : Type 0 where
  pub dropped : (d : ℕ) → frames_for d s.outbox.frames ≡ [] → frames_for d outbox.frames ≡ []
  pub unsent : (d : ℕ) → unsent_for d outbox ≡ unsent_for d s.outbox
  pub all_unsent : unsent_frames outbox ≡ unsent_frames s.outbox
  pub places : frames_held outbox ≤ frames_held s.outbox
  pub aborts : length outbox.aborts ≤ most_aborts_waiting
  pub quiet : s.is_down ≡ true → (outbox.aborts ≡ []) × (outbox.frames ≡ [])

-- no dialogue changes
pub Sound-outbox : (s : Shelf) (outbox : Outbox) (log : List LoggedStep) → Sound s → WaitsAlike s outbox → Sound (record s { outbox = outbox; log = log })
Sound-outbox s outbox log k g =
    let then : Shelf = record s { outbox = outbox; log = log } in
    record {
      links = k.links;
      tags = k.tags;
      serials = k.serials;
      serial_count = k.serial_count;
      births = k.births;
      births_apart = k.births_apart;
      entries = k.entries;
      own = λ d row e. stays_own s then d row refl (λ _ _ absent. absent) (le_refl s.births) refl (subst (AreBorn d row.birth) (sym g.all_unsent)) (g.dropped d) (k.own d row e);
      held = k.held;
      frames = λ d. ap (λ r. of_row sent_of (map.get s.rows d) ++ r) (g.unsent d) ∙ k.frames d;
      ready = k.ready;
      ready_length = k.ready_length;
      places = omega (arith, k.places, g.places);
      aborts = g.aborts;
      quiet = g.quiet;
      accepted = k.accepted;
      served = k.served;
      sent = k.sent;
      all_entries = k.all_entries;
      few_accepted = k.few_accepted;
      gone_sent = k.gone_sent;
    }

none_in_rest : {A : Type 0} (xs ys : List A) → xs ++ ys ≡ [] → ys ≡ []
none_in_rest [] ys e = e
none_in_rest (x ∷ xs) ys e = absurd (cc)

-- what is sent next is no longer among those that wait, and is out
next_alike : (s : Shelf) (picked : Content) (rest : Outbox) → Sound s → s.outbox.out ≡ None → IsNext s.outbox picked rest
    → WaitsAlike s (record { aborts = rest.aborts; frames = rest.frames; out = Some picked })
next_alike s (content.Abort frame) rest k none next =
    let fewer : length s.outbox.aborts ≡ length (frame ∷ rest.aborts) = ap length next.0 in
    record {
      dropped = λ d e. ap (frames_for d) next.1 ∙ e;
      unsent = λ d. ap (frames_for d) next.1 ∙ ap (λ o. frame_out d o ++ frames_for d s.outbox.frames) (sym none);
      all_unsent = next.1 ∙ ap (λ o. being_sent o ++ s.outbox.frames) (sym none);
      places = omega (arith, ap length next.1, ap places_out none);
      aborts = omega (arith, fewer, k.aborts);
      quiet = λ e. absurd (let clash : frame ∷ rest.aborts ≡ [] = sym next.0 ∙ (k.quiet e).0 in cc);
    }
next_alike s (content.Frame w) rest k none next =
    let fewer : length s.outbox.frames ≡ length (w ∷ rest.frames) = ap length next.2 in
    record {
      dropped = λ d e. none_in_rest (frames_for d (w ∷ [])) (frames_for d rest.frames) (sym (frames_for-append d (w ∷ []) rest.frames) ∙ ap (frames_for d) (sym next.2) ∙ e);
      unsent = λ d.
          sym (frames_for-append d (w ∷ []) rest.frames) ∙ ap (frames_for d) (sym next.2)
          ∙ ap (λ o. frame_out d o ++ frames_for d s.outbox.frames) (sym none);
      all_unsent = sym next.2 ∙ ap (λ o. being_sent o ++ s.outbox.frames) (sym none);
      places = omega (arith, fewer, ap places_out none);
      aborts = omega (arith, ap length next.1);
      quiet = λ e. absurd (let clash : w ∷ rest.frames ≡ [] = sym next.2 ∙ (k.quiet e).1 in cc);
    }

pub Sound-picks : (old new : Shelf) (picked : Content) → Sound old → PicksParcel old picked new → Sound new
Sound-picks old new picked s g =
    let outbox : Outbox = record { aborts = g.rest.aborts; frames = g.rest.frames; out = Some picked } in
    subst Sound (sym g.new_is) (Sound-outbox old outbox (logged old.log (line.Pick (birth_of picked))) s (next_alike old picked g.rest s g.none_out g.next))

pub Sound-sends_abort : (old new : Shelf) (frame : AbortFrame) → Sound old → SendsAbort old frame new → Sound new
Sound-sends_abort old new frame s g =
    let alike : WaitsAlike old (with_nothing_out old.outbox) =
    record {
      dropped = λ d e. e;
      unsent = λ d. ap (λ o. frame_out d o ++ frames_for d old.outbox.frames) (sym g.was_out);
      all_unsent = ap (λ o. being_sent o ++ old.outbox.frames) (sym g.was_out);
      places = omega (arith, ap places_out g.was_out);
      aborts = s.aborts;
      quiet = s.quiet;
    }
    in
    subst Sound (sym g.new_is) (Sound-outbox old (with_nothing_out old.outbox) (logged old.log (line.Sent 0)) s alike)

pub Sound-sends_frame : LowerLaws → (old new : Shelf) (w : Waiting) → Sound old → SendsFrame old w new → Sound new
Sound-sends_frame law old new w s g =
    let l = w.local in
    let own = s.own l g.before g.was in
    let then : Shelf = record (with_dialogue old l g.after) { outbox = with_nothing_out old.outbox; totals = one_sent old.totals; log = logged old.log (line.Sent w.birth) } in
    let waits_for = frames_for l old.outbox.frames in
    let left : (d birth : ℕ) → AreBorn d birth (unsent_frames old.outbox) → AreBorn d birth old.outbox.frames =
    λ d birth all. born_back d birth (being_sent old.outbox.out) old.outbox.frames all in
    let was : sent_of g.before ++ w.frame ∷ waits_for ≡ kept_of g.before =
    ap (λ r. sent_of g.before ++ (r ++ waits_for)) (sym (first_own l w [] refl))
    ∙ ap (λ o. sent_of g.before ++ (frame_out l o ++ waits_for)) (sym g.was_out) ∙ frames_at old l (Some g.before) s g.was in
    subst Sound (sym g.new_is) (Sound-change old then l (Some g.before) g.after s (record {
      was = g.was;
      rows = refl;
      gone = refl;
      link = link_stays old then s refl refl (le_refl old.entries) refl;
      serials = serials_end law old l g.before g.after s g.was;
      apart = still_apart old l g.before g.after s g.was g.sends.same.birth;
      entries = omega (arith, s.entries, ap one_if (admitted_as g.before g.after g.sends.ended g.sends.core));
      room = omega (arith, s.held);
      own = own_after old then l g.before g.after own g.sends.same refl (held_free old.free l g.after) (le_refl old.births) (left l g.before.birth own.frames_born)
          (λ e. own.dropped (ap is_some (sym g.sends.ended) ∙ e)) (λ e. g.sends.ended ∙ own.closed e);
      queue = queue_stays old.ready l (ready g.before) (ready g.after) (ready_at old l (Some g.before) s g.was) (ap one_if (sym g.sends.ready_stays));
      outbox = record {
        other_dropped = λ d ne e. e;
        own_frames =
            ap (λ r. r ++ waits_for) (g.sends.one_more w.frame waits_for was) ∙ append_assoc (sent_of g.before) (w.frame ∷ []) waits_for
            ∙ was ∙ sym g.sends.kept_frames;
        other_frames = λ d ne.
            ap (λ r. r ++ frames_for d old.outbox.frames) (sym (first_other d w [] ne))
            ∙ ap (λ o. frame_out d o ++ frames_for d old.outbox.frames) (sym g.was_out);
        others_born = λ d birth ne all. left d birth all;
        places = omega (arith, s.places, g.sends.out);
        aborts = s.aborts;
        quiet = s.quiet;
      };
      counts = counts_of law old then g.before g.after [] s (g.sends.accepted ∙ sym (append-nil g.before.accepted)) (omega arith) (omega arith) (omega (arith, g.sends.served)) (omega (arith, g.sends.sent));
    }))

pub Sound-sends : LowerLaws → (old new : Shelf) (sent : Content) → Sound old → Sends old sent new → Sound new
Sound-sends law old new (content.Frame w) s g = Sound-sends_frame law old new w s g
Sound-sends law old new (content.Abort frame) s g = Sound-sends_abort old new frame s g
