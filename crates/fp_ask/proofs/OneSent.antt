-- One frame is sent.
use Rattle.std.proofs.Common.{◌≡◌, ℕ, not, ◌&&◌, nat_lt, Some, None, is_some, List, [], ◌∷◌, ◌++◌, length, map, refl, sym, ◌∙◌, ap, subst, arith, append_assoc, inl}
use Rattle.std.specs.FinMap as fin
use Rattle.fp_book.specs.declared.parcel.Content.{Content}
use Rattle.fp_book.specs.declared.parcel.Waiting.{Waiting}
use Rattle.fp_book.specs.Calls.{PicksParcel, Sends, SendsAbort, SendsFrame}
use Rattle.fp_book.specs.Parcel.{octets_of}
use Rattle.fp_book.specs.Shelf.{Shelf, Sound, free_with, keep, ready_count}
use Rattle.fp_book.proofs.Sums.{OneChanges, kept, left_of}
use Rattle.fp_reply.specs.ProviderAbort.{AbortFrame, frame_octets}
use Rattle.fp_row.specs.Row.{is_ready}
use Rattle.fp_service.specs.Dialogue.{is_over}
use Rattle.fp_ask.specs.Tied.{is_out, live}
use Rattle.fp_ask.specs.proof_only.Serving.{IsServed, KeepsDialogues, KeepsFree, frames_in, jobs_in, jobs_of}
use Rattle.fp_ask.proofs.Rows.{live_left, live_stays, out_left, outs_then}
use Rattle.fp_ask.proofs.Dialogues.{by_number, count, none_if}
use Rattle.fp_ask.proofs.Serials.{frees_same, nothing_left, sent_frees}

-- nothing is ready, so no entry waits
pub no_jobs : (s : Shelf) → s.ready ≡ [] → jobs_of s ≡ []
no_jobs s e = ap (λ q. jobs_in q s.rows) e

pub record OneSent (s new : Shelf) (frame : List ℕ) : Type 0 where
  pub served : IsServed new
  pub keeps : KeepsDialogues s new
  pub frames : frames_in s.outbox ≡ frame ∷ frames_in new.outbox

-- an Abort of the provider is of no dialogue
abort_frees : (s mid new : Shelf) (frame : AbortFrame) → PicksParcel s (Content.Abort frame) mid → SendsAbort mid frame new → KeepsFree s new
abort_frees s mid new frame p g = frees_same s new
    (ap (λ (x : Shelf). x.rows) g.new_is ∙ ap (λ (x : Shelf). x.rows) p.new_is)
    (ap (λ (x : Shelf). x.free) g.new_is ∙ ap (λ (x : Shelf). x.free) p.new_is)
    (ap (λ (x : Shelf). x.ready) g.new_is ∙ ap (λ (x : Shelf). x.ready) p.new_is)
    (ap (λ (x : Shelf). x.outbox.frames) g.new_is ∙ ap (λ (x : Shelf). x.outbox.frames) p.new_is ∙ p.next.1)

-- a frame is of its dialogue
frame_frees : (s mid new : Shelf) (w : Waiting) → IsServed s → PicksParcel s (Content.Frame w) mid → SendsFrame mid w new → Sound new → KeepsFree s new
frame_frees s mid new w served p g sound =
    let f = served.fit in
    let was : fin.get s.rows w.local ≡ Some g.before = ap (λ (x : Shelf). fin.get x.rows w.local) (sym p.new_is) ∙ g.was in
    let rows : new.rows ≡ keep s.rows w.local g.after = ap (λ (x : Shelf). x.rows) g.new_is ∙ ap (λ (x : Shelf). keep x.rows w.local g.after) p.new_is in
    let row = subst (λ r. OneChanges s.rows r w.local (Some g.before) (left_of g.after)) (sym rows) (kept s.rows w.local (Some g.before) g.after was) in
    let none : new.outbox.out ≡ None = ap (λ (x : Shelf). x.outbox.out) g.new_is in
    let out = ap (nat_lt 0) g.sends.out ∙ sym (ap is_out was) ∙ f.idle w.local in
    let unready = g.sends.ready_stays ∙ none_if (is_ready g.before) (sym (f.sound.ready w.local ∙ ap ready_count was) ∙ ap (count w.local) served.ready) in
    sent_frees {before = g.before} {after = g.after} (record {
      row = row;
      stays = λ i. not (is_some (g.sends.ended i)) && not (is_over (g.sends.core i));
      free = ap (λ (x : Shelf). x.free) g.new_is ∙ ap (λ (x : Shelf). free_with x.free w.local g.after) p.new_is;
      frames = p.next.2 ∙ ap (λ frames. w ∷ frames) (sym (ap (λ (x : Shelf). x.outbox.frames) g.new_is ∙ ap (λ (x : Shelf). x.outbox.frames) p.new_is));
      ready = ap (λ (x : Shelf). x.ready) g.new_is ∙ ap (λ (x : Shelf). x.ready) p.new_is ∙ served.ready;
      last = λ gone last. nothing_left new w.local g.after sound row.there out unready none last gone;
    })

-- what was picked was sent
pub picked_and_sent : (s mid new : Shelf) (picked : Content) → IsServed s → PicksParcel s picked mid → Sends mid picked new → Sound new → OneSent s new (octets_of picked)
picked_and_sent s mid new (Content.Abort frame) served p all sound =
    let f = served.fit in
    subst (λ m. SendsAbort m frame new → OneSent s new (frame_octets frame)) (sym p.new_is) (λ g. subst (λ n. Sound n → KeepsFree s n → OneSent s n (frame_octets frame)) (sym g.new_is) (λ sound frees. record {
      served = record {
        fit = record {
          sound = sound;
          link = f.link;
          up = f.up;
          idle = f.idle;
          none_out = refl;
          orderly = f.orderly;
          room = omega (arith, f.room, ap length p.next.1);
        };
        ready = served.ready;
      };
      keeps = record { lives = λ k. refl; counts = record { bases = refl; births = refl; entries = refl }; free = frees };
      frames = λ i. map frame_octets (p.next.0 i) ++ map (λ (w : Waiting). w.frame) (sym p.next.1 i);
    }) sound (abort_frees s mid new frame p all)) all
picked_and_sent s mid new (Content.Frame w) served p all sound =
    let f = served.fit in
    subst (λ m. SendsFrame m w new → OneSent s new w.frame) (sym p.new_is) (λ (g : SendsFrame _ w new). subst (λ n. Sound n → KeepsFree s n → OneSent s n w.frame) (sym g.new_is) (λ sound frees.
    let was : fin.get s.rows w.local ≡ Some g.before = g.was in
    let there = kept s.rows w.local (Some g.before) g.after was in
    record {
      served = record {
        fit = record {
          sound = sound;
          link = f.link;
          up = f.up;
          idle = outs_then there f.idle (out_left g.after (ap (nat_lt 0) g.sends.out ∙ sym (ap is_out was) ∙ f.idle w.local));
          none_out = refl;
          orderly = inl (omega (arith, ap length served.ready));
          room = omega (arith, f.room, ap length p.next.2, ap (λ q. length (jobs_in q (keep s.rows w.local g.after))) served.ready);
        };
        ready = served.ready;
      };
      keeps = record {
        lives = λ k. by_number k w.local (λ k. live (fin.get (keep s.rows w.local g.after) k) ≡ live (fin.get s.rows k))
            (ap live there.there ∙ live_left g.after ∙ live_stays g.before g.after g.sends.same g.sends.ended g.sends.core ∙ sym (ap live was))
            (λ ne. ap live (there.others k ne));
        counts = record { bases = refl; births = refl; entries = refl };
        free = frees;
      };
      frames =
          (λ i. map frame_octets (p.next.0 i) ++ map (λ (w : Waiting). w.frame) (p.next.2 i))
          ∙ ap (λ a. w.frame ∷ (map frame_octets a ++ map (λ (w : Waiting). w.frame) p.rest.frames)) (sym p.next.1);
    }) sound (frame_frees s mid new w served p all sound)) all

-- the frames that were sent and those that wait
pub one_more : (out before : List (List ℕ)) (frame : List ℕ) (s new : Shelf) → out ≡ before ++ frame ∷ [] → OneSent s new frame → out ++ frames_in new.outbox ≡ before ++ frames_in s.outbox
one_more out before frame s new grown one =
    ap (λ o. o ++ frames_in new.outbox) grown ∙ append_assoc before (frame ∷ []) (frames_in new.outbox) ∙ ap (λ f. before ++ f) (sym one.frames)
