-- A message that is posted keeps what a book keeps, whatever is done with it.
use Rattle.fp_book.proofs.Names.{AbortCause, Answers, Bool, ClosesOne, Discard, Discards, Extend, Follows, List, LoggedStep, None, Open, Option, Outbox, Posted, Posts, Prepared, Queues, Refuse, Refuses, Shelf, Some, Sound, Tid, Verdict, [], abort_for, ap, arith, arrival_of, cond, false, false≢true, frames_held, le_refl, length, length-append, logged, ltb-true, nat_lt, posted_line, refl, subst, sym, true, verdict, ℕ, ⊎_elim, ◌++◌, ◌<◌, ◌∙◌, ◌∷◌, ◌≡◌, most_aborts_waiting}
use Rattle.fp_book.proofs.LowerLaws.{LowerLaws}
use Rattle.fp_book.proofs.Extends.{Sound-closes, Sound-ends, Sound-extends, Sound-opens}
use Rattle.fp_book.proofs.Fits.{Allowed, verdict_allowed}
use Rattle.fp_book.proofs.Sends.{Sound-outbox, WaitsAlike}
use Rattle.fp_entry.specs.declared.prepared.Prepared.TheVariants as prepared

-- a line is logged, and nothing else changes
pub Sound-logs : (s : Shelf) (log : List LoggedStep) → Sound s → Sound (record s { log = log })
Sound-logs s log k = Sound-outbox s s.outbox log k (record { dropped = λ d e. e; unsent = λ d. refl; all_unsent = refl; places = le_refl (frames_held s.outbox); aborts = k.aborts; quiet = k.quiet })

Sound-discards : (old new : Shelf) (came : Prepared) (answer : Posted) → Sound old → Discards old came answer new → Sound new
Sound-discards old new came answer s g = subst Sound (sym g.new_is) (Sound-logs old (logged old.log (posted_line came answer)) s)

-- the dialogue that is closed, if one is, leaves as many Aborts
closing : LowerLaws → (old closed : Shelf) (closes : Option ℕ) → Sound old → ClosesOne old closes closed → Sound closed × (closed.outbox.aborts ≡ old.outbox.aborts) × (closed.is_down ≡ old.is_down)
closing law old closed None s e = (subst Sound (sym e) s, ap (λ (t : Shelf). t.outbox.aborts) e, ap (λ (t : Shelf). t.is_down) e)
closing law old closed (Some local) s g = (Sound-closes law old closed local s g, ap (λ (t : Shelf). t.outbox.aborts) g.new_is, ap (λ (t : Shelf). t.is_down) g.new_is)

-- an Abort is sent only while there is a place for it
room_by : (waiting : ℕ) (b : Bool) (o : Option (Tid × AbortCause)) (p : Tid × AbortCause) → nat_lt waiting most_aborts_waiting ≡ b → cond b o None ≡ Some p → waiting < most_aborts_waiting
room_by waiting true o p less e = ltb-true waiting most_aborts_waiting less
room_by waiting false o p less e = absurd (cc)

room_for : (waiting : ℕ) (cause : Option AbortCause) (peer : Option Tid) (p : Tid × AbortCause) → abort_for waiting cause peer ≡ Some p → waiting < most_aborts_waiting
room_for waiting None peer p e = absurd (cc)
room_for waiting (Some cause) None p e = absurd (cc)
room_for waiting (Some cause) (Some peer) p e = room_by waiting (nat_lt waiting most_aborts_waiting) (Some (peer, cause)) p refl e

Sound-queues : (old new : Shelf) (peer : Tid) (cause : AbortCause) → Sound old → old.is_down ≡ false → length old.outbox.aborts < most_aborts_waiting → Queues old peer cause new → Sound new
Sound-queues old new peer cause s up room g =
    let outbox : Outbox = record old.outbox { aborts = old.outbox.aborts ++ g.frame ∷ [] } in
    let alike : WaitsAlike old outbox =
    record {
      dropped = λ d e. e;
      unsent = λ d. refl;
      all_unsent = refl;
      places = le_refl (frames_held old.outbox);
      aborts = omega (arith, length-append old.outbox.aborts (g.frame ∷ []));
      quiet = λ e. absurd (false≢true (sym up ∙ e));
    }
    in
    subst Sound (sym g.new_is) (Sound-outbox old outbox old.log s alike)

Sound-answers : (old new : Shelf) (closes : Option ℕ) (abort : Option (Tid × AbortCause)) (answer : Posted) → Sound old → old.is_down ≡ false
    → ((p : Tid × AbortCause) → abort ≡ Some p → length old.outbox.aborts < most_aborts_waiting) → Answers old closes abort answer new → Sound new
Sound-answers old new closes None answer s up room g = subst Sound (sym g.1) s
Sound-answers old new closes (Some (peer, cause)) answer s up room g = Sound-queues old new peer cause s up (room (peer, cause) refl) g.1

Sound-refuses : LowerLaws → (old new : Shelf) (cause : Option AbortCause) (closes : Option ℕ) (came : Prepared) (answer : Posted) → Sound old → old.is_down ≡ false
    → Refuses old cause closes came answer new → Sound new
Sound-refuses law old new cause closes came answer s up g =
    let closed = closing law old g.closed closes s g.closing in
    let abort = abort_for (length old.outbox.aborts) cause (arrival_of came).ids.orig in
    let answered : Sound g.answered =
    Sound-answers g.closed g.answered closes abort answer closed.0 (closed.2 ∙ up)
    (λ p e. let few : length old.outbox.aborts < most_aborts_waiting = room_for (length old.outbox.aborts) cause (arrival_of came).ids.orig p e in omega (arith, ap length closed.1))
    g.answering
    in
    subst Sound (sym g.new_is) (Sound-logs g.answered (logged g.answered.log (posted_line came answer)) answered)

-- what is done with a message, by its verdict
Sound-follows : LowerLaws → (old new : Shelf) (came : Prepared) (answer : Posted) (v : Verdict) → Sound old → Allowed old came v → Follows v old came answer new → Sound new
Sound-follows law old new came answer Discard s fits g = Sound-discards old new came answer s g
Sound-follows law old new came answer (Refuse cause closes) s fits g = Sound-refuses law old new cause closes came answer s fits.up g
Sound-follows law old new came answer (Open peer) s fits g = Sound-opens law old new peer came answer s g fits.up fits.grow.room fits.grow.few fits.some fits.rows
Sound-follows law old new came answer (Extend local false) s fits g = Sound-extends law old new local came answer s g fits.room fits.few
Sound-follows law old new came answer (Extend local true) s fits g = Sound-ends law old new local came answer s g fits.admitted fits.limit

pub Sound-posts : LowerLaws → (old new : Shelf) (came : Prepared) (answer : Posted) → Sound old → Posts old came answer new → Sound new
Sound-posts law old new came answer s g =
    ⊎_elim
    (λ h. Sound-follows law old new came answer (verdict old came) s (verdict_allowed old came) h)
    (λ h.
    let lost = prepared.Lost (arrival_of came) in
    Sound-follows law old new lost answer (verdict old lost) s (verdict_allowed old lost) h.1)
    g
