-- Each step keeps the tie between a book and its history, and the tie gives the headline.
use Rattle.fp_steps.proofs.Names.{AbortsTied, Event, Follows, Headline, IsGone, IsStraight, Lined, List, MakesOf, None, Option, Output, Posted, Prepared, Row, RowsKeepTheirOrder, Shelf, Some, Sound, Step, Story, Tells, Tied, TiedAt, Verdict, [], abort_out, aborts, aborts_sent, add-zero, ap, arith, births, dialogue_held, empty_shelf, entry_count, false, false≢true, get, get-empty, is_ending, nat_cmp, nat_le, nat_lt, nat_tests, none-some, opened_in, out, refl, row_at, row_of, story, subst, sym, true, untold, verdict, verdict_tells, ℕ, ⊎_elim, ◌&&◌, ◌++◌, ◌+◌, ◌||◌, ◌∙◌, ◌∷◌, ◌≡◌}
use Rattle.fp_steps.proofs.Cases.{Cases, by_made}
use Rattle.fp_steps.proofs.FreeSerials.{held_apart}
use Rattle.fp_steps.proofs.HeldDialogues.{event, stays, straight_tied}
use Rattle.fp_steps.proofs.OpenedDialogues.{opened_none}
use Rattle.fp_steps.proofs.TieAtMessages.{Tied-discards, Tied-ends, Tied-extends, Tied-opens, Tied-refuses, posts}
use Rattle.fp_steps.proofs.TieAtParcels.{Tied-down, Tied-picks, Tied-sends, Tied-unsends}
use Rattle.fp_steps.proofs.TieAtTicks.{Tied-ticks}
use Rattle.fp_steps.proofs.TieAtTurns.{Tied-gives, Tied-puts_back, Tied-takes}
use Rattle.fp_steps.proofs.TieNext.{Tied-quiet, quiet}

-- nothing changes
still : {h : List Event} (e : Event) {old : Shelf} (new : Shelf) → Tied h old → new ≡ old → opened_in e.output ≡ None → entry_count (e ∷ h) ≡ entry_count h + 0
    → aborts (e ∷ h) ≡ aborts h ++ [] → aborts_sent (e ∷ h) ≡ aborts_sent h ++ [] → out (e ∷ h) ≡ out h → ((d : ℕ) → story (e ∷ h) d ≡ story h d)
    → Tied (e ∷ h) new
still {h} e {old} new t same none entries all sent_all out_stays told =
    subst (Tied (e ∷ h)) (sym same) (Tied-quiet _ t (quiet e old t none (entries ∙ add-zero (entry_count h) ∙ t.entries_are) all sent_all out_stays refl refl refl refl) told refl)

-- by the step, and by its answer

made_by : RowsKeepTheirOrder → {h : List Event} (step : Step) (came : Prepared) (answer : Posted) (components : ℕ) {old : Shelf} (new : Shelf) (v : Verdict) → Tied h old → Sound old → Tells old came v → Follows v old came answer new
    → Tied (posts step came answer components ∷ h) new
made_by law step came answer components new Verdict.Discard t k told g = Tied-discards step components t g
made_by law step came answer components new (Verdict.Refuse cause closes) t k told g = Tied-refuses law step components t told g
made_by law step came answer components new (Verdict.Open sender) t k told g = Tied-opens step components t k told g
made_by law step came answer components new (Verdict.Extend local false) t k told g = Tied-extends step components t told.0 (ap is_ending told.1) g
made_by law step came answer components new (Verdict.Extend local true) t k told g =
    Tied-ends law step components t told.0 (⊎_elim (λ kind. ap is_ending kind) (λ kind. ap is_ending kind) told.1) g

made : RowsKeepTheirOrder → {h : List Event} (came : Option Prepared) {old : Shelf} (new : Shelf) → Tied h old → Sound old → Cases (λ step output. Tied (event step came output ∷ h) new) came old new
made law {h} came {old} new t k =
    let none : (step : Step) → new ≡ old → Tied (event step came Output.Nothing ∷ h) new = λ step same.
    let e = event step came Output.Nothing in
    still e new t same refl refl refl refl refl (λ d. stays e h d refl refl refl refl refl refl refl)
    in
    let no_room = event Step.Take came Output.NoRoom in
    let busy = event Step.Pick came Output.Busy in
    record {
      posted = λ step posting p answer components is count g totals.
          subst (λ c. Tied (event step c (Output.Posted answer components) ∷ h) new) (sym is)
          (made_by law step p answer components new (verdict old p) t k (verdict_tells old p) g);
      none_posted = λ step posting empty same. none step same;
      ticked = λ moment added wanting none g. Tied-ticks came t none g;
      took = λ turn g. Tied-takes came t g;
      no_room = λ some full same. still no_room new t same refl refl refl refl refl (λ d. stays no_room h d refl refl refl refl refl refl refl);
      none_taken = λ empty same. none Step.Take same;
      gave = λ done given g. Tied-gives law came t g;
      none_given = λ local out same. none (Step.Give local) same;
      went_back = λ turn g. Tied-puts_back law came t g;
      none_back = λ local out same. none (Step.PutBack local) same;
      picked = λ content frame is g. Tied-picks came frame t k is g;
      busy = λ some same. still busy new t same refl refl refl refl refl (λ d. stays busy h d refl refl refl refl refl refl refl);
      none_picked = λ empty same. none Step.Pick same;
      sent = λ content g. Tied-sends law came new content t k g;
      none_sent = λ empty same. none Step.Sent same;
      unsent = λ parcel g. Tied-unsends law came t g;
      none_unsent = λ empty same. none Step.Unsent same;
      down = λ g. Tied-down law came t g;
    }

-- each step keeps the tie
pub Tied-makes : RowsKeepTheirOrder → {h : List Event} (e : Event) {old : Shelf} (new : Shelf) → Tied h old → Sound old → MakesOf e.step e.came e.output old new → Tied (e ∷ h) new
Tied-makes law {h} e new t k g = by_made (λ step output. Tied (event step e.came output ∷ h) new) e.step e.output (made law e.came new t k) g

-- a book on which nothing came yet is tied to no history

pub none_there : (link tag l : ℕ) → get (empty_shelf link tag).rows l ≡ None
none_there link tag l = get-empty nat_cmp l

none_born : (d : ℕ) → (nat_lt 0 d && nat_le d 0) ≡ false
none_born d = grind (arith, nat_tests)

none_yet : (d : ℕ) → IsGone 0 d untold
none_yet d = record {
  straight = record { served_first = (_, refl); sent_first = (_, refl); each_once = refl; each_there = refl; sent_queued = ([], refl); queued_first = (_, refl) };
  admitted = ap (λ b. b && true) (none_born d);
  waits = refl;
  outs = refl;
  all_sent = λ live. refl;
}

pub Tied-none : (link tag : ℕ) → Tied [] (empty_shelf link tag)
Tied-none link tag = record {
  births_are = refl;
  entries_are = refl;
  opened = opened_none;
  names = λ local row was. absurd (none-some row (sym (none_there link tag local) ∙ was));
  rows = λ d. subst (TiedAt 0 d untold) (sym (ap (row_of d) (none_there link tag 0))) (none_yet d);
  later = λ d past. refl;
  is_out = refl;
  aborts_are = record { rest = []; all = refl; waiting = λ up. refl };
}

-- the tie gives the headline

straight_at : RowsKeepTheirOrder → (n d : ℕ) (t : Story) (o : Option Row) → TiedAt n d t o → IsStraight d t
straight_at law n d t None k = k.straight
straight_at law n d t (Some row) k = straight_tied law k

-- nothing is held yet
none_held : (d : ℕ) → dialogue_held [] d ≡ false
none_held d = ap (λ b. (b && true) || false) (none_born d)

pub headline_none : Headline []
headline_none = record {
  dialogues = λ d.
      let x : IsStraight d untold = (none_yet d).straight in
      record { served_first = x.served_first; sent_first = x.sent_first; each_once = x.each_once; sent_queued = x.sent_queued; queued_first = x.queued_first };
  apart = λ c d first second same. absurd (false≢true (sym (none_held c) ∙ first));
  each_there = λ d. refl;
  aborts_first = ([], refl);
}

pub headline : RowsKeepTheirOrder → (h : List Event) (s : Shelf) → Tied h s → Sound s → Lined h s → Headline h
headline law h s t k l = record {
  dialogues = λ d.
      let x : IsStraight d (story h d) = straight_at law (births h) d (story h d) (row_at h s d) (t.rows d) in
      record { served_first = x.served_first; sent_first = x.sent_first; each_once = x.each_once; sent_queued = x.sent_queued; queued_first = x.queued_first };
  apart = λ c d first second same. held_apart law c d (record { tied = t; sound = k; lined = l }) first second same;
  each_there = λ d. (straight_at law (births h) d (story h d) (row_at h s d) (t.rows d)).each_there;
  aborts_first = let a : AbortsTied h s = t.aborts_are in (abort_out (out h) ++ a.rest, a.all);
}
