-- Where a link is idle, all that is to be served was, and all that is to be sent.
use Rattle.fp_steps.proofs.Names.{AbortsTied, Content, Core, Ending, Entry, Event, Headline, IdleIsDone, IsPrefix, Lined, List, None, Option, Row, RowsKeepTheirOrder, Shelf, Some, Sound, Tied, TiedAt, [], abort_out, aborts, aborts_sent, aborts_waiting, accepted, ap, append-nil, arith, as_waiting, asked, births, cases_Bool, core_after, core_of, cut, cut-closed, cut-cut, cut-front, ending, false, frame_out, frames_at, frames_for, get, handed, is_closed, is_down, is_over, is_some, kept_of, length, length-append, local_of, map_list, nat_tests, not, option_map, out, positions, refl, row_at, sent, sent_of, served, start, story, sym, true, waits, ℕ, ⊎_elim, ◌&&◌, ◌++◌, ◌∙◌, ◌∷◌, ◌≡◌, ◌≤◌}
use Rattle.fp_steps.proofs.HeldDialogues.{asked_tied, row_there}
use Rattle.fp_steps.proofs.WaitingAtSteps.{aborts_wait}

-- ENTRIES

-- a front of a list that is no shorter is all of it
whole_front : (xs ys zs : List Entry) → xs ++ ys ≡ zs → length zs ≤ length xs → xs ≡ zs
whole_front xs [] zs e le = sym (append-nil xs) ∙ e
whole_front xs (y ∷ ys) zs e le =
    let n : length (xs ++ y ∷ ys) ≡ length zs = ap length e in
    absurd (omega (arith, n, le, length-append xs (y ∷ ys)))

-- what is cut at its end isn't longer
cut_shorter : (core : Core) (xs : List Entry) → length (cut core xs) ≤ length xs
cut_shorter core xs =
    let f = cut-front core xs in let n : length (cut core xs ++ f.0) ≡ length xs = ap length f.1 in
    omega (arith, n, length-append (cut core xs) f.0)

-- after what ends a core nothing is served
ended_all : (core : Core) (xs ys zs : List Entry) → xs ++ ys ≡ cut core zs → is_over (core_after core xs) ≡ true → xs ≡ cut core zs
ended_all core xs ys zs e over =
    let same : cut core zs ≡ cut core xs = sym (cut-cut core zs) ∙ ap (cut core) (sym e) ∙ cut-closed core xs ys over in
    let n : length (cut core zs) ≡ length (cut core xs) = ap length same in
    whole_front xs ys (cut core zs) e (omega (arith, n, cut_shorter core xs))

-- of a dialogue that isn't closed, and of which nothing waits, all was served
served_all : {h : List Event} (d : ℕ) → Headline h → waits h d ≡ false → is_closed (ending h d) ≡ false → served h d ≡ cut (start h d) (accepted h d)
served_all {h} d k none live =
    let first : IsPrefix (served h d) (cut (start h d) (accepted h d)) = (k.dialogues d).served_first in
    ⊎_elim (λ over. ended_all (start h d) (served h d) first.0 (accepted h d) first.1 over)
    (λ going.
    let le : length (accepted h d) ≤ length (positions h d) = grind (arith, nat_tests) in
    let there : length (served h d) ≡ length (positions h d) = k.each_there d in
    whole_front (served h d) first.0 (cut (start h d) (accepted h d)) first.1 (omega (arith, le, there, cut_shorter (start h d) (accepted h d))))
    (cases_Bool (is_over (core_of h d)))

-- FRAMES

-- nothing is out to be sent
none_handed : (h : List Event) (o : Option Content) → option_map (handed h) o ≡ None → o ≡ None
none_handed h None e = refl
none_handed h (Some content) e = absurd (cc)

not_ended : (ended : Option Ending) → is_some ended ≡ false → ended ≡ None
not_ended None e = refl
not_ended (Some ending) e = absurd (cc)

-- of a dialogue that nothing ended from outside all was sent
sent_all : RowsKeepTheirOrder → (h : List Event) {s : Shelf} (d : ℕ) (o : Option Row) → Sound s → s.outbox.out ≡ None → s.outbox.frames ≡ [] → row_at h s d ≡ o
    → TiedAt (births h) d (story h d) o → ending h d ≡ None → sent h d ≡ asked h d
sent_all law h d None k none_out none_waits was t live = t.all_sent live
sent_all law h {s} d (Some row) k none_out none_waits was t live =
    let l = local_of h d in
    let all : sent_of row ++ (frame_out l s.outbox.out ++ frames_for l s.outbox.frames) ≡ kept_of row = frames_at _ l (Some row) k (row_there d (get s.rows l) row was).0 in
    let none : frame_out l s.outbox.out ++ frames_for l s.outbox.frames ≡ [] = ap (λ o. frame_out l o ++ frames_for l s.outbox.frames) none_out ∙ ap (frames_for l) none_waits in
    t.sends ∙ sym (append-nil (sent_of row)) ∙ ap (λ fs. sent_of row ++ fs) (sym none) ∙ all ∙ (law row).all_kept (sym t.ends ∙ live) ∙ sym (asked_tied t)

-- ABORTS OF THE PROVIDER

-- where none waits and nothing is out all were sent
aborts_all : {h : List Event} {s : Shelf} → Tied h s → Sound s → Lined h s → is_down h ≡ false → out h ≡ None → aborts_waiting h ≡ [] → aborts_sent h ≡ aborts h
aborts_all {h} {s} t k l up none_out none_waits =
    let a : AbortsTied h s = t.aborts_are in
    let rest : a.rest ≡ [] = a.waiting (sym l.down ∙ up) ∙ sym (aborts_wait t k l) ∙ none_waits in
    sym (append-nil (aborts_sent h)) ∙ ap (λ o. aborts_sent h ++ (abort_out o ++ [])) (sym none_out) ∙ ap (λ r. aborts_sent h ++ (abort_out (out h) ++ r)) (sym rest) ∙ a.all

-- ALL OF IT

pub idle_is_done : RowsKeepTheirOrder → {h : List Event} {s : Shelf} → Tied h s → Lined h s → Sound s → Headline h → IdleIsDone h
idle_is_done law {h} {s} t l k head idle =
    let out_none : s.outbox.out ≡ None = none_handed h s.outbox.out (sym t.is_out ∙ idle.no_pick.0) in
    let frames_none : s.outbox.frames ≡ [] = sym l.frames ∙ ap (map_list (as_waiting h)) idle.no_pick.2 in
    record {
      all_served = λ d. served_all d head (ap (λ b. not b && waits h d) (sym (idle.no_turn d)) ∙ idle.no_take d);
      all_sent = λ d live. sent_all law h d (row_at h s d) k out_none frames_none refl (t.rows d) (not_ended (ending h d) live);
      all_aborts = aborts_all t k l idle.up idle.no_pick.0 idle.no_pick.1;
    }

-- and of a link on which nothing came yet
pub idle_none : IdleIsDone []
idle_none idle = record { all_served = λ d live. refl; all_sent = λ d live. refl; all_aborts = refl }
