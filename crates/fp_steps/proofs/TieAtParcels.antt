-- Steps of parcels, and the end of a link, keep the tie between a book and its history.
use Rattle.fp_steps.proofs.Names.{AbortFrame, AbortsTied, BookNext as IsNext, Bool, ClosesAt, Content, Ending, Ends, Event, GoesDown, IsGone, IsStraight, IsTied, List, LoggedStep, None, Option, Outbox, Output, Parcel, PicksParcel, Prepared, Row, RowsKeepTheirOrder, Sends, Shelf, Some, Sound, Step, Story, Tied, TiedAt, Unsends, Waiting, [], abort_out, aborts, aborts_sent, accepted, add-zero, and_right, ap, append-nil, append_assoc, arith, births, cases_Bool, cond, count_out, ended_by, ending, entry_count, false, for_one, frame_for, frame_octets, frame_out, frames_at, frames_for, get, handed, is_frame_of, is_held, kept_of, le-leb, left_by, lt-leb, map_list, named, nat_le, nat_lt, numbers_from, opened_in, option_map, out, parcel_local, parcel_octets as octets_of, positions, queued, refl, sent, sent_of, story, subst, sym, true, true≢false, ℕ, ⊎_elim, ◌&&◌, ◌++◌, ◌+◌, ◌∙◌, ◌∷◌, ◌≡◌}
use Rattle.fp_book.proofs.Unsent.{first_own}
use Rattle.fp_steps.proofs.HeldDialogues.{Held, becomes, event, for_other, for_own, held_of, left_tied, none_named, not_abort, same_beginning, stays, by_option}
use Rattle.fp_steps.proofs.TieNext.{Next, Stay, Tied-left, Tied-next, Tied-quiet, rows_next}

-- a frame that waits is of a dialogue that is held
pub none_here : (xs ys : List (List ℕ)) (y : List ℕ) → xs ++ y ∷ ys ≡ [] → ⊥
none_here [] ys y e = cc
none_here (x ∷ xs) ys y e = cc

pub held : {s : Shelf} (w : Waiting) (rest : List Waiting) → Sound s → s.outbox.frames ≡ w ∷ rest → (row : Row) × (get s.rows w.local ≡ Some row)
held {s} w rest k first = by_option (λ o. (row : Row) × (o ≡ Some row)) (get s.rows w.local)
    (λ was. absurd (none_here (frame_out w.local s.outbox.out) (frames_for w.local rest) w.frame
    (ap (λ r. frame_out w.local s.outbox.out ++ r) (sym (ap (frames_for w.local) first ∙ first_own w.local w rest refl)) ∙ frames_at _ w.local None k was)))
    (λ row was. (row, refl))

-- and so is one that is out
pub out_there : {s : Shelf} (w : Waiting) → Sound s → s.outbox.out ≡ Some (Content.Frame w) → (row : Row) × (get s.rows w.local ≡ Some row)
out_there {s} w k is = by_option (λ o. (row : Row) × (o ≡ Some row)) (get s.rows w.local)
    (λ was. absurd (none_here [] (frames_for w.local s.outbox.frames) w.frame
    (ap (λ r. r ++ frames_for w.local s.outbox.frames) (sym (ap (frame_out w.local) is ∙ first_own w.local w [] refl)) ∙ frames_at _ w.local None k was)))
    (λ row was. (row, refl))

-- an Abort waits only where the link is up
up_by : {s : Shelf} (frame : AbortFrame) (rest : List AbortFrame) → Sound s → s.outbox.aborts ≡ frame ∷ rest → s.is_down ≡ false
up_by {s} frame rest k first =
    ⊎_elim (λ e. absurd (let clash : frame ∷ rest ≡ [] = sym first ∙ (k.quiet e).0 in cc)) (λ e. e) (cases_Bool s.is_down)

-- the Aborts of the provider, where the next parcel is handed out
aborts_picked : {h : List Event} (e : Event) {old : Shelf} (content : Content) (rest : Outbox) → Tied h old → Sound old → old.outbox.out ≡ None → IsNext old.outbox content rest
    → aborts (e ∷ h) ≡ aborts h ++ [] → aborts_sent (e ∷ h) ≡ aborts_sent h ++ [] → out (e ∷ h) ≡ Some (handed h content)
    → (new : Shelf) → new.is_down ≡ old.is_down → new.outbox.aborts ≡ rest.aborts → AbortsTied (e ∷ h) new
aborts_picked {h} e {old} (Content.Abort frame) rest t k none next all sent_all is new down waits =
    let a : AbortsTied h old = t.aborts_are in
    let left : a.rest ≡ frame_octets frame ∷ map_list frame_octets rest.aborts = a.waiting (up_by frame rest.aborts k next.0) ∙ ap (map_list frame_octets) next.0 in
    let was : out h ≡ None = t.is_out ∙ ap (option_map (handed h)) none in
    record {
      rest = map_list frame_octets rest.aborts;
      all = (λ i. (sent_all ∙ append-nil (aborts_sent h)) i ++ (abort_out (is i) ++ map_list frame_octets rest.aborts))
          ∙ (λ i. aborts_sent h ++ (abort_out (sym was i) ++ sym left i)) ∙ a.all ∙ sym (append-nil (aborts h)) ∙ sym all;
      waiting = λ up. ap (map_list frame_octets) (sym waits);
    }
aborts_picked {h} e {old} (Content.Frame w) rest t k none next all sent_all is new down waits =
    let a : AbortsTied h old = t.aborts_are in let here = held w rest.frames k next.2 in
    let was : out h ≡ None = t.is_out ∙ ap (option_map (handed h)) none in
    record {
      rest = a.rest;
      all = (λ i. (sent_all ∙ append-nil (aborts_sent h)) i ++ (abort_out (is i) ++ a.rest))
          ∙ (λ i. aborts_sent h ++ (cond (not_abort w.local here.0 t here.1 i) (w.frame ∷ []) [] ++ a.rest)) ∙ ap (λ o. aborts_sent h ++ (abort_out o ++ a.rest)) (sym was)
          ∙ a.all ∙ sym (append-nil (aborts h)) ∙ sym all;
      waiting = λ up. a.waiting (sym down ∙ up) ∙ ap (map_list frame_octets) (next.0 ∙ sym next.1 ∙ sym waits);
    }

-- what is sent next is handed out
pub Tied-picks : {h : List Event} (came : Option Prepared) {old new : Shelf} {content : Content} (frame : List ℕ) → Tied h old → Sound old → octets_of content ≡ frame → PicksParcel old content new
    → Tied (event Step.Pick came (Output.Picked (parcel_local content) frame) ∷ h) new
Tied-picks {h} came {content} frame t k octets_are g =
    let e = event Step.Pick came (Output.Picked (parcel_local content) frame) in
    let is : out (e ∷ h) ≡ Some (handed h content) = ap (λ xs. Some (record { local = parcel_local content; dialogue = named h (parcel_local content); octets = xs })) (sym octets_are) in
    subst (Tied (e ∷ h)) (sym g.new_is) (Tied-quiet e t
    (record { opens_none = refl; born = refl; entries = add-zero (entry_count h) ∙ t.entries_are; is_out = is; aborts = aborts_picked e content g.rest t k g.none_out g.next refl refl is _ refl refl })
    (λ d. stays e h d refl refl refl refl refl refl refl) refl)

-- one that was out was sent
sent_rest : {h : List Event} (came : Option Prepared) {old : Shelf} (new : Shelf) → Tied h old → new.births ≡ old.births → new.entries ≡ old.entries
    → new.outbox.out ≡ None → new.is_down ≡ old.is_down → new.outbox.aborts ≡ old.outbox.aborts
    → Next h (event Step.Sent came Output.Sent) old new
sent_rest {h} came {old} new t born entries none down waits =
    let a : AbortsTied h old = t.aborts_are in
    record {
      opens_none = refl;
      born = born;
      entries = add-zero (entry_count h) ∙ t.entries_are ∙ sym entries;
      is_out = ap (option_map (handed h)) (sym none);
      aborts = record {
        rest = a.rest;
        all = append_assoc (aborts_sent h) (abort_out (out h)) a.rest ∙ a.all ∙ sym (append-nil (aborts h));
        waiting = λ up. a.waiting (sym down ∙ up) ∙ ap (map_list frame_octets) (sym waits);
      };
    }

pub Tied-sends : RowsKeepTheirOrder → {h : List Event} (came : Option Prepared) {old : Shelf} (new : Shelf) (content : Content) → Tied h old → Sound old → Sends old content new
    → Tied (event Step.Sent came Output.Sent ∷ h) new
Tied-sends law {h} came {old} new (Content.Abort frame) t k g =
    let e = event Step.Sent came Output.Sent in
    let was : out h ≡ Some (handed h (Content.Abort frame)) = t.is_out ∙ ap (option_map (handed h)) g.was_out in
    subst (Tied (e ∷ h)) (sym g.new_is)
    (Tied-quiet _ t (sent_rest came _ t refl refl refl refl refl)
    (λ d. stays e h d refl refl refl refl (ap (λ o. frame_for o d) was ∙ ap (λ o. for_one o d (frame_octets frame ∷ [])) (none_named h t.opened)) refl refl) refl)
Tied-sends law {h} came {old} new (Content.Frame w) t k g =
    let e = event Step.Sent came Output.Sent in let l = w.local in let b = g.before.birth in
    let was : out h ≡ Some (handed h (Content.Frame w)) = t.is_out ∙ ap (option_map (handed h)) g.was_out in
    let held : Held h l b g.before = held_of l g.before t g.was in
    let before : IsTied b (story h b) g.before = held.tied in
    let waits_for = frames_for l old.outbox.frames in
    let all : sent_of g.before ++ w.frame ∷ waits_for ≡ kept_of g.before =
    ap (λ r. sent_of g.before ++ (r ++ waits_for)) (sym (first_own l w [] refl) ∙ ap (frame_out l) (sym g.was_out)) ∙ frames_at _ l (Some g.before) k g.was in
    let tied : IsTied b (story (e ∷ h) b) g.after =
    record {
      birth = g.sends.same.birth;
      begins = before.begins ∙ ap Some (sym (same_beginning g.sends.same));
      accepts = append-nil (accepted h b) ∙ before.accepts ∙ sym g.sends.accepted;
      serves = append-nil (positions h b) ∙ before.serves ∙ ap (numbers_from 0) (sym g.sends.served);
      queues = append-nil (queued h b) ∙ before.queues ∙ sym g.sends.queued_frames;
      sends = ap (λ o. sent h b ++ frame_for o b) was ∙ ap (λ xs. sent h b ++ xs) (for_own (named h l) b (w.frame ∷ []) held.name)
          ∙ ap (λ xs. xs ++ w.frame ∷ []) before.sends ∙ sym (g.sends.one_more w.frame waits_for all);
      ends = before.ends ∙ sym g.sends.ended;
      outs = before.outs ∙ sym g.sends.out;
    } in subst (Tied (e ∷ h)) (sym g.new_is)
    (Tied-left law l g.before t (sent_rest came _ t refl refl refl refl refl) g.was refl tied
    (λ d ne. stays e h d refl refl refl refl (ap (λ o. frame_for o d) was ∙ for_other (named h l) d b (w.frame ∷ []) held.name ne) refl refl))

-- THE END OF THE LINK

-- closed, or as it was
abbrev pub closed_if : Bool → Option Ending → Option Ending
closed_if b before = cond b (Some Ending.Closed) before

-- nothing ends a dialogue that isn't ended
pub no_end : (t : Story) (b : Bool) → b ≡ false → record t { ended = closed_if b t.ended } ≡ t
no_end t b none = ap (λ b. record t { ended = closed_if b t.ended }) none

-- what is gone stays so
gone_ended : {n d : ℕ} {t : Story} (b : Bool) → IsGone n d t → IsGone n d (record t { ended = closed_if b t.ended })
gone_ended {n} {d} {t} true g = record {
  straight = let s : IsStraight d t = g.straight in record { served_first = s.served_first; sent_first = s.sent_first; each_once = s.each_once; each_there = s.each_there; sent_queued = s.sent_queued; queued_first = s.queued_first };
  admitted = and_right (nat_lt 0 d && nat_le d n) false refl;
  waits = refl;
  outs = g.outs;
  all_sent = λ live. absurd (cc);
}
gone_ended false g = g

-- who is closed stays so
pub closed_by : (was : Option Ending) → ended_by Ending.Closed was ≡ Some Ending.Closed
closed_by None = refl
closed_by (Some Ending.ByPeer) = refl
closed_by (Some Ending.Closed) = refl

-- a dialogue that was ended from outside
pub tied_ends : {d : ℕ} {t : Story} {ending : Ending} {sending : Bool} {before after : Row} (x : Option Ending) → IsTied d t before → Ends ending sending before after
    → x ≡ ended_by ending before.ended → IsTied d (record t { ended = x }) after
tied_ends x k e is = let begins = k.begins ∙ ap Some (sym (same_beginning e.same)) in grind arith

-- a dialogue is closed
closed_at : RowsKeepTheirOrder → (n : ℕ) {d : ℕ} (t : Story) {sending : Bool} {row : Row} {left : Option Row} (b : Bool) → IsTied d t row → ClosesAt sending (Some row) left → b ≡ true
    → TiedAt n d (record t { ended = closed_if b t.ended }) left
closed_at law n {d} t {row = row} b k c is =
    let x = closed_if b t.ended in
    let closed : x ≡ ended_by Ending.Closed row.ended = ap (λ b. closed_if b t.ended) is ∙ sym (closed_by row.ended) in
    subst (TiedAt n d (record t { ended = x })) (sym c.left_is) (left_tied law n (tied_ends x k c.ends closed))

-- and stays where something of it is left
closed_stay : (sending : Bool) (o : Option Row) (after : Row) → ClosesAt sending o (Some after) → (before : Row) × (o ≡ Some before) × (after.birth ≡ before.birth)
closed_stay sending None after c = absurd (cc)
closed_stay sending (Some before) after c = (before, refl, ap (λ (r : Row). r.birth) (sym (left_by (is_held c.after) c.after after (sym c.left_is)).1) ∙ c.ends.same.birth)

-- the link goes down: all dialogues that were opened are closed
closes_all : RowsKeepTheirOrder → {h : List Event} (e : Event) {old new : Shelf} {out_then : Option Content} {step : LoggedStep} → Tied h old → GoesDown out_then old step new
    → opened_in e.output ≡ None → entry_count (e ∷ h) ≡ entry_count h + 0 → out (e ∷ h) ≡ option_map (handed h) new.outbox.out
    → (rest : List (List ℕ)) → aborts_sent (e ∷ h) ++ (abort_out (out (e ∷ h)) ++ rest) ≡ aborts (e ∷ h)
    → ((d : ℕ) → story (e ∷ h) d ≡ record (story h d) { ended = closed_if (nat_le d (births h)) (ending h d) }) → Tied (e ∷ h) new
closes_all law {h} e {old} {new} {out_then} t g opens entries is_out rest all told =
    let stay : Stay old.rows new.rows = λ l after is. closed_stay (is_frame_of l out_then) (get old.rows l) after (subst (ClosesAt (is_frame_of l out_then) (get old.rows l)) is (g.rows l)) in
    Tied-next t
    (record {
      opens_none = opens;
      born = λ i. (g.new_is i).births;
      entries = entries ∙ add-zero (entry_count h) ∙ t.entries_are ∙ sym (ap (λ (s : Shelf). s.entries) g.new_is);
      is_out = is_out;
      aborts = record { rest = rest; all = all; waiting = λ up. absurd (true≢false (ap (λ (s : Shelf). s.is_down) (sym g.new_is) ∙ up)) };
    })
    stay
    (rows_next e new t stay (λ d none k. subst (IsGone (births h) d) (sym (told d)) (gone_ended (nat_le d (births h)) k))
    (λ l row was held.
    subst (λ t. TiedAt (births h) row.birth t (get new.rows l)) (sym (told row.birth))
    (closed_at law (births h) (story h row.birth) (nat_le row.birth (births h)) held.tied (subst (λ o. ClosesAt (is_frame_of l out_then) o (get new.rows l)) was (g.rows l)) (le-leb row.birth (births h) held.last))))
    (λ d past. told d ∙ no_end (story h d) (nat_le d (births h)) (lt-leb d (births h) past))

pub Tied-down : RowsKeepTheirOrder → {h : List Event} (came : Option Prepared) {old new : Shelf} → Tied h old → GoesDown old.outbox.out old LoggedStep.Down new
    → Tied (event Step.Down came Output.Down ∷ h) new
Tied-down law {h} came {old} t g =
    let e = event Step.Down came Output.Down in let a : AbortsTied h old = t.aborts_are in
    closes_all law e t g refl refl (t.is_out ∙ ap (λ (s : Shelf). option_map (handed h) s.outbox.out) (sym g.new_is)) a.rest
    (ap (λ xs. xs ++ (abort_out (out h) ++ a.rest)) (append-nil (aborts_sent h)) ∙ a.all ∙ sym (append-nil (aborts h)))
    (λ d. becomes e h d _ (count_out h d) refl refl refl refl refl refl refl)

-- what was being sent wasn't
pub Tied-unsends : RowsKeepTheirOrder → {h : List Event} (came : Option Prepared) {old new : Shelf} {parcel : Parcel} → Tied h old → Unsends old parcel new
    → Tied (event Step.Unsent came Output.Unsent ∷ h) new
Tied-unsends law {h} came {old} t u =
    let e = event Step.Unsent came Output.Unsent in let a : AbortsTied h old = t.aborts_are in
    closes_all law e t u.down refl refl (ap (λ (s : Shelf). option_map (handed h) s.outbox.out) (sym u.down.new_is)) (abort_out (out h) ++ a.rest)
    (ap (λ xs. xs ++ (abort_out (out h) ++ a.rest)) (append-nil (aborts_sent h)) ∙ a.all ∙ sym (append-nil (aborts h)))
    (λ d. becomes e h d _ (count_out h d) refl refl refl refl refl refl refl)
