-- A message or a moment comes to a book in which nothing waits.
use Rattle.std.proofs.Common.{◌≡◌, ℕ, ◌≤◌, ◌+◌, Bool, true, false, cond, eqb, not, ◌&&◌, ◌||◌, nat_lt, Option, Some, None, is_some, List, [], ◌∷◌, ◌++◌, length, drop, map, refl, sym, ◌∙◌, ap, subst, arith, rules, append-nil, inl}
use Rattle.std.specs.FinMap as fin
use Rattle.std.specs.List.{filter}
use Rattle.std.proofs.lemmas.Bool.{eq-eqb}
use Rattle.std.proofs.lemmas.List.{length-map}
use Rattle.fp_book.specs.declared.answers.Posted.{Posted}
use Rattle.fp_book.specs.Calls.{Answers, ClosesOne, Discards, EndsDialogue, ExtendsDialogue, Follows, OpensDialogue, Queues, Refuses, abort_for, entries_in, joins, without as without_ready}
use Rattle.fp_book.specs.declared.line.LoggedStep.{LoggedStep}
use Rattle.fp_book.specs.declared.verdict.Verdict.{Verdict}
use Rattle.fp_book.specs.declared.verdict.Verdict.TheVariants.{Discard, Refuse, Open, Extend}
use Rattle.fp_book.specs.Limits.{most_elements}
use Rattle.fp_book.specs.Outbox.{Outbox, without_frames_of}
use Rattle.fp_book.specs.Shelf.{Shelf, Sound, base, free_with}
use Rattle.fp_book.proofs.Fits.{Allowed, CanEnd, CanOpen}
use Rattle.fp_book.proofs.Sums.{OneChanges, inserted, kept, left_of}
use Rattle.fp_entry.specs.declared.entry.Entry.{Entry}
use Rattle.fp_entry.specs.declared.prepared.Prepared.{Prepared}
use Rattle.fp_entry.specs.Prepared.{arrival_of}
use Rattle.fp_q773.specs.declared.provider_abort.AbortCause.{AbortCause}
use Rattle.fp_q773.specs.Tid.{Tid}
use Rattle.fp_reply.specs.ProviderAbort.{AbortFrame, frame_octets}
use Rattle.fp_row.specs.declared.ending.Ending.{Ending}
use Rattle.fp_row.specs.declared.row.Row.{Row}
use Rattle.fp_row.specs.Calls.{ended_by}
use Rattle.fp_row.specs.Row.{has_turn_out, is_admitted, is_closed, is_ready, waiting_of}
use Rattle.fp_service.specs.Dialogue.{fresh, is_over}
use Rattle.fp_tids.specs.Identifiers.{first_of, identifier, serial_of}
use Rattle.fp_ask.specs.Solo.{Outcome, LinkState, Served, aborts, continued, ended, found, Job, jobs_for, left, left_by, newborn, opened, outcome, serve_all, without}
use Rattle.fp_ask.specs.Tied.{GoesOn, Matches, Rest, Rows, Same, dialogue_of, is_out, live, times}
use Rattle.fp_ask.specs.proof_only.Serving.{Came, Concerned, Concerns, Fit, IsServed, KeepsEnd, KeepsDialogues, Midway, SameCounts, all_free, frames_in, is_leaving, jobs_of, leaving, senders, waiting_at}
use Rattle.fp_ask.proofs.OneSent.{no_jobs}
use Rattle.fp_ask.proofs.Resting.{is_fresh, not_leaving, quiet, stands_nowhere}
use Rattle.fp_ask.proofs.Rows.{cut, ended_gone, joined, live_is, live_left, live_stays, none_waits, out_left, outs_then, same_then, waiting_left}
use Rattle.fp_ask.proofs.Dialogues.{by_number, count, found_others, found_without, once_served, serve_none, swapped, times-cons, times_fewer, unit, unit_most}
use Rattle.fp_ask.proofs.Serials.{count_joins, free_left, own_serial}

-- THE BOOK AFTER IT, READY TO BE SERVED

-- only these entries of this dialogue wait to be served, and only these Aborts of the provider to be sent
pub record Arrives (s new : Shelf) (d : ℕ) (waiting : List Entry) (aborts : List AbortFrame) : Type 0 where
  pub idle : (k : ℕ) → is_out (fin.get new.rows k) ≡ false
  pub ready : (jobs_of new ≡ jobs_for d waiting) × (length new.ready ≤ 1)
  pub few : length waiting ≤ most_elements + 1
  pub outbox : new.outbox ≡ record { aborts = aborts; frames = []; out = None }
  pub link : new.link ≡ s.link
  pub up : new.is_down ≡ s.is_down
  pub alone : Concerns (Concerned.one d) new

-- so it is ready to be served
pub arrived_fit : {s new : Shelf} {d : ℕ} {waiting : List Entry} {aborts : List AbortFrame} → Rest s → Sound new → Arrives s new d waiting aborts → Fit new
arrived_fit {d = d} {waiting} r sound a = record {
  sound = sound;
  link = a.link ∙ r.link;
  up = a.up ∙ r.up;
  idle = a.idle;
  none_out = ap (λ (o : Outbox). o.out) a.outbox;
  orderly = inl a.ready.1;
  room = omega (arith, ap length a.ready.0, length-map {B = Job} waiting (λ entry. record { local = d; entry = entry }), a.few, ap (λ (o : Outbox). length o.frames) a.outbox);
}

-- no other dialogue is ready then, or has left the list
stands_alone : {s : Shelf} {rows : Rows} {ready : List ℕ} {d : ℕ} {before left : Option Row} (joining : Bool) → Rest s → OneChanges s.rows rows d before left → ready ≡ s.ready ++ joins d joining
    → (other : ℕ) → eqb other d ≡ false → (count other ready ≡ 0) × (is_leaving (fin.get rows other) ≡ false)
stands_alone {s} {d = d} joining r one queue other ne = (
  ap (count other) (queue ∙ ap (λ q. q ++ joins d joining) r.ready) ∙ count_joins d other joining (swapped other d ne),
  ap is_leaving (one.others other ne) ∙ not_leaving s r other,
)

-- what comes of a message for which these are served, after these Aborts
abbrev pub outcome_after : LinkState → List AbortFrame → Served → Outcome
outcome_after w aborts served = record {
  link = record w { free = w.free ++ served.returned; dialogues = served.dialogues };
  frames = frames_in (record { aborts = aborts; frames = []; out = None }) ++ served.frames;
}

-- what is served then is served in the list
midway_of : {s new : Shelf} {d : ℕ} {waiting : List Entry} {aborts : List AbortFrame} (w : LinkState) → Arrives s new d waiting aborts
    → Same w.dialogues new.rows → all_free (Concerned.one d) new ≡ w.free → Midway new (outcome_after w aborts (serve_all (jobs_for d waiting) w.dialogues))
midway_of {d = d} w a same is = record {
  dialogues = w.dialogues;
  same = same;
  dialogues_end = ap (λ j. (serve_all j w.dialogues).dialogues) a.ready.0;
  frames_end = λ i. frames_in (a.outbox i) ++ (serve_all (a.ready.0 i) w.dialogues).frames;
  who = Concerned.one d;
  concerns = a.alone;
  free_end = λ i. is i ++ (serve_all (a.ready.0 i) w.dialogues).returned;
}

-- a dialogue that wasn't ready and isn't has nothing that waits
none_joined : (before after : Row) → is_ready before ≡ false → has_turn_out after ≡ false → (not (is_ready before) && is_ready after) ≡ false → waiting_of after ≡ []
none_joined before after unready out h = none_waits after out (sym (ap (λ b. not b && is_ready after) unready) ∙ h)

-- A DIALOGUE IS OPENED

-- a new dialogue takes messages
fresh_goes : (row : Row) (birth moment : ℕ) → row.ended ≡ None → row.core ≡ fresh birth moment → is_admitted row ≡ true
fresh_goes row birth moment ended core = λ i. not (is_some (ended i)) && not (is_over (core i))

module _ {s new : Shelf} {peer : Tid} {came : Prepared} {answer : Posted} (r : Rest s) (can : CanOpen s came) (o : OpensDialogue s peer came answer new) where
  abbrev d : ℕ
  d = identifier (base s) o.serial

  there : OneChanges s.rows (fin.insert s.rows d o.after) d (fin.get s.rows d) (Some o.after)
  there = inserted s.rows d (fin.get s.rows d) o.after refl

  -- the book after it,
  opens_arrives : Arrives s new d (entries_in came) []
  opens_arrives =
      let out : has_turn_out o.after ≡ false = ap (nat_lt 0) (o.extends.out ∙ o.opens.out) in
      let row = o.opens in
      let waits : waiting_of o.after ≡ entries_in came =
      o.extends.waiting (λ i. not (is_some (row.ended i)) && not (is_over (row.core i)))
      ∙ (λ i. cond (is_closed (row.ended i) || is_over (row.core i)) [] (drop (row.out i) (drop (row.served i) (row.accepted i))) ++ entries_in came) in
      subst (λ n. Arrives s n d (entries_in came) []) (sym o.new_is) (record {
        idle = outs_then there r.idle out;
        ready = joined _ d (entries_in came) s.ready (is_ready o.after) r.ready (ap waiting_at there.there ∙ waits) (λ e. sym waits ∙ none_waits o.after out e);
        few = can.grow.few;
        outbox = r.outbox;
        link = refl;
        up = refl;
        alone = stands_alone (is_ready o.after) r there refl;
      })

  -- it hasn't left the list
  opens_free : all_free (Concerned.one d) new ≡ o.rest
  opens_free =
      let goes = fresh_goes o.after (s.births + 1) (arrival_of came).moment (o.extends.ended ∙ o.opens.ended) (o.extends.stay.core ∙ o.opens.core) in
      ap (all_free (Concerned.one d)) o.new_is ∙ ap (λ r. o.rest ++ own_serial d r) there.there ∙ ap (λ b. o.rest ++ map serial_of (cond (not b) (d ∷ []) [])) goes ∙ append-nil o.rest

  -- it is in the list before the others,
  opens_local : (w : LinkState) (n : ℕ) → Matches w s → d ≡ n → Came (opened w (Some n) peer (arrival_of came).moment (entries_in came)) new
  opens_local w n m local =
      let one = newborn w n peer (arrival_of came).moment in
      let then : LinkState = record w {
        births = w.births + 1;
        entries = w.entries + length (entries_in came);
        free = drop 1 w.free;
        dialogues = one ∷ w.dialogues;
      } in
      let born : s.births + 1 ≡ w.births + 1 = ap (λ n. n + 1) (sym m.births) in
      let core : o.after.core ≡ one.core = o.extends.stay.core ∙ o.opens.core ∙ ap (λ n. fresh n (arrival_of came).moment) born in
      let one_is : dialogue_of o.after ≡ one = λ i. record {
        birth = (o.extends.same.birth ∙ o.opens.birth_is ∙ born) i;
        local = (o.extends.same.local ∙ o.opens.local_is ∙ local) i;
        peer = (o.extends.same.peer ∙ o.opens.peer_is) i;
        core = core i;
      } in
      let same = same_then w.dialogues (one ∷ w.dialogues) there m.same
      (ap (λ b. cond b (Some one) (found d w.dialogues)) (eq-eqb n d (sym local)) ∙ sym (live_is o.after None one (o.extends.ended ∙ o.opens.ended) one_is))
      (λ k ne. ap (λ b. cond b (Some one) (found k w.dialogues)) (ap (λ n. eqb n k) (sym local) ∙ swapped k d ne)) in
      let free : times one.local w.dialogues ≡ 0 =
      stands_nowhere one.local w.dialogues (m.same one.local ∙ ap live (ap (fin.get s.rows) (sym local) ∙ is_fresh s o.serial o.rest r.sound o.first)) in
      record {
        midway = subst (λ n. Midway new (outcome_after then [] (serve_all (jobs_for n (entries_in came)) (one ∷ w.dialogues)))) local
            (midway_of then opens_arrives (subst (λ (n : Shelf). Same (one ∷ w.dialogues) n.rows) (sym o.new_is) same)
            (opens_free ∙ sym (ap (drop 1) (m.free ∙ o.first))));
        bases = m.bases ∙ sym (ap base o.new_is);
        births = ap (λ n. n + 1) m.births ∙ sym (ap (λ (x : Shelf). x.births) o.new_is);
        entries = ap (λ n. n + length (entries_in came)) m.entries ∙ sym (ap (λ (x : Shelf). x.entries) o.new_is);
        once = once_served (jobs_for one.local (entries_in came)) (one ∷ w.dialogues) (λ k. by_number k one.local (λ k. times k (one ∷ w.dialogues) ≤ 1)
            (omega (arith, times-cons one.local one w.dialogues, unit_most (eqb one.local one.local), free))
            (λ ne. omega (arith, times-cons k one w.dialogues, ap unit (swapped k one.local ne), m.once k)));
      }

  -- with the identifier of the next serial
  opens_came : (w : LinkState) → Matches w s → Came (opened w (first_of w.base w.free) peer (arrival_of came).moment (entries_in came)) new
  opens_came w m =
      subst (λ n. Came (opened w n peer (arrival_of came).moment (entries_in came)) new) (sym (ap (first_of w.base) (m.free ∙ o.first)))
      (opens_local w (identifier w.base o.serial) m (ap (λ b. identifier b o.serial) (sym m.bases)))

-- A DIALOGUE GOES ON

module _ {s new : Shelf} {d : ℕ} {came : Prepared} {answer : Posted} (r : Rest s) (few : length (entries_in came) ≤ most_elements + 1) (x : ExtendsDialogue s d came answer new) where
  -- the book after it,
  extends_arrives : Arrives s new d (entries_in came) []
  extends_arrives =
      let q = quiet s r d x.before x.was in
      let there = inserted s.rows d (Some x.before) x.after x.was in
      let out : has_turn_out x.after ≡ false = ap (nat_lt 0) x.extends.out ∙ q.is_out in
      let waits : waiting_of x.after ≡ entries_in came = x.extends.waiting q.admitted ∙ ap (λ w. w ++ entries_in came) q.waiting in
      subst (λ n. Arrives s n d (entries_in came) []) (sym x.new_is) (record {
        idle = outs_then there r.idle out;
        ready = joined _ d (entries_in came) s.ready (not (is_ready x.before) && is_ready x.after) r.ready (ap waiting_at there.there ∙ waits)
            (λ e. sym waits ∙ none_joined x.before x.after q.unready out e);
        few = few;
        outbox = r.outbox;
        link = refl;
        up = refl;
        alone = stands_alone (not (is_ready x.before) && is_ready x.after) r there refl;
      })

  -- it hasn't left the list
  extends_free : all_free (Concerned.one d) new ≡ s.free
  extends_free =
      let there = inserted s.rows d (Some x.before) x.after x.was in
      let goes : is_admitted x.after ≡ true = (λ i. not (is_some (x.extends.ended i)) && not (is_over (x.extends.stay.core i))) ∙ (quiet s r d x.before x.was).admitted in
      ap (all_free (Concerned.one d)) x.new_is ∙ ap (λ r. s.free ++ own_serial d r) there.there ∙ ap (λ b. s.free ++ map serial_of (cond (not b) (d ∷ []) [])) goes ∙ append-nil s.free

  -- and the list, which has the dialogue as before
  extends_came : (w : LinkState) → Matches w s → Came (continued w d (entries_in came)) new
  extends_came w m =
      let there = inserted s.rows d (Some x.before) x.after x.was in
      let same = same_then w.dialogues w.dialogues there m.same
      (m.same d ∙ ap live x.was ∙ sym (live_stays x.before x.after x.extends.same x.extends.ended x.extends.stay.core)) (λ k ne. refl) in
      record {
        midway = midway_of (record w { entries = w.entries + length (entries_in came) }) extends_arrives (subst (λ (n : Shelf). Same w.dialogues n.rows) (sym x.new_is) same)
            (extends_free ∙ sym m.free);
        bases = m.bases ∙ sym (ap base x.new_is);
        births = m.births ∙ sym (ap (λ (x : Shelf). x.births) x.new_is);
        entries = ap (λ n. n + length (entries_in came)) m.entries ∙ sym (ap (λ (x : Shelf). x.entries) x.new_is);
        once = once_served (jobs_for d (entries_in came)) w.dialogues m.once;
      }

-- A DIALOGUE IS ENDED BY ITS PEER

-- a dialogue that was ended doesn't go on
ends_gone : (ending : Ending) (ended : Option Ending) (after : Row) → after.ended ≡ ended_by ending ended → live (left_of after) ≡ None
ends_gone ending None after e = live_left after ∙ ended_gone after ending e
ends_gone ending (Some Ending.ByPeer) after e = live_left after ∙ ended_gone after ending e
ends_gone ending (Some Ending.Closed) after e = live_left after ∙ ended_gone after Ending.Closed e

-- its serial comes back
ends_out : (ending : Ending) (ended : Option Ending) (after : Row) → after.ended ≡ ended_by ending ended → is_admitted after ≡ false
ends_out ending None after e = ap (λ o. not (is_some o) && not (is_over after.core)) e
ends_out ending (Some Ending.ByPeer) after e = ap (λ o. not (is_some o) && not (is_over after.core)) e
ends_out ending (Some Ending.Closed) after e = ap (λ o. not (is_some o) && not (is_over after.core)) e

ends_free : (free : List ℕ) (d : ℕ) (ending : Ending) (ended : Option Ending) (after : Row) → after.ended ≡ ended_by ending ended → free_with free d after ++ own_serial d (left_of after) ≡ free ++ serial_of d ∷ []
ends_free free d ending ended after e = free_left free d after ∙ ap (λ b. free ++ map serial_of (cond (not b) (d ∷ []) [])) (ends_out ending ended after e)

-- what comes of a message for which nothing is served
nothing_served : {new : Shelf} (w : LinkState) (aborts : List AbortFrame) (frames : List (List ℕ)) → map frame_octets aborts ≡ frames
    → Midway new (outcome_after w aborts (record { dialogues = w.dialogues; returned = []; frames = [] }))
    → Midway new (record { link = w; frames = frames })
nothing_served {new} w aborts frames is m =
    subst (λ f. Midway new (record { link = w; frames = f })) (append-nil _ ∙ append-nil _ ∙ is)
    (subst (λ f. Midway new (record { link = record w { free = f }; frames = (map frame_octets aborts ++ []) ++ [] })) (append-nil w.free) m)

module _ {s new : Shelf} {d : ℕ} {came : Prepared} {answer : Posted} (r : Rest s) (can : CanEnd s d came) (x : EndsDialogue s d came answer new) where
  -- the book after it,
  ends_arrives : Arrives s new d (waiting_of x.after) []
  ends_arrives =
      let q = quiet s r d x.before x.was in
      let there = kept s.rows d (Some x.before) x.after x.was in
      let out : has_turn_out x.after ≡ false = ap (nat_lt 0) (x.ends.out ∙ x.extends.out) ∙ q.is_out in
      let waits : waiting_of x.after ≡ cond (is_closed x.after.ended) [] (entries_in came) =
      x.ends.waiting ∙ ap (cond (is_closed x.after.ended) []) (x.extends.waiting q.admitted ∙ ap (λ w. w ++ entries_in came) q.waiting) in
      subst (λ n. Arrives s n d (waiting_of x.after) []) (sym x.new_is) (record {
        idle = outs_then there r.idle (out_left x.after out);
        ready = joined _ d (waiting_of x.after) s.ready (not (is_ready x.before) && is_ready x.after) r.ready (ap waiting_at there.there ∙ waiting_left x.after)
            (none_joined x.before x.after q.unready out);
        few = omega (arith, ap length waits, (cut (is_closed x.after.ended) d (entries_in came)).0, can.few);
        outbox = ap (without_frames_of d) r.outbox;
        link = refl;
        up = refl;
        alone = stands_alone (not (is_ready x.before) && is_ready x.after) r there refl;
      })

  -- and the list, which the dialogue has left
  ends_came : (w : LinkState) → Matches w s → Came (ended w d (entries_in came)) new
  ends_came w m =
      let others = without d w.dialogues in
      let then : LinkState = record (left d w) { entries = w.entries + length (entries_in came) } in
      let there = kept s.rows d (Some x.before) x.after x.was in
      let same = same_then w.dialogues others there m.same
      (found_without d w.dialogues ∙ sym (ends_gone Ending.ByPeer x.extended.ended x.after x.ends.ended)) (λ k ne. found_others d k w.dialogues ne) in
      record {
        midway = nothing_served then [] [] refl
            (subst (λ v. Midway new (outcome_after then [] v)) (serve_none d (waiting_of x.after) others (found_without d w.dialogues))
            (midway_of then ends_arrives (subst (λ (n : Shelf). Same others n.rows) (sym x.new_is) same)
            (ap (all_free (Concerned.one d)) x.new_is ∙ ap (λ r. free_with s.free d x.after ++ own_serial d r) there.there
            ∙ ends_free s.free d Ending.ByPeer x.extended.ended x.after x.ends.ended ∙ ap (λ f. f ++ serial_of d ∷ []) (sym m.free))));
        bases = m.bases ∙ sym (ap base x.new_is);
        births = m.births ∙ sym (ap (λ (x : Shelf). x.births) x.new_is);
        entries = ap (λ n. n + length (entries_in came)) m.entries ∙ sym (ap (λ (x : Shelf). x.entries) x.new_is);
        once = λ k. omega (arith, times_fewer d k w.dialogues, m.once k);
      }

-- A MESSAGE IS REFUSED OR DISCARDED

-- whom it concerns: the dialogue that is closed, if one is
abbrev closed_local : Option ℕ → ℕ
closed_local None = 0
closed_local (Some d) = d

-- the dialogue that is closed leaves the list, and nothing is to be served
record Leaves (s new : Shelf) (closes : Option ℕ) (aborts : List AbortFrame) : Type 0 where
  pub arrives : Arrives s new (closed_local closes) [] aborts
  pub same : (w : LinkState) → Same w.dialogues s.rows → Same (left_by closes w).dialogues new.rows
  pub free : (w : LinkState) → w.free ≡ s.free → all_free (Concerned.one (closed_local closes)) new ≡ (left_by closes w).free
  pub bases : base new ≡ base s
  pub births : new.births ≡ s.births
  pub entries : new.entries ≡ s.entries

-- the dialogue is closed, if one is
closed_as : (s closed : Shelf) (closes : Option ℕ) → Rest s → ClosesOne s closes closed → Leaves s closed closes []
closed_as s closed None r e = subst (λ c. Leaves s c None []) (sym e) (record {
  arrives = record {
    idle = r.idle;
    ready = rw r.ready (refl, omega arith);
    few = omega arith;
    outbox = r.outbox;
    link = refl;
    up = refl;
    alone = λ other ne. (ap (count other) r.ready, not_leaving s r other);
  };
  same = λ w same. same;
  free = λ w is. ap (λ b. s.free ++ map serial_of (cond b (0 ∷ []) [])) (not_leaving s r 0) ∙ append-nil s.free ∙ sym is;
  bases = refl;
  births = refl;
  entries = refl;
})
closed_as s closed (Some d) r x =
    let there = kept s.rows d (Some x.before) x.after x.was in
    let out = out_left x.after (ap (nat_lt 0) x.ends.out ∙ (quiet s r d x.before x.was).is_out) in
    let queue : without_ready d s.ready ≡ s.ready ++ joins d false = ap (without_ready d) r.ready ∙ sym (ap (λ q. q ++ []) r.ready) in
    subst (λ c. Leaves s c (Some d) []) (sym x.new_is) (record {
      arrives = record {
        idle = outs_then there r.idle out;
        ready = rw r.ready (refl, omega arith);
        few = omega arith;
        outbox = ap (without_frames_of d) r.outbox;
        link = refl;
        up = refl;
        alone = stands_alone false r there queue;
      };
      same = λ w same. same_then w.dialogues (without d w.dialogues) there same
          (found_without d w.dialogues ∙ sym (ends_gone Ending.Closed x.before.ended x.after x.ends.ended)) (λ k ne. found_others d k w.dialogues ne);
      free = λ w is. ap (λ r. free_with s.free d x.after ++ own_serial d r) there.there ∙ ends_free s.free d Ending.Closed x.before.ended x.after x.ends.ended ∙ ap (λ f. f ++ serial_of d ∷ []) (sym is);
      bases = refl;
      births = refl;
      entries = refl;
    })

-- the Abort that is sent waits, if one is
answered_as : (s closed answered : Shelf) (closes : Option ℕ) (cause : Option AbortCause) (sender : Option Tid) (answer : Posted) → Leaves s closed closes []
    → Answers closed closes (abort_for 0 cause sender) answer answered → (waiting : List AbortFrame) × Leaves s answered closes waiting × (map frame_octets waiting ≡ aborts cause sender)
answered_as s closed answered closes None sender answer l e = ([], subst (λ a. Leaves s a closes []) (sym e.1) l, refl)
answered_as s closed answered closes (Some cause) None answer l e = ([], subst (λ a. Leaves s a closes []) (sym e.1) l, refl)
answered_as s closed answered closes (Some cause) (Some sender) answer l e =
    let q : Queues closed sender cause answered = e.1 in
    let a = l.arrives in (
      q.frame ∷ [],
      subst (λ a. Leaves s a closes (q.frame ∷ [])) (sym q.new_is) (record {
        arrives = record {
          idle = a.idle;
          ready = a.ready;
          few = a.few;
          outbox = ap (λ (o : Outbox). record { aborts = o.aborts ++ q.frame ∷ []; frames = o.frames; out = o.out }) a.outbox;
          link = a.link;
          up = a.up;
          alone = a.alone;
        };
        same = l.same;
        free = l.free;
        bases = l.bases;
        births = l.births;
        entries = l.entries;
      }),
      ap (λ f. f ∷ []) q.frame_is,
    )

-- no dialogue is twice in what is left of the list
left_once : (closes : Option ℕ) (w : LinkState) → ((k : ℕ) → times k w.dialogues ≤ 1) → (k : ℕ) → times k (left_by closes w).dialogues ≤ 1
left_once None w once k = once k
left_once (Some d) w once k = omega (arith, times_fewer d k w.dialogues, once k)

-- serials are added to the same, as many dialogues were opened, and entries accepted
left_counts : (closes : Option ℕ) (w : LinkState)
    → ((left_by closes w).base ≡ w.base) × ((left_by closes w).births ≡ w.births) × ((left_by closes w).entries ≡ w.entries)
left_counts None w = (refl, refl, refl)
left_counts (Some d) w = (refl, refl, refl)

-- only the log has changed since
logged : (s answered new : Shelf) (closes : Option ℕ) (aborts : List AbortFrame) (log : List LoggedStep) → new ≡ record answered { log = log } → Leaves s answered closes aborts → Leaves s new closes aborts
logged s answered new closes aborts log e l = subst (λ n. Leaves s n closes aborts) (sym e) (search rules)

-- the list goes on so, after the frames of these Aborts
leaves_came : (s new : Shelf) (closes : Option ℕ) (waiting : List AbortFrame) (w : LinkState) (frames : List (List ℕ)) → Leaves s new closes waiting → map frame_octets waiting ≡ frames → Matches w s
    → Came (record { link = left_by closes w; frames = frames }) new
leaves_came s new closes waiting w frames l e m =
    let then = left_by closes w in
    record {
      midway = nothing_served then waiting frames e (midway_of then l.arrives (l.same w m.same) (l.free w m.free));
      bases = (left_counts closes w).0 ∙ m.bases ∙ sym l.bases;
      births = (left_counts closes w).1 ∙ m.births ∙ sym l.births;
      entries = (left_counts closes w).2 ∙ m.entries ∙ sym l.entries;
      once = left_once closes w m.once;
    }

-- a refused message,
refuses_leaves : (s new : Shelf) (cause : Option AbortCause) (closes : Option ℕ) (came : Prepared) (answer : Posted) → Rest s → (x : Refuses s cause closes came answer new)
    → (waiting : List AbortFrame) × Leaves s new closes waiting × (map frame_octets waiting ≡ aborts cause (arrival_of came).ids.orig)
refuses_leaves s new cause closes came answer r x =
    let a = answered_as s x.closed x.answered closes cause (arrival_of came).ids.orig answer (closed_as s x.closed closes r x.closing)
    (subst (λ (o : Outbox). Answers x.closed closes (abort_for (length o.aborts) cause (arrival_of came).ids.orig) answer x.answered) r.outbox x.answering) in
    (a.0, logged s x.answered new closes a.0 _ x.new_is a.1, a.2)

-- and one that is discarded
discards_leaves : (s new : Shelf) (came : Prepared) (answer : Posted) → Rest s → Discards s came answer new → Leaves s new None []
discards_leaves s new came answer r x = logged s s new None [] _ x.new_is (closed_as s s None r refl)

-- WHATEVER IS DONE WITH IT

-- it is ready to be served,
pub follows_fit : (v : Verdict) (s new : Shelf) (came : Prepared) (answer : Posted) → Rest s → Sound new → Allowed s came v → Follows v s came answer new → Fit new
follows_fit Discard s new came answer r sound can x = arrived_fit r sound (discards_leaves s new came answer r x).arrives
follows_fit (Refuse cause closes) s new came answer r sound can x = arrived_fit r sound (refuses_leaves s new cause closes came answer r x).1.arrives
follows_fit (Open peer) s new came answer r sound can x = arrived_fit r sound (opens_arrives r can x)
follows_fit (Extend local false) s new came answer r sound can x = arrived_fit r sound (extends_arrives r can.few x)
follows_fit (Extend local true) s new came answer r sound can x = arrived_fit r sound (ends_arrives r can x)

-- and is described by the list
pub follows_came : (v : Verdict) (s new : Shelf) (w : LinkState) (came : Prepared) (answer : Posted) → Rest s → Matches w s → Allowed s came v → Follows v s came answer new
    → Came (outcome w (arrival_of came).ids.orig (arrival_of came).moment (entries_in came) v) new
follows_came Discard s new w came answer r m can x = leaves_came s new None [] w [] (discards_leaves s new came answer r x) refl m
follows_came (Refuse cause closes) s new w came answer r m can x =
    let l = refuses_leaves s new cause closes came answer r x in leaves_came s new closes l.0 w (aborts cause (arrival_of came).ids.orig) l.1 l.2 m
follows_came (Open peer) s new w came answer r m can x = opens_came r can x w m
follows_came (Extend local false) s new w came answer r m can x = extends_came r can.few x w m
follows_came (Extend local true) s new w came answer r m can x = ends_came r can x w m

-- nothing is left of those that left the list
none_leaving : (who : Concerned) (s : Shelf) → Rest s → leaving who s ≡ []
none_leaving (Concerned.one d) s r = ap (λ b. cond b (d ∷ []) []) (not_leaving s r d)
none_leaving Concerned.due s r = ap (λ o. filter (λ d. is_leaving (fin.get s.rows d)) (senders o)) r.outbox

-- all was served, and then all was sent, and the log was emptied
pub finished : (came served sent : Shelf) (p : Outcome) (frames : List (List ℕ)) → Came p came → KeepsEnd came served → SameCounts came served → IsServed served → KeepsDialogues served sent
    → Rest sent → frames ≡ frames_in served.outbox → GoesOn p (record sent { log = [] }) frames
finished came served sent p frames c ends counts is keeps rest sent_are =
    let m = ends p c.midway in
    let none = no_jobs served is.ready in
    let dialogues_are : m.dialogues ≡ p.link.dialogues = sym (ap (λ j. (serve_all j m.dialogues).dialogues) none) ∙ m.dialogues_end in
    let frames_are : frames_in served.outbox ≡ p.frames =
    sym (append-nil (frames_in served.outbox)) ∙ ap (λ f. frames_in served.outbox ++ f) (sym (ap (λ j. (serve_all j m.dialogues).frames) none)) ∙ m.frames_end in
    let free_is : sent.free ≡ p.link.free =
    sym (append-nil sent.free) ∙ ap (λ l. sent.free ++ map serial_of l) (sym (none_leaving m.who sent rest)) ∙ (keeps.free m.who m.concerns).1
    ∙ sym (append-nil (all_free m.who served)) ∙ ap (λ f. all_free m.who served ++ f) (sym (ap (λ j. (serve_all j m.dialogues).returned) none)) ∙ m.free_end in
    record {
      matches = record {
        bases = c.bases ∙ sym (keeps.counts.bases ∙ counts.bases);
        births = c.births ∙ sym (keeps.counts.births ∙ counts.births);
        entries = c.entries ∙ sym (keeps.counts.entries ∙ counts.entries);
        free = sym free_is;
        same = λ k. ap (found k) (sym dialogues_are) ∙ m.same k ∙ sym (keeps.lives k);
        once = c.once;
      };
      frames_are = sent_are ∙ frames_are;
    }
