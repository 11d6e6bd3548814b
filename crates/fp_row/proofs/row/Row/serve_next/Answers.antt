use Rattle.std.proofs.Common.{rules, arith, ◌+◌, ◌≤◌, length, take, refl, sym, ap, subst}
use Rattle.fp_row.proofs.Next.{Next, at_once, between, done, hands_out, next_entries}
use Rattle.fp_row.proofs.Served.{Served, all_kept, core_is, count_out, cut_is, few_frames, few_served, frames_are, kept_frames, queued_few, queued_fits, queued_frames, sent_frames, served_within, waiting_then}
use Rattle.fp_row.specs.proof_only.Serving.{AreAll}
use Rattle.fp_row.specs.Row.{unserved}
use Rattle.fp_row.proofs.row.Row.serve_next.Goals as goal
use Rattle.fp_row.proofs.row.Row.serve_next.Goals.{After-frame_count-queued}

-- the turn of the next entries
next : (c : After-frame_count-queued) → Next c.args.free c.args.self.now c.next_count-count.result
next c = record {
  births = c.births_stay.ensures;
  ready = sym c.if-not-is_ready.ensures;
  count_is = c.next_count-count.ensures.value;
  most = c.next_count-count.ensures.most;
  some = c.next_count-count.ensures.some;
}

-- what was made of it
all : (c : After-frame_count-queued) → AreAll c.args.self.now.local c.args.self.now.peer c.args.self.now.core (next_entries _ _ _ (next c)) c.in_ok-steps.steps c.of.new.core
all c = subst (λ es. AreAll c.args.self.now.local c.args.self.now.peer c.args.self.now.core es c.in_ok-steps.steps c.of.new.core) (ap (take c.next_count-count.result) c.unserved.ensures) c.in_ok-steps.ensures

served : (c : After-frame_count-queued) → Served (between _ _ _ (next c)) (done _ _ _ (next c) _ _ (all c)) c.of-asked.result c.frame_count-queued.result
served c =
    at_once _ _ _ (next c) _ _ (all c) _ _ c.folds_along_a_grown_list.ensures.both c.cut_is_a_front.ensures c.entries_ask_once_at_most.ensures c.of-asked.ensures
    c.frame_count-queued.ensures

few_queued : (c : After-frame_count-queued) → c.args.self.now.queued + c.frame_count-queued.result ≤ length c.args.self.now.accepted
few_queued c = queued_few _ _ _ _ (served c)

pub overflow_add-self : goal.overflow_add-self
overflow_add-self c =
    let fits : c.args.self.now.served + c.in_ok-steps.steps.served ≤ length c.args.self.now.accepted = served_within _ _ _ _ (served c) in
    omega (arith, fits, c.accepted_fits.ensures)

pub overflow_add-self-2 : goal.overflow_add-self-2
overflow_add-self-2 c = omega (arith, few_queued c, c.accepted_fits.ensures)

pub overflow_add-self-3 : goal.overflow_add-self-3
overflow_add-self-3 c = omega (arith, few_queued c, c.args.self.now.kept_within, c.accepted_fits.ensures)

pub invariant_of-self-clause-served_within : goal.invariant_of-self-clause-served_within
invariant_of-self-clause-served_within c = served_within _ _ _ _ (served c)

pub invariant_of-self-clause-core_is : goal.invariant_of-self-clause-core_is
invariant_of-self-clause-core_is c = core_is _ _ _ _ (served c)

pub invariant_of-self-clause-cut_is : goal.invariant_of-self-clause-cut_is
invariant_of-self-clause-cut_is c = cut_is _ _ _ _ (served c)

pub invariant_of-self-clause-queued_within : goal.invariant_of-self-clause-queued_within
invariant_of-self-clause-queued_within c = queued_fits _ _ _ _ (served c)

pub invariant_of-self-clause-all_kept : goal.invariant_of-self-clause-all_kept
invariant_of-self-clause-all_kept c = all_kept _ _ _ _ (served c)

pub invariant_of-self-clause-out_within : goal.invariant_of-self-clause-out_within
invariant_of-self-clause-out_within c =
    let fits : c.args.self.now.served + c.in_ok-steps.steps.served ≤ length c.args.self.now.accepted = served_within _ _ _ _ (served c) in
    omega (arith, fits)

pub returns-clause-ok : goal.returns-clause-ok
returns-clause-ok c =
    let row = c.args.self.now in
    let n : Next c.args.free row c.next_count-count.result = record {
      births = c.births_stay.ensures;
      ready = sym c.if-not-is_ready.ensures;
      count_is = c.next_count-count.ensures.value;
      most = c.next_count-count.ensures.most;
      some = c.next_count-count.ensures.some;
    } in
    let made : AreAll row.local row.peer row.core (take c.next_count-count.result (unserved row)) c.in_ok-steps.steps c.of.new.core =
    subst (λ es. AreAll row.local row.peer row.core es c.in_ok-steps.steps c.of.new.core) (ap (take c.next_count-count.result) c.unserved.ensures) c.in_ok-steps.ensures in
    let s : Served (between _ _ _ n) (done _ _ _ n _ _ made) c.of-asked.result c.frame_count-queued.result =
    at_once _ _ _ n _ _ made _ _ c.folds_along_a_grown_list.ensures.both c.cut_is_a_front.ensures c.entries_ask_once_at_most.ensures c.of-asked.ensures c.frame_count-queued.ensures in
    let queued = ap (λ n. row.queued + n) s.count_is in
    let kept = ap (λ n. row.kept + n) s.count_is in
    record {
      done = done _ _ _ n _ _ made;
      between = between _ _ _ n;
      takes = hands_out _ _ _ n;
      gives = search (rules, count_out _ _ _ _ s, few_served _ _ _ _ s, few_frames _ _ _ _ s, waiting_then _ _ _ _ s, frames_are _ _ _ _ s, queued_frames _ _ _ _ s, kept_frames _ _ _ _ s, sent_frames _ _ _ _ s);
      position = refl;
      count = (hands_out _ _ _ n).out;
      served = refl;
    }
