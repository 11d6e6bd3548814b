use Rattle.std.proofs.Common.{rules, arith, ◌+◌, ◌∙◌, ap, refl}
use Rattle.fp_row.proofs.Served.{Served, all_kept, core_is, count_out, cut_is, few_frames, few_served, frames_are, kept_frames, queued_few, queued_fits, queued_frames, sent_frames, served_within, waiting_then}
use Rattle.fp_row.proofs.row.Row.give.Goals as goal
use Rattle.fp_row.proofs.row.Row.give.Goals.{After-frame_count-count, After-into_core-self}

-- before the row is written
counted : (c : After-frame_count-count) → Served c.args.self.now c.args.done c.of-requested.result c.frame_count-count.result
counted c = record {
  folds = c.folds_along_a_grown_list.ensures.both;
  fronts = c.cut_is_a_front.ensures;
  few = c.entries_ask_once_at_most.ensures;
  out = c.if-not-is_turn_out.ensures.0 refl;
  requested_is = c.of-requested.ensures;
  count_is = c.frame_count-count.ensures;
}

served : (c : After-into_core-self) → Served c.args.self.now c.args.done c.of-requested.result c.frame_count-count.result
served c = record {
  folds = c.folds_along_a_grown_list.ensures.both;
  fronts = c.cut_is_a_front.ensures;
  few = c.entries_ask_once_at_most.ensures;
  out = c.if-not-is_turn_out.ensures.0 refl;
  requested_is = c.of-requested.ensures;
  count_is = c.frame_count-count.ensures;
}

pub overflow_add-self : goal.overflow_add-self
overflow_add-self c = omega (arith, served_within _ _ _ _ (counted c), c.accepted_fits.ensures)

pub overflow_add-self-2 : goal.overflow_add-self-2
overflow_add-self-2 c = omega (arith, queued_few _ _ _ _ (served c), c.accepted_fits.ensures)

pub overflow_add-self-3 : goal.overflow_add-self-3
overflow_add-self-3 c = omega (arith, queued_few _ _ _ _ (served c), c.args.self.now.kept_within, c.accepted_fits.ensures)

pub invariant_of-self-clause-served_within : goal.invariant_of-self-clause-served_within
invariant_of-self-clause-served_within c = served_within _ _ _ _ (served c)

pub invariant_of-self-clause-core_is : goal.invariant_of-self-clause-core_is
invariant_of-self-clause-core_is c = c.into_core-self.ensures ∙ core_is _ _ _ _ (served c)

pub invariant_of-self-clause-cut_is : goal.invariant_of-self-clause-cut_is
invariant_of-self-clause-cut_is c = cut_is _ _ _ _ (served c)

pub invariant_of-self-clause-queued_within : goal.invariant_of-self-clause-queued_within
invariant_of-self-clause-queued_within c = queued_fits _ _ _ _ (served c)

pub invariant_of-self-clause-all_kept : goal.invariant_of-self-clause-all_kept
invariant_of-self-clause-all_kept c = all_kept _ _ _ _ (served c)

pub invariant_of-self-clause-out_within : goal.invariant_of-self-clause-out_within
invariant_of-self-clause-out_within c = omega (arith, served_within _ _ _ _ (served c))

pub returns-clause-ok : goal.returns-clause-ok
returns-clause-ok c =
    let s : Served c.args.self.now c.args.done c.of-requested.result c.frame_count-count.result = record {
      folds = c.folds_along_a_grown_list.ensures.both;
      fronts = c.cut_is_a_front.ensures;
      few = c.entries_ask_once_at_most.ensures;
      out = c.if-not-is_turn_out.ensures.0 refl;
      requested_is = c.of-requested.ensures;
      count_is = c.frame_count-count.ensures;
    } in
    let queued = ap (λ n. c.args.self.now.queued + n) s.count_is in
    let kept = ap (λ n. c.args.self.now.kept + n) s.count_is in
    search (rules, count_out _ _ _ _ s, few_served _ _ _ _ s, few_frames _ _ _ _ s, waiting_then _ _ _ _ s, frames_are _ _ _ _ s, queued_frames _ _ _ _ s, kept_frames _ _ _ _ s, sent_frames _ _ _ _ s)
