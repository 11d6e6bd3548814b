use Rattle.fp_timers.proofs.Names.{IsEarliestAfter, IsEarliestDueAfter, None, Some, arith, joined, subst}
use Rattle.fp_timers.proofs.Dues.{earliest_joined, first_due, later_due, none_due}
use Rattle.fp_timers.proofs.by_deadline.ByDeadline.due_after.Goals as goal

-- there is no timer after the last
pub returns-in_default : goal.returns-in_default
returns-in_default c =
    let earliest = earliest_joined c.args.last _ _ _ _ _ _ _ _ _ _ _ c.first_after-4.ensures c.first_after-3.ensures c.first_after.ensures c.first_after-2.ensures c.earlier-late.ensures c.earlier-rest.ensures c.earlier.ensures in
    subst
    (λ m. IsEarliestDueAfter m c.args.last c.args.moment None)
    c.self.view_is
    (none_due _ c.args.last c.args.moment (subst (IsEarliestAfter c.args.last (joined c.self.inside.first c.self.inside.second c.self.inside.third c.self.inside.fourth)) c.in_default.is earliest))

-- the earliest is later
pub returns-then-first-milliseconds : goal.returns-then-first-milliseconds
returns-then-first-milliseconds c =
    let earliest = earliest_joined c.args.last _ _ _ _ _ _ _ _ _ _ _ c.first_after-4.ensures c.first_after-3.ensures c.first_after.ensures c.first_after-2.ensures c.earlier-late.ensures c.earlier-rest.ensures c.earlier.ensures in
    subst
    (λ m. IsEarliestDueAfter m c.args.last c.args.moment None)
    c.self.view_is
    (later_due _ c.args.last c.in-Some.first (subst (IsEarliestAfter c.args.last (joined c.self.inside.first c.self.inside.second c.self.inside.third c.self.inside.fourth)) c.in-Some.is earliest) c.args.moment (omega (arith, c.if-first-milliseconds.true, c.milliseconds.ensures.value)))

-- the earliest is due
pub returns : goal.returns
returns c =
    let earliest = earliest_joined c.args.last _ _ _ _ _ _ _ _ _ _ _ c.first_after-4.ensures c.first_after-3.ensures c.first_after.ensures c.first_after-2.ensures c.earlier-late.ensures c.earlier-rest.ensures c.earlier.ensures in
    subst
    (λ m. IsEarliestDueAfter m c.args.last c.args.moment (Some c.in-Some.first))
    c.self.view_is
    (first_due _ c.args.last c.in-Some.first (subst (IsEarliestAfter c.args.last (joined c.self.inside.first c.self.inside.second c.self.inside.third c.self.inside.fourth)) c.in-Some.is earliest) c.self.invariant.apart c.args.moment (omega (arith, c.if-first-milliseconds.false, c.milliseconds.ensures.value)))
