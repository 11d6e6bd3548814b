use Rattle.fp_timers.proofs.Names.{arith, sym, ◌≢◌}
use Rattle.fp_timers.proofs.Lanes.{All-fourth, few_with, fewer, in_first, in_fourth, in_second, in_third, length-joined, others_apart, view_with}
use Rattle.fp_timers.proofs.by_deadline.ByDeadline.add.Goals as goal

-- each lane has room
pub push-requires : goal.push-requires
push-requires c = omega (arith, fewer c.args.timer _ _ c.self.invariant c.self.view_is c.requires.absent c.requires.room, length-joined c.self.inside.first c.self.inside.second c.self.inside.third c.self.inside.fourth)

pub push-requires-2 : goal.push-requires-2
push-requires-2 c = omega (arith, fewer c.args.timer _ _ c.self.invariant c.self.view_is c.requires.absent c.requires.room, length-joined c.self.inside.first c.self.inside.second c.self.inside.third c.self.inside.fourth)

pub push-requires-3 : goal.push-requires-3
push-requires-3 c = omega (arith, fewer c.args.timer _ _ c.self.invariant c.self.view_is c.requires.absent c.requires.room, length-joined c.self.inside.first c.self.inside.second c.self.inside.third c.self.inside.fourth)

pub add-requires-clause-room : goal.add-requires-clause-room
add-requires-clause-room c = omega (arith, fewer c.args.timer _ _ c.self.invariant c.self.view_is c.requires.absent c.requires.room, length-joined c.self.inside.first c.self.inside.second c.self.inside.third c.self.inside.fourth)

pub add-requires-clause-absent : goal.add-requires-clause-absent
add-requires-clause-absent c = All-fourth (λ other. other.local ≢ c.args.timer.local) c.self.inside.first c.self.inside.second c.self.inside.third c.self.inside.fourth (others_apart c.args.timer _ _ c.self.invariant c.self.view_is c.requires.absent c.requires.room)

-- it is at the end of the first
pub invariant_of-self : goal.invariant_of-self
invariant_of-self c = few_with c.args.timer _ _ c.self.invariant c.self.view_is c.requires.absent c.requires.room _ (in_first c.args.timer _ _ c.self.inside.second c.self.inside.third c.self.inside.fourth (c.push.ensures.added c.if-push.true))

pub returns-then-push : goal.returns-then-push
returns-then-push c = view_with c.args.timer _ _ c.self.invariant c.self.view_is c.requires.absent c.requires.room _ (in_first c.args.timer _ _ c.self.inside.second c.self.inside.third c.self.inside.fourth (c.push.ensures.added c.if-push.true))

-- it is at the end of the second
pub invariant_of-self-then-push-2 : goal.invariant_of-self-then-push-2
invariant_of-self-then-push-2 c = few_with c.args.timer _ _ c.self.invariant c.self.view_is c.requires.absent c.requires.room _ (in_second c.args.timer _ _ _ _ c.self.inside.third c.self.inside.fourth (sym (c.push.ensures.refused c.if-push.false)) (c.push-2.ensures.added c.if-push-2.true))

pub returns-then-push-2 : goal.returns-then-push-2
returns-then-push-2 c = view_with c.args.timer _ _ c.self.invariant c.self.view_is c.requires.absent c.requires.room _ (in_second c.args.timer _ _ _ _ c.self.inside.third c.self.inside.fourth (sym (c.push.ensures.refused c.if-push.false)) (c.push-2.ensures.added c.if-push-2.true))

-- it is at the end of the third
pub invariant_of-self-then-push-3 : goal.invariant_of-self-then-push-3
invariant_of-self-then-push-3 c = few_with c.args.timer _ _ c.self.invariant c.self.view_is c.requires.absent c.requires.room _ (in_third c.args.timer _ _ _ _ _ _ c.self.inside.fourth (sym (c.push.ensures.refused c.if-push.false)) (sym (c.push-2.ensures.refused c.if-push-2.false)) (c.push-3.ensures.added c.if-push-3.true))

pub returns-then-push-3 : goal.returns-then-push-3
returns-then-push-3 c = view_with c.args.timer _ _ c.self.invariant c.self.view_is c.requires.absent c.requires.room _ (in_third c.args.timer _ _ _ _ _ _ c.self.inside.fourth (sym (c.push.ensures.refused c.if-push.false)) (sym (c.push-2.ensures.refused c.if-push-2.false)) (c.push-3.ensures.added c.if-push-3.true))

-- it is in the fourth
pub invariant_of-self-2 : goal.invariant_of-self-2
invariant_of-self-2 c = few_with c.args.timer _ _ c.self.invariant c.self.view_is c.requires.absent c.requires.room _ (in_fourth c.args.timer _ _ _ _ _ _ _ _ (sym (c.push.ensures.refused c.if-push.false)) (sym (c.push-2.ensures.refused c.if-push-2.false)) (sym (c.push-3.ensures.refused c.if-push-3.false)) c.add.ensures)

pub returns : goal.returns
returns c = view_with c.args.timer _ _ c.self.invariant c.self.view_is c.requires.absent c.requires.room _ (in_fourth c.args.timer _ _ _ _ _ _ _ _ (sym (c.push.ensures.refused c.if-push.false)) (sym (c.push-2.ensures.refused c.if-push-2.false)) (sym (c.push-3.ensures.refused c.if-push-3.false)) c.add.ensures)
