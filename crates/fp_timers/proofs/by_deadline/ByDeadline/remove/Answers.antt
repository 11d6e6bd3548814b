use Rattle.std.proofs.Common.{IsTrue}
use Rattle.fp_timers.proofs.Names.{◌≢◌, sym, ◌∙◌}
use Rattle.fp_timers.proofs.Lanes.{All-joined, few_without, in_first, in_fourth, in_second, in_third, room_without, somewhere, unless_false, view_without}
use Rattle.fp_timers.proofs.Maps.{remove_absent}
use Rattle.fp_timers.proofs.by_deadline.ByDeadline.remove.Goals as goal

-- there is none to take away
pub returns-in_default-clause-removed : goal.returns-in_default-clause-removed
returns-in_default-clause-removed c = remove_absent _ _ (sym c.requires ∙ c.in_default.is)

-- it was in the first lane
pub invariant_of-self : goal.invariant_of-self
invariant_of-self c = few_without (record { local = c.args.local; deadline = c.in-Some.deadline }) _ _ c.self.invariant c.self.view_is _ (in_first (record { local = c.args.local; deadline = c.in-Some.deadline }) _ _ c.self.inside.second c.self.inside.third c.self.inside.fourth (c.remove.ensures.removed c.if-remove.true))

pub returns-then-remove-clause-removed : goal.returns-then-remove-clause-removed
returns-then-remove-clause-removed c = view_without (record { local = c.args.local; deadline = c.in-Some.deadline }) _ _ c.self.invariant c.self.view_is _ (in_first (record { local = c.args.local; deadline = c.in-Some.deadline }) _ _ c.self.inside.second c.self.inside.third c.self.inside.fourth (c.remove.ensures.removed c.if-remove.true))

pub returns-then-remove-clause-room : goal.returns-then-remove-clause-room
returns-then-remove-clause-room c = λ _. room_without (record { local = c.args.local; deadline = c.in-Some.deadline }) _ _ c.self.invariant c.self.view_is _ (in_first (record { local = c.args.local; deadline = c.in-Some.deadline }) _ _ c.self.inside.second c.self.inside.third c.self.inside.fourth (c.remove.ensures.removed c.if-remove.true))

-- it was in the second
pub invariant_of-self-then-remove-2 : goal.invariant_of-self-then-remove-2
invariant_of-self-then-remove-2 c = few_without (record { local = c.args.local; deadline = c.in-Some.deadline }) _ _ c.self.invariant c.self.view_is _ (in_second (record { local = c.args.local; deadline = c.in-Some.deadline }) _ _ _ _ c.self.inside.third c.self.inside.fourth (c.remove.ensures.kept c.if-remove.false) (c.remove-2.ensures.removed c.if-remove-2.true))

pub returns-then-remove-2-clause-removed : goal.returns-then-remove-2-clause-removed
returns-then-remove-2-clause-removed c = view_without (record { local = c.args.local; deadline = c.in-Some.deadline }) _ _ c.self.invariant c.self.view_is _ (in_second (record { local = c.args.local; deadline = c.in-Some.deadline }) _ _ _ _ c.self.inside.third c.self.inside.fourth (c.remove.ensures.kept c.if-remove.false) (c.remove-2.ensures.removed c.if-remove-2.true))

pub returns-then-remove-2-clause-room : goal.returns-then-remove-2-clause-room
returns-then-remove-2-clause-room c = λ _. room_without (record { local = c.args.local; deadline = c.in-Some.deadline }) _ _ c.self.invariant c.self.view_is _ (in_second (record { local = c.args.local; deadline = c.in-Some.deadline }) _ _ _ _ c.self.inside.third c.self.inside.fourth (c.remove.ensures.kept c.if-remove.false) (c.remove-2.ensures.removed c.if-remove-2.true))

-- it was in the third
pub invariant_of-self-then-remove-3 : goal.invariant_of-self-then-remove-3
invariant_of-self-then-remove-3 c = few_without (record { local = c.args.local; deadline = c.in-Some.deadline }) _ _ c.self.invariant c.self.view_is _ (in_third (record { local = c.args.local; deadline = c.in-Some.deadline }) _ _ _ _ _ _ c.self.inside.fourth (c.remove.ensures.kept c.if-remove.false) (c.remove-2.ensures.kept c.if-remove-2.false) (c.remove-3.ensures.removed c.if-remove-3.true))

pub returns-then-remove-3-clause-removed : goal.returns-then-remove-3-clause-removed
returns-then-remove-3-clause-removed c = view_without (record { local = c.args.local; deadline = c.in-Some.deadline }) _ _ c.self.invariant c.self.view_is _ (in_third (record { local = c.args.local; deadline = c.in-Some.deadline }) _ _ _ _ _ _ c.self.inside.fourth (c.remove.ensures.kept c.if-remove.false) (c.remove-2.ensures.kept c.if-remove-2.false) (c.remove-3.ensures.removed c.if-remove-3.true))

pub returns-then-remove-3-clause-room : goal.returns-then-remove-3-clause-room
returns-then-remove-3-clause-room c = λ _. room_without (record { local = c.args.local; deadline = c.in-Some.deadline }) _ _ c.self.invariant c.self.view_is _ (in_third (record { local = c.args.local; deadline = c.in-Some.deadline }) _ _ _ _ _ _ c.self.inside.fourth (c.remove.ensures.kept c.if-remove.false) (c.remove-2.ensures.kept c.if-remove-2.false) (c.remove-3.ensures.removed c.if-remove-3.true))

-- it is in no other lane, so it was in the fourth
there : (c : goal.After-remove-removed) → IsTrue c.remove-removed.result
there c = unless_false _ (λ kept. somewhere (record { local = c.args.local; deadline = c.in-Some.deadline }) _ _ c.self.invariant c.self.view_is (sym c.requires ∙ c.in-Some.is) (All-joined (λ other. other ≢ (record { local = c.args.local; deadline = c.in-Some.deadline })) _ _ _ _ (c.remove.ensures.absent c.if-remove.false) (c.remove-2.ensures.absent c.if-remove-2.false) (c.remove-3.ensures.absent c.if-remove-3.false) (c.remove-removed.ensures.absent kept)))

pub invariant_of-self-2 : goal.invariant_of-self-2
invariant_of-self-2 c = few_without (record { local = c.args.local; deadline = c.in-Some.deadline }) _ _ c.self.invariant c.self.view_is _ (in_fourth (record { local = c.args.local; deadline = c.in-Some.deadline }) _ _ _ _ _ _ _ _ (c.remove.ensures.kept c.if-remove.false) (c.remove-2.ensures.kept c.if-remove-2.false) (c.remove-3.ensures.kept c.if-remove-3.false) (c.remove-removed.ensures.removed (there c)))

pub returns-clause-removed : goal.returns-clause-removed
returns-clause-removed c = view_without (record { local = c.args.local; deadline = c.in-Some.deadline }) _ _ c.self.invariant c.self.view_is _ (in_fourth (record { local = c.args.local; deadline = c.in-Some.deadline }) _ _ _ _ _ _ _ _ (c.remove.ensures.kept c.if-remove.false) (c.remove-2.ensures.kept c.if-remove-2.false) (c.remove-3.ensures.kept c.if-remove-3.false) (c.remove-removed.ensures.removed (there c)))

pub returns-clause-room : goal.returns-clause-room
returns-clause-room c = λ _. room_without (record { local = c.args.local; deadline = c.in-Some.deadline }) _ _ c.self.invariant c.self.view_is _ (in_fourth (record { local = c.args.local; deadline = c.in-Some.deadline }) _ _ _ _ _ _ _ _ (c.remove.ensures.kept c.if-remove.false) (c.remove-2.ensures.kept c.if-remove-2.false) (c.remove-3.ensures.kept c.if-remove-3.false) (c.remove-removed.ensures.removed (there c)))
