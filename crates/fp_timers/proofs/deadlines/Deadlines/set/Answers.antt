use Rattle.std.proofs.Common.{rules, tests}
use Rattle.fp_timers.proofs.Names.{Some, ap, get, map_insert, sym, ◌∙◌, ◌≡◌}
use Rattle.fp_timers.proofs.Maps.{gone, insert_same, insert-remove}
use Rattle.fp_timers.proofs.deadlines.Deadlines.set.Goals as goal

-- the deadline is there already
pub invariant_of-self : goal.invariant_of-self
invariant_of-self c =
    let same : c.set-before.result ≡ Some c.args.deadline = search (rules, tests) in
    let there : get c.self.inside.by_local c.args.local ≡ Some c.args.deadline = sym c.set-before.ensures.before ∙ same in
    c.self.invariant ∙ sym (c.set-before.ensures.after ∙ insert_same _ _ _ there)

-- the old one is taken away from the other list
pub add-requires-clause-absent : goal.add-requires-clause-absent
add-requires-clause-absent c = ap (λ m. get m c.args.local) c.remove.ensures.removed ∙ gone _ _

pub invariant_of-self-2 : goal.invariant_of-self-2
invariant_of-self-2 c =
    c.add.ensures
    ∙ ap (λ m. map_insert m c.args.local c.args.deadline) c.remove.ensures.removed
    ∙ insert-remove _ _ _
    ∙ ap (λ m. map_insert m c.args.local c.args.deadline) c.self.invariant
    ∙ sym c.set-before.ensures.after
