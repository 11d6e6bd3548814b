use Rattle.std.proofs.Common.{◌+◌, refl}
use Rattle.fp_records.specs.Listed.{listed}
use Rattle.fp_records.proofs.Grouping.{adds-value, limits-value}
use Rattle.fp_records.proofs.groups.Groups.add.Goals as goal

pub returns-clause-added : goal.returns-clause-added
returns-clause-added c =
    let groups = rw c.new.ensures at c.in_ok-push_at.ensures.entries in
    rw (← c.self.view_is) (adds-value _ (record { count = c.self.inside.count + 1; groups = listed c.push_at.new.lists.entries }) c.args.numbered.now refl groups c.in_ok-push_at.ensures.once)

pub invariant_of-self : goal.invariant_of-self
invariant_of-self c = rw c.in_err-push_at.ensures.refused c.self.invariant

pub invariant_of-self-2 : goal.invariant_of-self-2
invariant_of-self-2 c =
    let groups = rw c.new.ensures at c.in_ok-push_at.ensures.entries in
    let room = rw (← c.self.view_is) at c.requires.room in
    limits-value (record { count = c.self.inside.count; groups = listed c.self.inside.groups.entries }) (record { count = c.self.inside.count + 1; groups = listed c.push_at.new.lists.entries }) c.args.numbered.now refl groups c.in_ok-push_at.ensures.numbers c.self.invariant room c.requires.decimal
