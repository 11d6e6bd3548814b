use Rattle.std.specs.List.{each_same}
use Rattle.fp_records.proofs.Lookups.{seen-found}
use Rattle.fp_records.proofs.closed_days.ClosedDays.of.Goals as goal

pub returns-in_ok-clone-in-Some-clause-days : goal.returns-in_ok-clone-in-Some-clause-days
returns-in_ok-clone-in-Some-clause-days c =
    let found = rw c.in-Some.is at (seen-found (λ set. set.keys) c.args.number.now c.self.inside.days.entries c.get.result c.get.ensures.value) in
    let same = each_same _ _ c.in_ok-clone-in-Some.ensures.cases in
    rw (← c.self.view_is, ← found, ← same) c.of.ensures.days

pub returns-in-None-clause-days : goal.returns-in-None-clause-days
returns-in-None-clause-days c =
    let found = rw c.in-None.is at (seen-found (λ set. set.keys) c.args.number.now c.self.inside.days.entries c.get.result c.get.ensures.value) in
    rw (← c.self.view_is, ← found) c.none.ensures
