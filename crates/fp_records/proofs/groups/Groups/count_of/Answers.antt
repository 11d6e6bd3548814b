use Rattle.std.proofs.Common.{length, ap, refl}
use Rattle.fp_records.proofs.Lookups.{seen-found}
use Rattle.fp_records.proofs.groups.Groups.count_of.Goals as goal

pub returns-in-Some : goal.returns-in-Some
returns-in-Some c =
    let found = rw c.in-Some.is at (seen-found (λ rules. rules.items) c.args.number.now c.self.inside.groups.entries c.get.result c.get.ensures.value) in
    rw (← c.self.view_is, ← found) (ap length c.as_slice.ensures.value)

pub returns-in-None : goal.returns-in-None
returns-in-None c =
    let found = rw c.in-None.is at (seen-found (λ rules. rules.items) c.args.number.now c.self.inside.groups.entries c.get.result c.get.ensures.value) in
    rw (← c.self.view_is, ← found) refl
