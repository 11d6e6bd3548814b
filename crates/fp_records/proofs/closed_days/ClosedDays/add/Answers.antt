use Rattle.std.proofs.Common.{FitsSigned, w32, refl, rules}
use Rattle.std.proofs.lemmas.Int.{to_z-of_z}
use Rattle.fp_records.specs.Closings.{listed_days}
use Rattle.fp_records.proofs.Gathered.{at_number-with_day}
use Rattle.fp_records.proofs.closed_days.ClosedDays.add.Goals as goal

pub returns-clause-added : goal.returns-clause-added
returns-clause-added c =
    let fits : FitsSigned w32 c.args.closed.day = search rules in
    let entries = simp to_z-of_z at c.in_ok-insert_at.ensures.entries in
    rw (← c.self.view_is) (record {
      count = refl;
      each = λ digits. rw entries (at_number-with_day digits c.args.closed.number c.args.closed.day (listed_days c.self.inside.days.entries));
    })
