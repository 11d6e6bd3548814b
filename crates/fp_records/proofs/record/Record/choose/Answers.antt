use Rattle.std.proofs.Common.{◌≡◌, FitsSigned, w16, false, rules, sym, ◌∙◌}
use Rattle.std.proofs.lemmas.Int.{to_z-of_z}
use Rattle.fp_records.specs.Calendar.{day_of, local_minutes}
use Rattle.fp_records.specs.Choice.{is_closed_on}
use Rattle.fp_records.proofs.record.Record.choose.Goals as goal

pub returns : goal.returns
returns c =
    let fits : FitsSigned w16 c.self.inside.offset = search rules in
    let day = simp to_z-of_z at c.local_time-time.ensures.day in
    let weekday = simp to_z-of_z at c.local_time-time.ensures.weekday in
    let minute = simp to_z-of_z at c.local_time-time.ensures.minute in
    let open_then : is_closed_on (day_of (local_minutes c.args.moment c.self.inside.offset)) c.self.inside.closed ≡ false = rw day at (sym c.has.ensures ∙ c.if-has.false) in
    rw (← c.self.view_is, open_then) (rw (weekday, minute, c.as_slice.ensures.value, c.calling_digits.ensures) at c.chosen.ensures)
