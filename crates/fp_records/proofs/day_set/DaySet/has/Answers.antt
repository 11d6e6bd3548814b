use Rattle.fp_records.proofs.day_set.DaySet.has.Goals as goal

pub returns-in-Some : goal.returns-in-Some
returns-in-Some c = rw (← c.self.view_is, c.in-Some.is) (rw c.deref.ensures at c.contains.ensures)
