use Rattle.std.proofs.Common.{refl}
use Rattle.fp_row.proofs.rows.close.Goals as goal

pub returns : goal.returns
returns c = record { after = c.end-drops.new.self; ends = c.end-drops.ensures.ends; left_is = rw c.is_held.ensures refl }
