use Rattle.std.proofs.Common.{sym, ap, ◌∙◌}
use Rattle.std.specs.FinMap as map
use Rattle.slab.proofs.DrainLemmas.{length-values}
use Rattle.slab.specs.Slab.{values}
use Rattle.fp_row.proofs.Led.{are_distinct}
use Rattle.fp_row.proofs.Maps.{len-map_of}
use Rattle.fp_row.proofs.rows.Rows.len.Goals as goal

pub returns : goal.returns
returns c =
    let slab = c.self.inside.rows in
    c.len.ensures ∙ length-values slab.slots ∙ sym (len-map_of (values slab) (are_distinct _ slab c.self.invariant)) ∙ ap map.len c.self.view_is
