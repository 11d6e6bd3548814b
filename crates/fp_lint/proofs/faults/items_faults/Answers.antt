use Rattle.std.proofs.Common.{◌++◌}
use Rattle.fp_lint.specs.Faults.{items_faults}
use Rattle.fp_lint.specs.Rows.{rows_in, version_if}
use Rattle.fp_lint.proofs.Loops.{next-item, no-item}
use Rattle.fp_lint.proofs.faults.items_faults.Goals as goal

pub loop-index-preserved : goal.loop-index-preserved
loop-index-preserved c =
    next-item (version_if c.args.is_two) c.args.first c.loop-index.index c.args.rows.now c.index-rows-index.result c.loop-index.faults.items c.item_faults.new.faults.items
    (c.args.faults.now.items ++ items_faults (version_if c.args.is_two) c.args.first (rows_in c.args.rows.now)) c.loop-index-test.true c.index-rows-index.is c.loop-index.invariant
    c.in_ok-item_faults.ensures

pub returns : goal.returns
returns c =
    no-item (version_if c.args.is_two) c.args.first c.loop-index.index c.args.rows.now c.loop-index.faults.items
    (c.args.faults.now.items ++ items_faults (version_if c.args.is_two) c.args.first (rows_in c.args.rows.now)) c.loop-index-test.false c.loop-index.invariant
