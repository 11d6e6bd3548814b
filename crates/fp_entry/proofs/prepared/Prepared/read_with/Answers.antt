-- What the frame that came is prepared to, and nothing else.
use Rattle.std.proofs.Common.{◌∙◌}
use Rattle.fp_entry.proofs.prepared.Prepared.read_with.Goals as goal

pub returns-clause-is : goal.returns-clause-is
returns-clause-is c =
    c.prepare.ensures.is c.args.frame c.args.moment c.new.ensures.arrival (c.new.ensures.table ∙ (rw c.table.ensures at c.index-index.ensures.value))

pub returns-clause-only : goal.returns-clause-only
returns-clause-only c = λ other given.
    c.prepared_is_one.ensures _ _ _ _ c.prepare.result other
    (c.prepare.ensures.is c.args.frame c.args.moment c.new.ensures.arrival (c.new.ensures.table ∙ (rw c.table.ensures at c.index-index.ensures.value))) given
