use Rattle.fp_book.proofs.Names.{shelf_of, sym, ◌∙◌}
use Rattle.fp_book.proofs.Busy.{quiet_else, quiet_if}
use Rattle.fp_book.proofs.book.Book.is_quiet.Goals as goal

-- no dialogue is busy
pub returns-then-not-has_busy-clause-value : goal.returns-then-not-has_busy-clause-value
returns-then-not-has_busy-clause-value c =
    quiet_if (shelf_of c.self.inside) c.args.self.now c.self.view_is c.is_empty.result (sym c.has_busy.ensures ∙ c.if-not-has_busy.true) c.is_empty.ensures

-- one is
pub returns-else-not-has_busy-clause-value : goal.returns-else-not-has_busy-clause-value
returns-else-not-has_busy-clause-value c = quiet_else c.args.self.now c.has_busy.result c.has_busy.ensures c.if-not-has_busy.false
