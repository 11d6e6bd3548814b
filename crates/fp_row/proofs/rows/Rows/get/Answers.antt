use Rattle.std.proofs.Common.{sym, ap, ◌∙◌}
use Rattle.std.specs.FinMap as map
use Rattle.fp_row.proofs.Led.{found, missing}
use Rattle.fp_row.proofs.rows.Rows.get.Goals as goal

-- the row is that of the entry to which the identifier leads
pub returns : goal.returns
returns c = found _ _ c.self.invariant _ _ _ (sym c.key_in.ensures ∙ c.in-Some.is) c.index.ensures ∙ ap (λ m. map.get m c.args.local) c.self.view_is

-- it leads nowhere
pub returns-in_default : goal.returns-in_default
returns-in_default c = missing _ _ c.self.invariant _ (sym c.key_in.ensures ∙ c.in_default.is) ∙ ap (λ m. map.get m c.args.local) c.self.view_is
