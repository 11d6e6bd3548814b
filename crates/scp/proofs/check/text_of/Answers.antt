-- Without closed days the line has no more than the numbers and the rules.
use Rattle.std.proofs.Common.{rules, sym, ◌∙◌}
use Rattle.scp.proofs.check.text_of.Goals as goal

pub returns-in-0 : goal.returns-in-0
returns-in-0 c = rw (sym c.closed.ensures ∙ c.in-0.is) (search rules)
