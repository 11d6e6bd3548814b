use Rattle.std.proofs.Common.{sym, ◌∙◌}
use Rattle.fp_lint.proofs.reach.is_got_at.Goals as goal

pub returns-then-not-holds_at-clause-taken : goal.returns-then-not-holds_at-clause-taken
returns-then-not-holds_at-clause-taken c = λ no holds. let contrary = sym holds ∙ sym c.holds_at.ensures ∙ c.if-not-holds_at.true in cc contrary
