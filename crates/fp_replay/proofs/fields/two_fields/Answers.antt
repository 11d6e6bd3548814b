use Rattle.std.proofs.Common.{◌∷◌, ◌++◌}
use Rattle.fp_replay.proofs.fields.two_fields.Goals as goal

pub returns-clause-only : goal.returns-clause-only
returns-clause-only c = λ a b field e. c.cut.ensures.only a b field (c.in_ok-one_field.ensures.only (a ++ 32 ∷ b) e)
