-- What stands first is no identifier, or what stands behind it is no code.
use Rattle.std.proofs.Common.{subst}
use Rattle.fp_q773.specs.Grammar.{IsCoded}
use Rattle.fp_q773.proofs.Fronts.{no_identifier, rest_same}
use Rattle.fp_q773.proofs.return_error.ReturnError.read.Goals as goal

pub returns-in_default-identifier_of-clause-none : goal.returns-in_default-identifier_of-clause-none
returns-in_default-identifier_of-clause-none c = λ identifier code parameter h.
    no_identifier _ _ _ c.in-Some.ensures c.in_default-identifier_of.ensures h.0 h.1 identifier h.2 h.3

pub returns-in_default-read-clause-none : goal.returns-in_default-read-clause-none
returns-in_default-read-clause-none c = λ identifier code parameter h.
    c.in_default-read.ensures.none code parameter (subst (λ ts. IsCoded ts code parameter) (rest_same _ _ _ c.in-Some.ensures h.0 h.1 h.2) h.4)
