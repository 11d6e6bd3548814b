-- What stands first is no identifier, or what stands behind it and a linked one is no code.
use Rattle.std.proofs.Common.{subst}
use Rattle.fp_q773.specs.Grammar.{IsAsked}
use Rattle.fp_q773.proofs.Fronts.{no_identifier, rest_same, asked_behind}
use Rattle.fp_q773.proofs.invoke.Invoke.read.Goals as goal

pub returns-in_default-identifier_of-clause-none : goal.returns-in_default-identifier_of-clause-none
returns-in_default-identifier_of-clause-none c = λ identifier linked code parameter h.
    no_identifier _ _ _ c.in-Some.ensures c.in_default-identifier_of.ensures h.0 h.1 identifier h.2 h.3

pub returns-in_default-read-clause-none : goal.returns-in_default-read-clause-none
returns-in_default-read-clause-none c = λ identifier linked code parameter h.
    let asked = subst (λ ts. IsAsked ts linked code parameter) (rest_same _ _ _ c.in-Some.ensures h.0 h.1 h.2) h.4 in
    c.in_default-read.ensures.none code parameter (asked_behind c.linked_at-linked.result.identifier _ _ c.linked_at-linked.ensures.some c.linked_at-linked.ensures.none linked code parameter asked)
