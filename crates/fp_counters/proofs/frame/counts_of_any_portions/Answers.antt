-- The components are in the component portion.
use Rattle.std.proofs.Common.{map, arith}
use Rattle.fp_reply.specs.Reply.{acceptance_portion, component_value}
use Rattle.fp_counters.proofs.Sent.{accepts}
use Rattle.fp_counters.proofs.frame.counts_of_any_portions.Goals as goal

pub returns : goal.returns
returns c = λ acceptance all bound is.
    c.counts_of_components.ensures all (omega (arith, bound, c.component_portion-portion.ensures.most, c.components_in-components.ensures.most))
    (c.components_in-components.ensures.is (map component_value all) (omega (arith, bound, c.component_portion-portion.ensures.most))
    (c.component_portion-portion.ensures.is (acceptance_portion acceptance) (map component_value all) bound (accepts acceptance) is))
