-- The portions follow two identifiers.
use Rattle.std.proofs.Common.{ℕ, List, drop, map, ap, ◌∙◌, arith}
use Rattle.fp_ber.specs.declared.element.Class.TheVariants.{Application}
use Rattle.fp_ber.specs.Canon.{canon_of_all}
use Rattle.fp_q773.specs.Written.{portions_trees}
use Rattle.fp_reply.specs.Reply.{acceptance_portion, component_value}
use Rattle.fp_counters.proofs.frame.counts_of_continue.Goals as goal

pub returns : goal.returns
returns c = λ local destination acceptance all far bound is.
    let portions = portions_trees (acceptance_portion acceptance) (map component_value all) in
    c.counts_of_portions.ensures acceptance all (omega (arith, bound, c.after-destination.ensures.most, c.after_short-portions.ensures.most))
    (c.after_short-portions.ensures.is Application 9 destination (canon_of_all portions) (omega arith) (omega (arith, far.1))
    (c.after-destination.ensures.is ∙ ap (λ (o : List ℕ). drop 6 o) is))
