-- Two components are counted.
use Rattle.fp_counters.proofs.Sent.{two_counted}
use Rattle.fp_counters.proofs.frame.counts_of_components.Goals as goal

pub returns : goal.returns
returns c = λ all bound is.
    two_counted c.args.components.now c.after_element-others.result.now _ _ c.args.message c.args.ends_dialogue all c.after_element-others.ensures.is
    c.after_element-others.ensures.most c.component_counter-first.ensures.some c.component_counter-first.ensures.none
    c.component_counter-second.ensures.some c.component_counter-second.ensures.none bound is
