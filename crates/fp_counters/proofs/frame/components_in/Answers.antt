-- The contents of the portion.
use Rattle.fp_counters.proofs.Elements.{contents_of_portion}
use Rattle.fp_counters.proofs.frame.components_in.Goals as goal

pub returns-clause-is : goal.returns-clause-is
returns-clause-is c = λ values bound is.
    contents_of_portion c.args.portion.now c.contents_of.result.now values c.contents_of.ensures.is c.contents_of.ensures.most bound is
