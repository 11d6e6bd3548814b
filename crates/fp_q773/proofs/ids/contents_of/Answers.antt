-- Where no length stands none is passed over.
use Rattle.fp_q773.proofs.ids.contents_of.Goals as goal

pub returns-in_default-clause-none : goal.returns-in_default-clause-none
returns-in_default-clause-none c = λ contents low passes. c.in_default.ensures.none contents passes
