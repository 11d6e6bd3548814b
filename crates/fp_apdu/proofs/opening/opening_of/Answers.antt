-- An element in memory of its own is lent as it is.
use Rattle.fp_apdu.proofs.opening.opening_of.Goals as goal

pub returns-clause-only : goal.returns-clause-only
returns-clause-only c = rw c.in-Some.is c.opening_in-2.ensures.only
