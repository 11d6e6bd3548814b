-- What the octets spell, or their first fault, is answered: no text has two of these.
use Rattle.std.proofs.Common.{arith}
use Rattle.fp_ber.proofs.Whole.{only_this, first_this, fits_this}
use Rattle.fp_ber.proofs.reading.read.Goals as goal

pub returns-clause-only : goal.returns-clause-only
returns-clause-only c = only_this _ c.args.octets.now c.element_of.ensures.found c.element_of.ensures.fault

pub returns-clause-first : goal.returns-clause-first
returns-clause-first c = first_this _ c.args.octets.now c.element_of.ensures.found c.element_of.ensures.fault

pub returns-clause-fits : goal.returns-clause-fits
returns-clause-fits c = fits_this _ c.args.octets.now (λ k. omega (arith, c.type_inv.octets k)) c.element_of.ensures.found
