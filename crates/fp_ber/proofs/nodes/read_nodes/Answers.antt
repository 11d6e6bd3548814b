-- What the octets spell, or their first fault, is answered: no text has two of these.
use Rattle.std.proofs.Common.{arith}
use Rattle.fp_ber.proofs.Stopping.{only_places, first_places, fits_places}
use Rattle.fp_ber.proofs.nodes.read_nodes.Goals as goal

pub returns-clause-only : goal.returns-clause-only
returns-clause-only c = only_places _ c.args.octets.now _ _ c.nodes_in.ensures.found c.nodes_in.ensures.fault

pub returns-clause-first : goal.returns-clause-first
returns-clause-first c = first_places _ c.args.octets.now _ _ c.nodes_in.ensures.found c.nodes_in.ensures.fault

pub returns-clause-fits : goal.returns-clause-fits
returns-clause-fits c = fits_places _ c.args.octets.now _ (λ k. omega (arith, c.type_inv.octets k)) c.nodes_in.ensures.found
