-- The nodes are those of an element with nothing behind it, one at least.
use Rattle.std.proofs.Common.{◌≤◌, length, length-take-le, arith, rules, tests}
use Rattle.fp_ber.proofs.Placed.{some_put}
use Rattle.fp_ber.proofs.Stopping.{nodes_whole}
use Rattle.fp_ber.proofs.nodes.nodes_in.Goals as goal

pub returns-clause-places : goal.returns-clause-places
returns-clause-places c =
    let one = c.in_ok-placed.ensures in
    let used = c.in_ok-placed.placed.used in
    let fits : used ≤ length c.node_at.new.places = omega (arith, one.fits.1, one.same) in
    (omega (arith, some_put _ _ _ _ _ one.ok, length-take-le used c.node_at.new.places fits), fits)

pub returns-clause-found : goal.returns-clause-found
returns-clause-found c = nodes_whole c.args.octets.now c.in_ok-placed.placed.rest.now _ c.in_ok-placed.ensures.ok (search (rules, tests))
