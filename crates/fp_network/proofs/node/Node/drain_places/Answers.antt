use Rattle.std.proofs.Common.{◌≤◌, arith, length, refl, ◌∙◌}
use Rattle.fp_network.proofs.Changing.{changing_all, changing_more, changing_none}
use Rattle.fp_network.proofs.Leaves.{leaves_more, leaves_same}
use Rattle.fp_network.proofs.node.Node.drain_places.Goals as goal

pub loop-place-init : goal.loop-place-init
loop-place-init c = record { so = changing_none _ _; link = leaves_same _; adaptor = refl; tally = refl; news = refl }

pub loop-place-preserved : goal.loop-place-preserved
loop-place-preserved c =
    let inv = c.loop-place.invariant in
    let call = c.drain_place.ensures in
    record {
      so = changing_more _ _ _ _ _ inv.so (rw inv.link.names at call.here) call.others;
      link = leaves_more _ _ _ inv.link call.link;
      adaptor = call.adaptor ∙ inv.adaptor;
      tally = call.tally ∙ inv.tally;
      news = call.news ∙ inv.news;
    }

pub returns-clause-each : goal.returns-clause-each
returns-clause-each c =
    let past = c.loop-place-test.false in
    let le : length c.args.self.now.places.items ≤ c.loop-place.place = omega (arith, past) in
    changing_all _ c.loop-place.place c.args.self.now c.loop-place.self le c.loop-place.invariant.so
