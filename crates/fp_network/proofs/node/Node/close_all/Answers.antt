use Rattle.std.proofs.Common.{◌≤◌, arith, length, refl, ◌∙◌}
use Rattle.fp_network.proofs.Changing.{changing_all, changing_more, changing_none}
use Rattle.fp_network.proofs.Ending.{closes_more, closes_none, closes_one}
use Rattle.fp_network.proofs.Leaves.{leaves_more, leaves_same}
use Rattle.fp_network.proofs.Reporting.{notes_one, reported_all, reported_more, reported_none}
use Rattle.fp_network.proofs.Tallied.{counts_more, counts_none, counts_one}
use Rattle.fp_network.proofs.Keeping.{keeps_closed}
use Rattle.fp_network.proofs.node.Node.close_all.Goals as goal

pub loop-place-init : goal.loop-place-init
loop-place-init c = record { so = changing_none _ _; ended = closes_none _; link = leaves_same _; counted = counts_none _ _ refl refl refl; reported = reported_none _; skipped = refl }

pub loop-place-preserved : goal.loop-place-preserved
loop-place-preserved c =
    let inv = c.loop-place.invariant in
    let test = c.loop-place-test.true in
    let call = c.close.ensures in
    record {
      so = changing_more _ _ _ _ _ inv.so call.here call.others;
      ended = closes_more _ _ _ inv.ended (closes_one _ _ _ _ call.here call.others call.stays call.ended);
      link = leaves_more _ _ _ inv.link call.link;
      counted = counts_more _ _ _ inv.link.count inv.counted (counts_one _ _ _ _ call.here call.others call.uncounted call.counted
          call.silent call.reported call.connections);
      reported = reported_more _ _ _ _ _ inv.reported inv.so (omega (arith, test)) call.others (notes_one _ _ _ _ call.here call.silent call.reported);
      skipped = call.skipped ∙ inv.skipped;
    }

pub returns-clause-each : goal.returns-clause-each
returns-clause-each c =
    let past = c.loop-place-test.false in
    let le : length c.args.self.now.places.items ≤ c.loop-place.place = omega (arith, past) in
    changing_all _ c.loop-place.place c.args.self.now c.loop-place.self le c.loop-place.invariant.so

pub returns-clause-reported : goal.returns-clause-reported
returns-clause-reported c =
    let past = c.loop-place-test.false in
    reported_all c.loop-place.place _ _ (omega (arith, past)) c.loop-place.invariant.reported

pub returns-clause-tied : goal.returns-clause-tied
returns-clause-tied c = keeps_closed _ _ c.loop-place.invariant.ended
