use Rattle.std.proofs.Common.{[], ap, refl, sym, subst}
use Rattle.std.proofs.lemmas.Result.{on_ok_weaker}
use Rattle.fp_network.specs.declared.arrival.Arrival.{Arrival}
use Rattle.fp_network.specs.declared.tally.Tally.{Tally}
use Rattle.fp_network.specs.Node.{ended_unless, is_over_at}
use Rattle.fp_network.specs.Receiving.{Results}
use Rattle.fp_network.specs.Tally.{closings_of}
use Rattle.fp_network.proofs.Growing.{grows_none}
use Rattle.fp_network.proofs.Hearing.{closed_event, reads_closed, results_active}
use Rattle.fp_network.proofs.Waits.{stays_same, waits_closed}
use Rattle.fp_network.proofs.News.{notes_none}
use Rattle.fp_network.proofs.Tallied.{counts_none, counts_one, counts_same}
use Rattle.fp_network.proofs.node.Node.arrive.Goals as goal

pub returns-in-Nothing-clause-grows : goal.returns-in-Nothing-clause-grows
returns-in-Nothing-clause-grows c = grows_none _

pub returns-in-Nothing-clause-rest : goal.returns-in-Nothing-clause-rest
returns-in-Nothing-clause-rest c = stays_same _

pub returns-in-Skipped-clause-grows : goal.returns-in-Skipped-clause-grows
returns-in-Skipped-clause-grows c = grows_none _

pub returns-in-Skipped-clause-rest : goal.returns-in-Skipped-clause-rest
returns-in-Skipped-clause-rest c = stays_same _

pub returns-in-Active-clause-grows : goal.returns-in-Active-clause-grows
returns-in-Active-clause-grows c = rw c.activate.ensures.link.for_link (grows_none _)

pub returns-in-Close-clause-grows : goal.returns-in-Close-clause-grows
returns-in-Close-clause-grows c = rw c.close.ensures.link.for_link (grows_none _)

pub returns-in-Close-clause-rest : goal.returns-in-Close-clause-rest
returns-in-Close-clause-rest c =
    waits_closed _ c.args.place c.args.self.now c.close.new.self c.close.ensures.here c.close.ensures.others

pub returns-in-Nothing-clause-comes_to : goal.returns-in-Nothing-clause-comes_to
returns-in-Nothing-clause-comes_to c =
    subst (λ (arrival : Arrival). Results c.args.place c.args.octets.now arrival c.args.self.now c.args.self.now) (sym c.in-Nothing.is)
    (λ setting history led. ([], (refl, refl, refl, refl), led))

pub returns-in-Skipped-clause-comes_to : goal.returns-in-Skipped-clause-comes_to
returns-in-Skipped-clause-comes_to c setting history led = ([], (rw c.in-Skipped.is (refl, refl, refl, ap (λ (t : Tally). t.skipped) c.skip.ensures)), led)

pub returns-in-Active-clause-comes_to : goal.returns-in-Active-clause-comes_to
returns-in-Active-clause-comes_to c =
    subst (λ (arrival : Arrival). Results c.args.place c.args.octets.now arrival c.args.self.now c.activate.new.self) (sym c.in-Active.is)
    (results_active c.in-Active.unit c.args.place c.args.octets.now c.args.self.now c.activate.new.self c.activate.ensures.link.for_link
    c.activate.ensures.skipped c.activate.ensures.came)

pub returns-in-UnitData-clause-comes_to : goal.returns-in-UnitData-clause-comes_to
returns-in-UnitData-clause-comes_to c =
    on_ok_weaker c.unit_data.result (λ handed_on.
    subst (λ (arrival : Arrival). Results c.args.place c.args.octets.now arrival c.args.self.now c.unit_data.new.self) (sym c.in-UnitData.is)
    (λ setting history led.
    let so = handed_on setting history led in
    (so.1, (so.0, so.2, so.3, so.5, c.unit_data.ensures.others, ap (λ (t : Tally). t.skipped) c.unit_data.ensures.tally), so.4)))
    c.unit_data.ensures.handed_on

pub returns-in-Close-clause-comes_to : goal.returns-in-Close-clause-comes_to
returns-in-Close-clause-comes_to c =
    let close = c.close.ensures in
    subst (λ (arrival : Arrival). Results c.args.place c.args.octets.now arrival c.args.self.now c.close.new.self) (sym c.in-Close.is)
    (λ setting history led. (
      ended_unless (is_over_at c.args.self.now c.args.place) c.args.place,
      (refl, close.link.for_link, (close.here, close.others), close.skipped),
      closed_event c.args.place c.args.self.now c.close.new.self setting history close.stays close.ended led,
    ))

pub returns-in-Close-clause-reads : goal.returns-in-Close-clause-reads
returns-in-Close-clause-reads c =
    reads_closed _ c.args.place c.args.place c.args.self.now c.close.new.self c.close.ensures.here c.close.ensures.others

pub returns-in-Nothing-clause-counted : goal.returns-in-Nothing-clause-counted
returns-in-Nothing-clause-counted c = rw c.in-Nothing.is (counts_none _ _ refl refl refl)

pub returns-in-Skipped-clause-counted : goal.returns-in-Skipped-clause-counted
returns-in-Skipped-clause-counted c =
    rw c.in-Skipped.is (counts_same [] _ _ (λ why. ap (λ (t : Tally). closings_of t why) c.skip.ensures)
    (ap (λ (t : Tally). t.connections) c.skip.ensures) (λ place. refl) (notes_none _ _ refl) tt)

pub returns-in-Active-clause-counted : goal.returns-in-Active-clause-counted
returns-in-Active-clause-counted c = rw c.in-Active.is c.activate.ensures.counted

pub returns-in-UnitData-clause-counted : goal.returns-in-UnitData-clause-counted
returns-in-UnitData-clause-counted c = rw c.in-UnitData.is c.unit_data.ensures.counted

pub returns-in-Close-clause-counted : goal.returns-in-Close-clause-counted
returns-in-Close-clause-counted c =
    let close = c.close.ensures in
    rw c.in-Close.is (counts_one _ c.args.place c.args.self.now c.close.new.self close.here close.others close.uncounted close.counted close.silent
    close.reported close.connections)
