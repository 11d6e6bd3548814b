use Rattle.std.proofs.Common.{Some, None, refl}
use Rattle.fp_network.specs.declared.event.Closing.TheVariants.{Replaced}
use Rattle.fp_network.proofs.Ending.{closed_led}
use Rattle.fp_network.proofs.Hearing.{reads_closed}
use Rattle.fp_network.proofs.News.{notes_from}
use Rattle.fp_network.proofs.Waits.{stays_same, waits_closed}
use Rattle.fp_network.proofs.Tallied.{counts_none, counts_one}
use Rattle.fp_network.proofs.node.Node.replace.Goals as goal

pub returns-in_default-clause-came : goal.returns-in_default-clause-came
returns-in_default-clause-came c setting history led =
    let r = c.in_default.ensures.came setting history led in
    (None, r.0, r.1, r.2, λ other. refl)

pub returns-in_default-clause-rest : goal.returns-in_default-clause-rest
returns-in_default-clause-rest c = stays_same _

-- the earlier connection is over after that, unless it was before
pub returns-clause-came : goal.returns-clause-came
returns-clause-came c setting history led =
    let r = c.in-Some.ensures.came setting history led in (
      Some c.in-Some.earlier,
      r.0,
      r.1,
      closed_led _ _ _ _ _ _ c.close.ensures.stays (λ lives led. c.close.ensures.ended lives setting _ led) r.2,
      (c.close.ensures.here, c.close.ensures.others),
    )

pub returns-clause-rest : goal.returns-clause-rest
returns-clause-rest c =
    waits_closed Replaced c.in-Some.earlier c.args.self.now c.close.new.self c.close.ensures.here c.close.ensures.others

pub returns-clause-reads : goal.returns-clause-reads
returns-clause-reads c =
    reads_closed Replaced c.in-Some.earlier c.args.place c.args.self.now c.close.new.self c.close.ensures.here c.close.ensures.others

pub returns-in_default-clause-counted : goal.returns-in_default-clause-counted
returns-in_default-clause-counted c = counts_none _ _ refl refl refl

pub returns-clause-counted : goal.returns-clause-counted
returns-clause-counted c =
    let close = c.close.ensures in
    counts_one Replaced c.in-Some.earlier c.args.self.now c.close.new.self close.here close.others close.uncounted close.counted close.silent
    (λ lives.
    let report = close.reported lives in
    (report.0, report.1, notes_from _ c.args.self.now _ _ refl report.2)) close.connections
