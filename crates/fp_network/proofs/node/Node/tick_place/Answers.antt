use Rattle.std.proofs.Common.{refl, sym, ◌∙◌}
use Rattle.fp_network.proofs.Ending.{closes_none, closes_one}
use Rattle.fp_network.proofs.Reporting.{notes_kept, notes_one}
use Rattle.fp_network.proofs.Ticking.{ticking_none, ticking_some}
use Rattle.fp_network.proofs.Tallied.{counts_none, counts_one}
use Rattle.fp_network.proofs.node.Node.tick_place.Goals as goal

pub returns-in_default-clause-here : goal.returns-in_default-clause-here
returns-in_default-clause-here c = ticking_none _ _ (sym c.overdue.ensures ∙ c.in_default.is)

pub returns-clause-here : goal.returns-clause-here
returns-clause-here c = c.close.ensures.here ∙ ticking_some _ _ _ (sym c.overdue.ensures ∙ c.in-Some.is)

pub returns-in_default-clause-ended : goal.returns-in_default-clause-ended
returns-in_default-clause-ended c = closes_none _

pub returns-clause-ended : goal.returns-clause-ended
returns-clause-ended c =
    let close = c.close.ensures in
    closes_one _ _ _ _ close.here close.others close.stays close.ended

pub returns-in_default-clause-counted : goal.returns-in_default-clause-counted
returns-in_default-clause-counted c = counts_none _ _ refl refl refl

pub returns-clause-counted : goal.returns-clause-counted
returns-clause-counted c =
    let close = c.close.ensures in
    counts_one _ _ _ _ close.here close.others close.uncounted close.counted close.silent
    close.reported close.connections

pub returns-in_default-clause-reported : goal.returns-in_default-clause-reported
returns-in_default-clause-reported c = notes_kept _ _

pub returns-clause-reported : goal.returns-clause-reported
returns-clause-reported c =
    let close = c.close.ensures in
    notes_one _ _ _ _ close.here close.silent close.reported
