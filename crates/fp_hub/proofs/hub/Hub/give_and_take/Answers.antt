use Rattle.fp_hub.proofs.Chains.{counts_work, serves_each}
use Rattle.fp_hub.proofs.hub.Hub.give_and_take.Goals as goal

pub returns-clause-works : goal.returns-clause-works
returns-clause-works g c = counts_work _ _ _ _ _ _ _ _ _ _ c.give_and_take-worked.ensures.works

pub returns-clause-same : goal.returns-clause-same
returns-clause-same g c =
    let counts = c.give_and_take-worked.ensures.works.returns.counts in
    (serves_each counts.steps _ _ counts.grows).same

pub returns-clause-grows : goal.returns-clause-grows
returns-clause-grows g c =
    let counts = c.give_and_take-worked.ensures.works.returns.counts in
    (serves_each counts.steps _ _ counts.grows).grows
