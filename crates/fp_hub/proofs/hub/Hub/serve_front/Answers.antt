use Rattle.fp_hub.proofs.Chains.{serves_in_places}
use Rattle.fp_hub.proofs.hub.Hub.serve_front.Goals as goal

pub returns-clause-same : goal.returns-clause-same
returns-clause-same g c =
    let some = c.serve_front-worked.ensures.serves.serves in
    (serves_in_places some.steps _ _ some.grows).same

pub returns-clause-grows : goal.returns-clause-grows
returns-clause-grows g c =
    let some = c.serve_front-worked.ensures.serves.serves in
    (serves_in_places some.steps _ _ some.grows).grows
