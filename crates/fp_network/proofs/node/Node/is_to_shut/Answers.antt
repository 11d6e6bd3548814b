use Rattle.std.proofs.Common.{rules, ◌∙◌}
use Rattle.std.proofs.lemmas.Bool.Decides.{Decides-eqb, Decides-not}
use Rattle.fp_network.proofs.First.{first_one, same_some}
use Rattle.fp_network.proofs.node.Node.is_to_shut.Goals as goal

pub returns-in-Some-sends_by-clause-decides : goal.returns-in-Some-sends_by-clause-decides
returns-in-Some-sends_by-clause-decides c setting history led =
    let by = c.in-Some-sends_by.by in
    let apart = Decides-not _ (Decides-eqb by c.args.place) in
    let first = c.in-Some-sends_by.ensures setting history led in (
      λ is. (search rules, search rules, (by, apart.0 is, first)),
      λ to_shut. apart.1 (λ same. to_shut.2.1 (same_some _ _ (first_one _ _ _ to_shut.2.2 first) ∙ same)),
    )
