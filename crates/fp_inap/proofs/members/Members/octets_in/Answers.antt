-- The one member with the number is this one.
use Rattle.std.proofs.Common.{[], ◌∷◌, ◌∙◌, ap}
use Rattle.fp_ber.specs.Tree.{primitive}
use Rattle.fp_inap.proofs.Sequences.{first_with}
use Rattle.fp_inap.proofs.members.Members.octets_in.Goals as goal

pub returns-clause-ok : goal.returns-clause-ok
returns-clause-ok c =
    let one = rw c.in-Some.is at c.requires.found in
    let tag = first_with _ _ _ _ c.requires.context one in
    one ∙ ap (λ t. t ∷ []) (c.in-Some-octets.ensures ∙ (λ i. primitive (tag.context i) (tag.numbered i) c.in-Some-octets.octets.now))
