-- The one member with the number is this one.
use Rattle.std.proofs.Common.{[], ◌∷◌, ◌∙◌, ap}
use Rattle.fp_ber.specs.Lent.{lent_trees}
use Rattle.fp_ber.specs.Tree.{constructed}
use Rattle.fp_inap.proofs.Sequences.{first_with}
use Rattle.fp_inap.proofs.members.Members.members.Goals as goal

pub returns-clause-ok : goal.returns-clause-ok
returns-clause-ok c =
    let one = rw c.in-Some.is at c.in_ok-element.ensures.ok in
    let tag = first_with _ _ _ _ c.requires one in
    one ∙ ap (λ t. t ∷ []) (c.in-Some-children.ensures ∙ (λ i. constructed (tag.context i) (tag.numbered i) (lent_trees c.in-Some-children.members)))
