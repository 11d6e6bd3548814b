use Rattle.fp_ber.specs.Lent.{lent_trees}
use Rattle.fp_apdu.proofs.Forests.{some_behind, none_from_empty, none_behind_information, tells_information}
use Rattle.fp_apdu.proofs.aarq.is_user_information.Goals as goal

pub returns-then-not-is_empty : goal.returns-then-not-is_empty
returns-then-not-is_empty c = (
  λ e. absurd (cc e),
  λ h. absurd (some_behind (lent_trees c.in-Some.split.rest) c.if-not-is_empty.ensures (none_behind_information _ _ _ c.in-Some.ensures h.0 h.1)),
)

pub returns : goal.returns
returns c =
    rw c.is_some.ensures (tells_information lent_trees c.children_with_tag.result _ _ (none_from_empty (lent_trees c.in-Some.split.rest) c.if-not-is_empty.ensures c.in-Some.ensures) c.children_with_tag.ensures)
