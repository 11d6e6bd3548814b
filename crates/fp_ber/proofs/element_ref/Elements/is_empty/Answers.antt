-- There are no elements in memory of their own.
use Rattle.std.proofs.Common.{◌∙◌}
use Rattle.fp_ber.proofs.Heads.{none_owned}
use Rattle.fp_ber.proofs.element_ref.Elements.is_empty.Goals as goal

pub returns-in-Owned : goal.returns-in-Owned
returns-in-Owned c = rw c.in-Owned.is (c.is_empty.ensures ∙ none_owned c.in-Owned.elements.now)
