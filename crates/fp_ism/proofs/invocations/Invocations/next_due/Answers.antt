use Rattle.std.proofs.Common.{◌≡◌, length, ◌∙◌}
use Rattle.std.proofs.lemmas.List.{length-map}
use Rattle.fp_ism.specs.Due.{dues}
use Rattle.fp_ism.proofs.Least.{least_of-is}
use Rattle.fp_ism.proofs.invocations.Invocations.next_due.Goals as goal

pub returns-clause-value : goal.returns-clause-value
returns-clause-value c =
    rw (← c.self.view_is)
    (least_of-is (length c.self.inside.active ≡ 0) (dues c.self.inside.active) c.earliest.result
    (λ none. length-map c.self.inside.active (λ invocation. invocation.due) ∙ none) c.earliest.ensures)
