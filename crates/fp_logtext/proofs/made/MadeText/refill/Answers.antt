use Rattle.std.proofs.Common.{ap, ◌∙◌}
use Rattle.fp_logtext.specs.Logged.{LogPart}
use Rattle.fp_logtext.proofs.OneAfterOther.{all_first, none_after}
use Rattle.fp_logtext.proofs.made.MadeText.refill.Goals as goal

-- no line comes after those that waited
pub returns-clause-taken : goal.returns-clause-taken
returns-clause-taken c =
    λ none.
    let later = none_after _ _ (ap (λ (part : LogPart). part.lines) c.self.view_is ∙ none) in
    let lines = all_first _ _ later ∙ c.hand_out.ensures.lines in
    let text = ap (λ (part : LogPart). part.text) c.self.view_is in
    let count = ap (λ (part : LogPart). part.line_count) c.self.view_is in
    (λ i. record { text = text i; lines = lines i; line_count = count i }, c.hand_out.ensures.left)
