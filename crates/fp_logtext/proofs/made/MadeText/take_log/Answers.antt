use Rattle.std.proofs.Common.{List, ap, ◌++◌, ◌∙◌}
use Rattle.fp_book.specs.declared.line.Line.{Line}
use Rattle.fp_logtext.specs.Logged.{LogPart}
use Rattle.fp_logtext.proofs.made.MadeText.take_log.Goals as goal

-- no line comes before those that were handed out
pub returns-clause-taken : goal.returns-clause-taken
returns-clause-taken c =
    λ none.
    let lines = ap (λ (first : List Line). first ++ c.take.new.self) c.clear.ensures.items ∙ c.take.ensures.taken in
    let text = ap (λ (part : LogPart). part.text) c.self.view_is in
    let count = ap (λ (part : LogPart). part.line_count) c.self.view_is in
    (λ i. record { text = text i; lines = lines i; line_count = count i }, c.take.ensures.left)
