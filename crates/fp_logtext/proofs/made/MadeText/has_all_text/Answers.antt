use Rattle.std.proofs.Common.{ap, arith, length, leb-true, ◌∙◌}
use Rattle.fp_logtext.specs.Logged.{LogPart}
use Rattle.fp_logtext.proofs.OneAfterOther.{both_count}
use Rattle.fp_logtext.proofs.made.MadeText.has_all_text.Goals as goal

-- a line is left of the first
pub returns-else-self-len : goal.returns-else-self-len
returns-else-self-len c =
    let lines = ap (λ (part : LogPart). part.lines) c.self.view_is in
    let count = both_count c.self.inside.lines.items c.self.inside.exchanged c.self.inside.made in
    (λ all. absurd (omega (arith, c.if-self-len.false, leb-true _ _ all)), λ none. absurd (omega (arith, c.if-self-len.false, c.len.ensures, count, ap length (lines ∙ none))))
