use Rattle.fp_steps.proofs.Names.{ap, capped, cond, ℕ, ◌+◌, ◌∙◌}
use Rattle.fp_steps.proofs.OutputTotals.{same}
use Rattle.fp_steps.proofs.counting.with_output.Goals as goal

pub returns : goal.returns
returns c = same _ _
    (c.saturating_add-accepted.ensures ∙ ap (λ n. capped (c.args.totals.accepted + n)) (c.from.ensures ∙ c.components_of.ensures))
    (c.saturating_add-served.ensures ∙ ap (λ n. capped (c.args.totals.served + n)) c.entries_served.ensures)
    (c.one_more-sent.ensures ∙ ap (λ b. capped (c.args.totals.sent + cond {A = ℕ} b 1 0)) c.is_sent.ensures)
