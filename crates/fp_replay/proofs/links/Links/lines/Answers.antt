use Rattle.std.proofs.Common.{◌≡◌, ◌++◌, length, string_bytes, ap, ◌∙◌, arith}
use Rattle.fp_steps.specs.Places.{handed_in}
use Rattle.fp_replay.specs.Replayed.{report_of, totals_along}
use Rattle.fp_replay.proofs.Retelling.{report_more, run_at}
use Rattle.fp_replay.proofs.links.Links.lines.Goals as goal

pub loop-link-preserved : goal.loop-link-preserved
loop-link-preserved c = λ tables contexts tag history after.
    report_more c.loop-link.link (totals_along history) _ _ _ c.totals.result
    (c.in_ok-push_str.ensures.bytes ∙ ap (λ l. string_bytes c.loop-link.lines ++ l) c.as_str.ensures.value)
    (c.loop-link.invariant tables contexts tag history after) c.in_ok-line.ensures
    (c.totals.ensures (handed_in tag tables) contexts (history c.loop-link.link)
    (run_at tables contexts tag history _ _ _ _ after c.deref-run-items.ensures.value c.loop-link-test.true c.run-item.is))

pub returns : goal.returns
returns c = λ tables contexts tag history after.
    let size = ap length c.deref-run-items.ensures.value in
    let all : c.loop-link.link ≡ length c.args.self.now.runs.items = omega (arith, size, c.loop-link-test.false, c.loop-link.auto.link-end) in
    c.loop-link.invariant tables contexts tag history after ∙ ap (λ n. report_of n (totals_along history)) all
