use Rattle.std.proofs.Common.{ap, ◌++◌, ◌∙◌, string_bytes}
use Rattle.fp_replay.specs.Replayed.{report_line}
use Rattle.fp_watch.proofs.Lines.{more}
use Rattle.fp_serve.proofs.run.report.report.Goals as goal

pub loop-link-preserved : goal.loop-link-preserved
loop-link-preserved c =
    more report_line c.loop-link.link c.args.totals.now _ _ _ _ c.loop-link-test.true
    (c.in_ok-push_str.ensures.bytes ∙ ap (λ l. string_bytes c.loop-link.text ++ l) c.as_str.ensures.value)
    c.in_ok-line.ensures c.loop-link.invariant
