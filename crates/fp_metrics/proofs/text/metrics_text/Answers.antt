use Rattle.std.proofs.Common.{◌++◌, ◌∙◌, ap, string_bytes}
use Rattle.fp_metrics.specs.Text.{build_text, links_text, reloads_text}
use Rattle.fp_metrics.specs.Times.{times_text}
use Rattle.fp_metrics.proofs.Parts.{joined}
use Rattle.fp_metrics.proofs.text.metrics_text.Goals as goal

pub returns : goal.returns
returns c =
    let run = c.args.run.now in
    let build = c.in_ok-push_build.ensures ∙ ap (λ text. text ++ build_text run) c.new-out.ensures.bytes in
    joined (build_text run) (reloads_text run.reloads) (times_text run.answer_times) (links_text run.links.now)
    (string_bytes c.push_reloads.new.out) (string_bytes c.push_times.new.out) (string_bytes c.push_links.new.out)
    (c.in_ok-push_reloads.ensures ∙ ap (λ text. text ++ reloads_text run.reloads) build)
    c.in_ok-push_times.ensures
    c.in_ok-push_links.ensures
