use Rattle.std.proofs.lemmas.Result.{IfOk-weaker}
use Rattle.fp_watch.proofs.metrics.numbers_text.Goals as goal

pub returns : goal.returns
returns c = IfOk-weaker c.metrics_text.result _ _ (λ text is. (c.args.run.now, is)) c.metrics_text.ensures
