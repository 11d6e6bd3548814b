use Rattle.std.proofs.lemmas.Result.{IfOk-weaker}
use Rattle.fp_watch.proofs.answers.number_lines.Goals as goal

pub returns : goal.returns
returns c = IfOk-weaker c.number_text.result _ _ (λ text is. (c.args.digits.now, c.args.counters.now, is)) c.number_text.ensures
