use Rattle.std.proofs.lemmas.Result.{on_ok_weaker}
use Rattle.fp_adaptor.specs.Dialogues.{said_both, unless_exchange}
use Rattle.fp_adaptor.proofs.Following.{said_as}
use Rattle.fp_adaptor.proofs.dialogues.Dialogues.say.Goals as goal

pub returns : goal.returns
returns c =
    on_ok_weaker c.open_both.result
    (λ h known sees.
    said_as _ _ _ _ (λ i q. said_both (c.continued.ensures i) c.args.ids.now.dest q (unless_exchange (c.finished.ensures i) (known q)))
    (h _ (c.forget_exchange.ensures known sees)))
    c.open_both.ensures
