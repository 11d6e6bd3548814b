use Rattle.std.proofs.Common.{sym}
use Rattle.std.proofs.lemmas.Result.{on_ok_weaker}
use Rattle.fp_adaptor.specs.Dialogues.{said_both}
use Rattle.fp_adaptor.proofs.Following.{said_as}
use Rattle.fp_adaptor.proofs.dialogues.Dialogues.open_both.Goals as goal

pub returns-in_default : goal.returns-in_default
returns-in_default c = λ known sees. said_as _ _ _ _ (λ i q. said_both (sym c.in_default.is i) c.args.exchange q (known q)) sees

pub returns-in_default-exchange : goal.returns-in_default-exchange
returns-in_default-exchange c = λ known sees.
    said_as _ _ _ _ (λ i q. said_both (sym c.in-Some.is i) (sym c.in_default-exchange.is i) q (known q)) sees

pub returns : goal.returns
returns c =
    on_ok_weaker c.open.result
    (λ h known sees. said_as _ _ _ _ (λ i q. said_both (sym c.in-Some.is i) (sym c.in-Some-exchange.is i) q (known q)) (h known sees))
    c.open.ensures
