use Rattle.std.proofs.Common.{sym, subst}
use Rattle.fp_ask.specs.Tied.{GoesOn}
use Rattle.fp_ask.specs.proof_only.Serving.{Came}
use Rattle.fp_ask.proofs.Arriving.{finished}
use Rattle.fp_ask.proofs.session.Session.serve_and_send.Goals as goal

pub returns-clause-goes_on : goal.returns-clause-goes_on
returns-clause-goes_on c = λ p came.
    let served = c.in_ok-serve_waiting.ensures in
    let sent = c.in_ok-frames.ensures in
    subst (λ b. GoesOn p b c.in_ok-frames.frames.items) (sym c.clear_log.ensures.book)
    (finished c.self.inside.book c.serve_waiting.new.book c.send_waiting.new.book p c.in_ok-frames.frames.items
    (subst (Came p) (sym c.self.view_is) came) served.ends served.counts served.served sent.keeps sent.rest sent.frames)
