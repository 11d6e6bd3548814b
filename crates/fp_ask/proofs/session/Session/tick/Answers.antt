use Rattle.std.proofs.Common.{sym, subst}
use Rattle.std.proofs.lemmas.Result.{IfOk-weaker}
use Rattle.fp_ask.specs.Solo.{tick}
use Rattle.fp_ask.specs.Tied.{Matches, Rest}
use Rattle.fp_ask.proofs.Ticking.{ticks_came, ticks_fit}
use Rattle.fp_ask.proofs.session.Session.tick.Goals as goal

pub serve_and_send-requires : goal.serve_and_send-requires
serve_and_send-requires c = record { fit = ticks_fit (subst Rest (sym c.self.view_is) c.requires.rest) c.tick-ticked.ensures.ticks c.if-ticked-gt0.false c.tick-ticked.ensures.sound }

pub returns-clause-follows : goal.returns-clause-follows
returns-clause-follows c = IfOk-weaker c.serve_and_send.result _ _ (λ frames goes w m. goes (tick w c.args.moment)
    (ticks_came (subst Rest (sym c.self.view_is) c.requires.rest) c.tick-ticked.ensures.ticks c.if-ticked-gt0.false w (subst (Matches w) (sym c.self.view_is) m)))
    c.serve_and_send.ensures.goes_on
