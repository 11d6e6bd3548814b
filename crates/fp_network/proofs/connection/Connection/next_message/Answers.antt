use Rattle.std.proofs.Common.{refl, sym, ◌∙◌}
use Rattle.std.proofs.lemmas.Result.{IfOk-weaker}
use Rattle.fp_network.proofs.Hearing.{next_over, next_read}
use Rattle.fp_network.proofs.connection.Connection.next_message.Goals as goal

pub returns-then-is_over-clause-next : goal.returns-then-is_over-clause-next
returns-then-is_over-clause-next c = next_over c.args.self.now (sym c.is_over.ensures ∙ c.if-is_over.true)

pub returns-clause-next : goal.returns-clause-next
returns-clause-next c =
    IfOk-weaker c.next.result _ _
    (λ message hands. next_read c.args.self.now (record c.args.self.now { reader = c.next.new.self }) message (sym c.is_over.ensures ∙ c.if-is_over.false) refl hands)
    c.next.ensures.next
