use Rattle.fp_steps.proofs.Names.{Holds, subst, sym}
use Rattle.fp_steps.proofs.TokensKept.{holds_sends}
use Rattle.fp_steps.proofs.engine.Engine.sent.Goals as goal

pub returns-in-Ok-clause-holds : goal.returns-in-Ok-clause-holds
returns-in-Ok-clause-holds c =
    subst (λ p. Holds c.args.self.now.turns.items p c.sent.new.self) (sym c.take.ensures.after)
    (holds_sends c.in-Some.parcel.content c.sent.new.self c.in-Ok.ensures.ok c.requires.holds)
