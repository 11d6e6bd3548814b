use Rattle.fp_steps.proofs.Names.{Holds, [], ap, subst, sym, ◌++◌, ◌∙◌, ◌∷◌}
use Rattle.fp_steps.proofs.TokensKept.{holds_takes}
use Rattle.fp_steps.proofs.engine.Engine.take.Goals as goal

pub returns-in-Turn-clause-holds : goal.returns-in-Turn-clause-holds
returns-in-Turn-clause-holds c =
    subst (λ ts. Holds ts c.args.self.now.parcel c.take.new.self) (sym (c.push_reserved.ensures.items ∙ ap (λ ts. ts ++ c.in-Turn.turn ∷ []) c.reserve.ensures.items))
    (holds_takes c.in-Turn.ensures.takes c.requires.holds)
