use Rattle.fp_steps.proofs.Names.{TakesFirst, subst, sym}
use Rattle.fp_steps.proofs.TokensKept.{none_took, took_out}
use Rattle.fp_steps.proofs.parts.take_turn.Goals as goal

pub returns : goal.returns
returns c =
    subst (TakesFirst c.args.local c.args.turns.now.items c.remove.result) (sym c.remove.ensures.items)
    (took_out _ _ _ _ _ _ c.deref.ensures.value c.index_of.ensures c.in-Some.is c.remove.ensures.value)

pub returns-in_default : goal.returns-in_default
returns-in_default c = none_took _ _ _ _ c.deref.ensures.value c.index_of.ensures c.in_default.is
