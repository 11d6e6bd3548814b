use Rattle.fp_steps.proofs.Names.{Holds, None, Shelf, [], empty_shelf, refl, subst, sym}
use Rattle.fp_steps.proofs.TokensKept.{holds_none}
use Rattle.fp_steps.proofs.TieKept.{none_there}
use Rattle.fp_steps.proofs.engine.Engine.new.Goals as goal

pub returns-clause-holds : goal.returns-clause-holds
returns-clause-holds c = subst (λ ts. Holds ts None c.in_ok-with_tag.field-0) (sym c.new.ensures.items)
    (subst (λ (s : Shelf). Holds [] None s) (sym c.in_ok-with_tag.ensures.value) (holds_none (empty_shelf c.args.link c.args.tag) (none_there c.args.link c.args.tag) refl))
