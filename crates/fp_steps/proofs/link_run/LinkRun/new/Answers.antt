use Rattle.fp_steps.proofs.Names.{IsAfter, Shelf, Sound, [], subst, sym}
use Rattle.fp_steps.proofs.RunsSoFar.{after_none}
use Rattle.fp_steps.proofs.link_run.LinkRun.new.Goals as goal

pub returns-clause-after : goal.returns-clause-after
returns-clause-after c = λ tables contexts.
    subst (λ (s : Shelf). IsAfter tables contexts [] s) (sym c.in_ok-engine.ensures.value) (after_none c.rows_keep_their_order.ensures tables contexts c.args.link c.args.tag (subst Sound c.in_ok-engine.ensures.value c.in_ok-engine.ensures.sound))
