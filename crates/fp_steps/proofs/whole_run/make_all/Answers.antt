use Rattle.fp_steps.proofs.Names.{arith, base, base_of, refl, take_all, ◌∙◌}
use Rattle.fp_steps.proofs.RunsSoFar.{Going-all, Going-more, Going-none}
use Rattle.fp_steps.proofs.whole_run.make_all.Goals as goal

pub loop-step-preserved : goal.loop-step-preserved
loop-step-preserved c = (
  (λ i. base_of (c.in_ok-made.ensures.link i) (c.in_ok-made.ensures.tag i)) ∙ c.loop-step.invariant.0,
  Going-more c.args.steps.now c.loop-step.step-index c.push.new.self.items c.step.new.self
      c.step-item.result c.in_ok-made.made c.loop-step.invariant.1 c.loop-step-test.true c.step-item.is c.in_ok-made.ensures.follows c.in_ok-push.ensures.items,
)

pub loop-step-init : goal.loop-step-init
loop-step-init c = (refl, Going-none c.args.steps.now c.new-outputs.result.items c.requires c.new-outputs.ensures.items)

pub returns : goal.returns
returns c = Going-all c.args.steps.now c.loop-step.step-index (base c.args.run.now)
    c.loop-step.invariant.1 (take_all c.loop-step.step-index c.args.steps.now (omega (arith, c.loop-step-test.false))) c.loop-step.invariant.0
