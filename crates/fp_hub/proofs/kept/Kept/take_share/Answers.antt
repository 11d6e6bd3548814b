use Rattle.std.proofs.Common.{◌∙◌}
use Rattle.fp_hub.proofs.Chains.{taking_more}
use Rattle.fp_hub.proofs.kept.Kept.take_share.Goals as goal

pub loop-count-preserved : goal.loop-count-preserved
loop-count-preserved g c = record {
  taking = taking_more c.loop-count._count c.args.self.now c.loop-count.self c.take.new.self _ _ _ c.in-Turn.turn c.loop-count.invariant.taking c.in-Turn.ensures.takes c.push_back_reserved.ensures.items;
  capacity = c.push_back_reserved.ensures.capacity ∙ c.loop-count.invariant.capacity;
  sound = c.take.ensures.sound;
}
