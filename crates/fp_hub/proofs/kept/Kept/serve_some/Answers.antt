use Rattle.fp_hub.proofs.Chains.{in_places_more}
use Rattle.fp_hub.proofs.kept.Kept.serve_some.Goals as goal

pub loop-count-preserved : goal.loop-count-preserved
loop-count-preserved g c = record {
  so_far =
      in_places_more c.loop-count._count c.args.self.now c.loop-count.self c.serve_one.new.self _ _ _ _ _ c.loop-count.invariant.so_far c.in-Ok.ensures.ok;
  sound = c.serve_one.ensures.sound;
}
