use Rattle.std.proofs.Common.{inl, inr, sym, ◌∙◌, arith}
use Rattle.fp_hub.proofs.Chains.{none_left, returning_more, returns_front}
use Rattle.fp_hub.proofs.kept.Kept.return_front.Goals as goal

pub returns-in_default-clause-returns : goal.returns-in_default-clause-returns
returns-in_default-clause-returns g c =
    let below = c.loop-count-test.true in
    let none = none_left _ _ c.pop_front.result _ _ _ c.pop_front.ensures.items c.in_default.is c.pop_front.ensures.cases c.loop-count.work.ok.0 in
    returns_front c.loop-count._count c.args.self.now c.loop-count.self _ c.pop_front.new.self.items _ _ _ (rw (sym none.0) c.loop-count.invariant.returning) (omega (arith, below)) (inl none.1)

pub loop-count-preserved : goal.loop-count-preserved
loop-count-preserved g c = record {
  returning =
      returning_more c.loop-count._count c.args.self.now c.loop-count.self c.return_one-queues.new.self _ c.loop-count.work.items c.pop_front.new.self.items _ _ _ _ _ c.in-Some.first c.loop-count.invariant.returning c.in-Some.ensures.items
      c.return_one-queues.ensures.returns;
  capacity = c.pop_front.ensures.capacity ∙ c.loop-count.invariant.capacity;
  sound = c.return_one-queues.ensures.sound;
}

pub returns-clause-returns : goal.returns-clause-returns
returns-clause-returns g c =
    let most = c.loop-count.auto._count-end in
    let end = c.loop-count-test.false in
    returns_front c.loop-count._count c.args.self.now c.loop-count.self _ c.loop-count.work.items _ _ _ c.loop-count.invariant.returning (omega (arith, most)) (inr (omega (arith, most, end)))
