use Rattle.std.proofs.Common.{◌||◌, refl, sym, ap, arith}
use Rattle.fp_hub.proofs.Chains.{all_posted, held_front, none_left, posting_more, posts_front}
use Rattle.fp_hub.proofs.kept.Kept.post_front.Goals as goal

pub returns-in_default-clause-posts : goal.returns-in_default-clause-posts
returns-in_default-clause-posts g c =
    let below = c.loop-count-test.true in
    let none = none_left _ _ c.pop_front.result _ _ _ c.pop_front.ensures.items c.in_default.is c.pop_front.ensures.cases c.loop-count.came.ok.0 in
    posts_front c.loop-count._count c.args.self.now c.loop-count.self _ c.pop_front.new.self.items _ _ _ (rw (sym none.0) c.loop-count.invariant.posting) (omega (arith, below)) (rw none.1 tt)

pub returns-in-Err-clause-posts : goal.returns-in-Err-clause-posts
returns-in-Err-clause-posts g c =
    let below = c.loop-count-test.true in
    held_front c.loop-count._count c.args.self.now c.loop-count.self c.post_unless_held_back.new.self _ c.loop-count.came.items c.push_front_reserved.new.self.items c.pop_front.new.self.items _ _ _ _ c.in-Some.next c.in-Err.held_back
    c.loop-count.invariant.posting (omega (arith, below)) c.in-Some.ensures.items c.push_front_reserved.ensures.items c.in-Err.ensures.err c.in-Err.ensures.known.1

pub loop-count-preserved : goal.loop-count-preserved
loop-count-preserved g c = record {
  posting = rw (ap (λ b. c.loop-count.has_aborted || b) c.is_aborted-has_aborted.ensures)
      (posting_more c.loop-count._count c.args.self.now c.loop-count.self c.post_unless_held_back.new.self _ c.loop-count.came.items c.pop_front.new.self.items _ _ _ _ c.in-Some.next c.in-Ok.answer c.loop-count.invariant.posting
      c.in-Some.ensures.items (c.in-Ok.ensures.known.0 refl) c.in-Ok.ensures.ok c.in-Ok.ensures.grows);
  sound = c.post_unless_held_back.ensures.sound;
}

pub returns-clause-posts : goal.returns-clause-posts
returns-clause-posts g c =
    let most = c.loop-count.auto._count-end in
    let end = c.loop-count-test.false in
    posts_front c.loop-count._count c.args.self.now c.loop-count.self _ c.loop-count.came.items _ _ _ c.loop-count.invariant.posting (omega (arith, most))
    (all_posted c.loop-count.self c.loop-count._count c.loop-count.came.items (omega (arith, most, end)))
