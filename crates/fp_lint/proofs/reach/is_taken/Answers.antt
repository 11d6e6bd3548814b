use Rattle.std.proofs.Common.{arith, below_more, inl, inr, sym, ◌∙◌}
use Rattle.fp_lint.proofs.reach.is_taken.Goals as goal

pub loop-minute-preserved : goal.loop-minute-preserved
loop-minute-preserved c = below_more _ _ c.loop-minute.invariant (c.is_got_at.ensures.taken c.if-is_got_at.false)

pub returns-then-is_empty-clause-got : goal.returns-then-is_empty-clause-got
returns-then-is_empty-clause-got c = λ no. inl (rw c.rule.ensures at (c.is_empty.ensures.0 c.if-is_empty.true))

pub returns-then-is_got_at-clause-got : goal.returns-then-is_got_at-clause-got
returns-then-is_got_at-clause-got c = λ no. inr (c.loop-minute.minute, c.loop-minute-test.true, c.is_got_at.ensures.got c.if-is_got_at.true)

pub returns-clause-taken : goal.returns-clause-taken
returns-clause-taken c = λ yes. (
  (λ none. let so = c.is_empty.ensures.1 (rw c.rule.ensures none) in let contrary = sym c.if-is_empty.false ∙ so in cc contrary),
  (λ minute below. c.loop-minute.invariant minute (let past = c.loop-minute-test.false in omega (arith, below, past))),
)
