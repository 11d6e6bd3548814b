use Rattle.std.proofs.Common.{◌≡◌, ◌<◌, length, arith, below_more, subst, sym, ◌∙◌}
use Rattle.fp_lint.specs.Reach.{AllTaken, SomeLeft}
use Rattle.fp_lint.specs.Week.{rules_of}
use Rattle.fp_lint.proofs.Takings.{all-deeper, all-here, left-deeper, left-here}
use Rattle.fp_lint.proofs.reach.+takes_each.Goals as goal

pub returns-then-takes_any-clause-all : goal.returns-then-takes_any-clause-all
returns-then-takes_any-clause-all t c = λ yes. all-here (rules_of c.args.rules.now) c.args.longer c.args.minute c.args.calling (sym c.takes_any.ensures ∙ c.if-takes_any.true)

pub returns-then-len-ge-WHOLE-clause-left : goal.returns-then-len-ge-WHOLE-clause-left
returns-then-len-ge-WHOLE-clause-left t c = λ no.
    let size : length c.args.calling ≡ 15 = omega arith in
    left-here (rules_of c.args.rules.now) c.args.longer c.args.minute c.args.calling (sym c.takes_any.ensures ∙ c.if-takes_any.false) size c.requires.decimal

pub loop-digit-preserved : goal.loop-digit-preserved
loop-digit-preserved t c =
    below_more _ _ c.loop-digit.invariant
    (subst (λ front. AllTaken (rules_of c.args.rules.now) c.args.longer c.args.minute front) c.push.ensures (c.takes_each.ensures.all c.if-not-takes_each.false))

pub returns-then-not-takes_each-clause-left : goal.returns-then-not-takes_each-clause-left
returns-then-not-takes_each-clause-left t c = λ no.
    left-deeper (rules_of c.args.rules.now) c.args.longer c.args.minute c.args.calling c.loop-digit.digit
    (subst (λ front. SomeLeft (rules_of c.args.rules.now) c.args.longer c.args.minute front) c.push.ensures (c.takes_each.ensures.left c.if-not-takes_each.true))

pub returns-clause-all : goal.returns-clause-all
returns-clause-all t c = λ yes.
    let short : length c.args.calling < 15 = omega arith in
    all-deeper (rules_of c.args.rules.now) c.args.longer c.args.minute c.args.calling short
    (λ digit below. c.loop-digit.invariant digit (let past = c.loop-digit-test.false in omega (arith, below, past)))
