use Rattle.std.proofs.Common.{◌+◌, ◌/◌, ◌%◌, ◌&&◌, length, nat_lt, sym, ◌∙◌}
use Rattle.fp_records.specs.Choice.{fits}
use Rattle.fp_lint.specs.Week.{rule_of}
use Rattle.fp_lint.proofs.Anys.{any-end, any-here, any-next}
use Rattle.fp_lint.proofs.reach.takes_any.Goals as goal

pub loop-kept-preserved : goal.loop-kept-preserved
loop-kept-preserved c =
    any-next rule_of (λ rule. nat_lt c.args.longer (length rule.prefix) && fits c.args.calling.now (c.args.minute / 1440 + 1) (c.args.minute % 1440) rule)
    c.args.rules.now c.loop-kept.kept-index c.kept-item.result c.loop-kept-test.true c.kept-item.is (sym c.is_taker.ensures ∙ c.if-is_taker.false) c.loop-kept.invariant

pub returns-then-is_taker : goal.returns-then-is_taker
returns-then-is_taker c =
    sym (any-here rule_of (λ rule. nat_lt c.args.longer (length rule.prefix) && fits c.args.calling.now (c.args.minute / 1440 + 1) (c.args.minute % 1440) rule)
    c.args.rules.now c.loop-kept.kept-index c.kept-item.result c.loop-kept-test.true c.kept-item.is (sym c.is_taker.ensures ∙ c.if-is_taker.true) c.loop-kept.invariant)

pub returns : goal.returns
returns c =
    sym (any-end rule_of (λ rule. nat_lt c.args.longer (length rule.prefix) && fits c.args.calling.now (c.args.minute / 1440 + 1) (c.args.minute % 1440) rule)
    c.args.rules.now c.loop-kept.kept-index c.loop-kept-test.false c.loop-kept.invariant)
