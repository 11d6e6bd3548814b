use Rattle.std.proofs.Common.{◌+◌, ◌/◌, ◌%◌, [], ap, sym, ◌∙◌}
use Rattle.std.specs.Prelude.{not}
use Rattle.fp_records.specs.Choice.{fits}
use Rattle.fp_lint.specs.Week.{rule_of}
use Rattle.fp_lint.proofs.Anys.{any-end, any-here, any-next}
use Rattle.fp_lint.proofs.week.is_bare.Goals as goal

pub loop-rule-preserved : goal.loop-rule-preserved
loop-rule-preserved c =
    any-next rule_of (fits [] (c.args.minute / 1440 + 1) (c.args.minute % 1440)) c.args.rules.now c.loop-rule.rule-index c.rule-item.result
    c.loop-rule-test.true c.rule-item.is (sym c.fits.ensures ∙ c.if-fits.false) c.loop-rule.invariant

pub returns-then-fits : goal.returns-then-fits
returns-then-fits c =
    sym (ap not (any-here rule_of (fits [] (c.args.minute / 1440 + 1) (c.args.minute % 1440)) c.args.rules.now c.loop-rule.rule-index c.rule-item.result
    c.loop-rule-test.true c.rule-item.is (sym c.fits.ensures ∙ c.if-fits.true) c.loop-rule.invariant))

pub returns : goal.returns
returns c =
    sym (ap not (any-end rule_of (fits [] (c.args.minute / 1440 + 1) (c.args.minute % 1440)) c.args.rules.now c.loop-rule.rule-index c.loop-rule-test.false c.loop-rule.invariant))
