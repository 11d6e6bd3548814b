use Rattle.std.proofs.Common.{◌≡◌, arith, subst}
use Rattle.fp_lint.specs.Week.{count_below, is_bare, rules_of}
use Rattle.fp_lint.proofs.Counts.{count-more, count-same}
use Rattle.fp_lint.proofs.week.count_bare.Goals as goal
use Rattle.fp_lint.proofs.week.count_bare.Goals.{then-is_bare, else-is_bare}

pub loop-minute-preserved : goal.loop-minute-preserved
loop-minute-preserved c =
    let inv = c.loop-minute.invariant in
    let test = is_bare (rules_of c.args.rules.now) in
    elim c.if-is_bare.branch [
      | then-is_bare w ↦ record {
        count = rw w.count-is (count-more test c.loop-minute.minute c.loop-minute.count c.is_bare.result inv.count c.is_bare.ensures w.if-is_bare.true);
        low = rw w.count-is (omega (arith, inv.low));
        within = omega arith;
      }
      | else-is_bare w ↦ record {
        count = rw w.count-is (count-same test c.loop-minute.minute c.loop-minute.count c.is_bare.result inv.count c.is_bare.ensures w.if-is_bare.false);
        low = rw w.count-is (omega (arith, inv.low));
        within = omega arith;
      }
    ]

pub returns : goal.returns
returns c =
    let inv = c.loop-minute.invariant in
    let last : c.loop-minute.minute ≡ 10080 = omega (arith, inv.within) in
    subst (λ minutes. c.loop-minute.count ≡ count_below (is_bare (rules_of c.args.rules.now)) minutes) last inv.count
