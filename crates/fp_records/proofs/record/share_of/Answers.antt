use Rattle.std.proofs.Common.{◌+◌, filter, length, max, take, arith, sym, ap, ◌∙◌}
use Rattle.jiff_core.specs.Weekday.{monday_zero}
use Rattle.fp_records.specs.Choice.{fits}
use Rattle.fp_records.proofs.Shares.{filter-more, filter-same, longest_prefix-more, total_with-more}
use Rattle.fp_records.proofs.record.share_of.Goals as goal
use Rattle.fp_records.proofs.record.share_of.Goals.{then-fits, else-fits}

pub loop-kept-preserved : goal.loop-kept-preserved
loop-kept-preserved c =
    let inv = c.loop-kept.invariant in
    let test = fits c.args.call.now.calling.now (monday_zero c.args.call.now.time.weekday + 1) c.args.call.now.time.minute in
    let rule = c.rule-rule.result.now in
    let fitted = filter test (take c.loop-kept.kept-index c.args.rules.now) in
    elim c.if-fits.branch [
      | then-fits w ↦
          let more = filter-more test c.args.rules.now c.loop-kept.kept-index rule c.kept-item.result c.loop-kept-test.true (c.rule-rule.ensures ∙ c.kept-item.is) (sym c.fits.ensures ∙ w.if-fits.true) in
          record {
            few = inv.few;
            low = rw w.share-is (omega (arith, w.with-share.ensures.most, inv.low));
            longest = rw (w.share-is, more, longest_prefix-more fitted rule) (w.with-share.ensures.longest ∙ ap (λ n. max n (length rule.prefix)) inv.longest);
            total = rw (w.share-is, more) (w.with-share.ensures.total ∙ rw (inv.longest, inv.total) (total_with-more fitted rule));
          }
      | else-fits w ↦
          let same = filter-same test c.args.rules.now c.loop-kept.kept-index rule c.kept-item.result c.loop-kept-test.true (c.rule-rule.ensures ∙ c.kept-item.is) (sym c.fits.ensures ∙ w.if-fits.false) in
          record {
            few = inv.few;
            low = rw w.share-is (omega (arith, inv.low));
            longest = rw (w.share-is, same) inv.longest;
            total = rw (w.share-is, same) inv.total;
          }
    ]
