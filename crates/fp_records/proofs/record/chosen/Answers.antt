use Rattle.std.proofs.Common.{◌+◌, ◌%◌, filter, sym, ◌∙◌}
use Rattle.jiff_core.specs.Weekday.{monday_zero}
use Rattle.fp_records.specs.Choice.{fits, of_length}
use Rattle.fp_records.proofs.Shares.{by_share-is, none_without_weight}
use Rattle.fp_records.proofs.record.chosen.Goals as goal

pub returns-then-share-eq0 : goal.returns-then-share-eq0
returns-then-share-eq0 c =
    let fitted = filter (fits c.args.call.now.calling.now (monday_zero c.args.call.now.time.weekday + 1) c.args.call.now.time.minute) c.args.rules.now in
    let share = c.share_of-share.result in
    rw (by_share-is c.args.birth share.longest share.total fitted c.share_of-share.ensures.longest c.share_of-share.ensures.total)
    (sym (none_without_weight (c.args.birth % share.total) (of_length share.longest fitted) (sym c.share_of-share.ensures.total ∙ c.if-share-eq0.true)))

pub returns : goal.returns
returns c =
    let fitted = filter (fits c.args.call.now.calling.now (monday_zero c.args.call.now.time.weekday + 1) c.args.call.now.time.minute) c.args.rules.now in
    let share = c.share_of-share.result in
    rw (by_share-is c.args.birth share.longest share.total fitted c.share_of-share.ensures.longest c.share_of-share.ensures.total) c.rule_at.ensures
