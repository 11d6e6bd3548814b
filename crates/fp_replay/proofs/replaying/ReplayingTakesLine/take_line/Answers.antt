use Rattle.std.proofs.Common.{◌≡◌, true, refl, rules}
use Rattle.fp_replay.proofs.Taken.{taken}
use Rattle.fp_replay.proofs.replaying.ReplayingTakesLine.take_line.Goals as goal

pub returns : goal.returns
returns c =
    let is : c.args.has_line_feed ≡ true = search rules in
    taken _ _ _ _ c.take_line.result is refl refl c.take_line.ensures
