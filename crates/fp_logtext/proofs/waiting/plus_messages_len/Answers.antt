use Rattle.std.proofs.Common.{arith}
use Rattle.fp_logtext.proofs.MessageLens.{none_left}
use Rattle.fp_logtext.proofs.waiting.plus_messages_len.Goals as goal

pub returns : goal.returns
returns c =
    let left = none_left c.args.lines.now c.loop-line.line-index (omega (arith, c.loop-line-test.false)) in
    omega (arith, left, c.loop-line.invariant.most, c.loop-line.invariant.all)
