use Rattle.std.proofs.Common.{arith}
use Rattle.hex.specs.Hex.{upper_digits}
use Rattle.hex.proofs.Pairs.{encode_step, encode_done}
use Rattle.fp_replay.proofs.octets.fill_digits.Goals as goal

pub loop-place-preserved : goal.loop-place-preserved
loop-place-preserved c =
    encode_step upper_digits c.args.octets.now c.loop-place.digits c.loop-place.place _ _ (omega arith) (omega arith)
    c.digit.ensures c.digit-in-loop-place.ensures c.loop-place.invariant

pub returns : goal.returns
returns c = encode_done upper_digits _ _ c.loop-place.place (omega arith) (omega arith) c.loop-place.invariant
