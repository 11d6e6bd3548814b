use Rattle.std.proofs.Common.{◌≡◌, ◌*◌, ◌++◌, take, drop}
use Rattle.hex.specs.Hex.{encode_upper}
use Rattle.fp_replay.proofs.octets.fill_digits.Given as goal

-- the digits so far, and those of what is left
abbrev pub invariant-loop-place : goal.invariant-loop-place
invariant-loop-place l = take (2 * l.place) l.digits ++ encode_upper (drop l.place l.octets) ≡ encode_upper l.octets
