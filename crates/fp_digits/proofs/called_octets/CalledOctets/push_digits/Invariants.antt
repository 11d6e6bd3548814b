use Rattle.std.proofs.Common.{◌++◌, length}
use Rattle.fp_digits.specs.Called.{octets_of_digits}
use Rattle.fp_digits.proofs.Writing.{WritesOn}
use Rattle.fp_digits.proofs.called_octets.CalledOctets.push_digits.Given as goal

abbrev pub invariant-loop-rest : goal.invariant-loop-rest
invariant-loop-rest l = WritesOn (l.initial.self ++ octets_of_digits l.digits) l.self l.rest

abbrev pub decreases-loop-rest : goal.decreases-loop-rest
decreases-loop-rest l = length l.rest
