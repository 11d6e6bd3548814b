-- What is held and what is still to come are what was held and all that came.
use Rattle.std.proofs.Common.{◌≡◌, ◌++◌, length}
use Rattle.fp_octets.proofs.octets.Octets.extend.Given as goal

abbrev pub invariant-loop-rest : goal.invariant-loop-rest
invariant-loop-rest g l = l.self ++ l.rest ≡ l.initial.self ++ l.octets

abbrev pub decreases-loop-rest : goal.decreases-loop-rest
decreases-loop-rest g l = length l.rest
