use Rattle.fp_steps.proofs.Names.{arith}
use Rattle.fp_steps.proofs.ranges.are_octets.Goals as goal

pub returns : goal.returns
returns c = λ k. omega (arith, c.type_inv.octets k)
