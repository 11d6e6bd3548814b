-- Four octets are a number.
use Rattle.fp_q773.proofs.Numbers.{four_octets_are_a_number}
use Rattle.fp_q773.proofs.laws.numbers_are_four_octets.Goals as goal

pub returns-clause-each : goal.returns-clause-each
returns-clause-each c = four_octets_are_a_number
