-- A code is written in as few octets as any spelling of it has.
use Rattle.fp_q773.proofs.Least as least
use Rattle.fp_q773.proofs.laws.codes_are_least.Goals as goal

pub returns : goal.returns
returns c = least.codes_are_least
