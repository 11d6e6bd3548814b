use Rattle.fp_ber.proofs.Exclusive.{spelled_no_fault}
use Rattle.fp_ber.proofs.laws.spelled_octets_have_no_fault.Goals as goal

pub returns : goal.returns
returns c = λ octets t f spells range. spelled_no_fault octets t f spells range.nested
