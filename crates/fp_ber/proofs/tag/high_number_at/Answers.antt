-- The text of a number in the high form.
use Rattle.std.proofs.Common.{arith}
use Rattle.fp_ber.proofs.Octets.{high_tag_one, high_tag_two}
use Rattle.fp_ber.proofs.tag.high_number_at.Goals as goal

pub returns-then-first-lt128-clause-ok : goal.returns-then-first-lt128-clause-ok
returns-then-first-lt128-clause-ok c = λ class form.
    high_tag_one c.args.octets.now class form _ (omega arith) (omega arith) (omega arith) (omega arith)

pub returns-clause-ok : goal.returns-clause-ok
returns-clause-ok c = λ class form.
    high_tag_two c.args.octets.now class form _ (omega arith) (omega arith) (omega arith) (omega (arith, c.type_inv.octets 0)) (omega arith) (omega arith)
