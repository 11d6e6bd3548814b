-- The text of each form of a length.
use Rattle.std.proofs.Common.{arith}
use Rattle.fp_ber.proofs.Octets.{short_length, long_length_one, long_length_two, long_length_three, long_length_four}
use Rattle.fp_ber.proofs.length.length_at.Goals as goal

pub returns-in-0-to-127-clause-ok : goal.returns-in-0-to-127-clause-ok
returns-in-0-to-127-clause-ok c = short_length c.args.octets.now _ (omega arith) (omega arith) (omega arith)

pub returns-in-len1-up-rest-clause-ok : goal.returns-in-len1-up-rest-clause-ok
returns-in-len1-up-rest-clause-ok c = long_length_one c.args.octets.now _ (omega arith) (omega arith) (omega arith) (omega arith)

pub returns-in-len2-up-clause-ok : goal.returns-in-len2-up-clause-ok
returns-in-len2-up-clause-ok c = long_length_two c.args.octets.now _ (omega arith) (omega arith) (omega arith) (omega arith)

pub returns-in-len3-up-clause-ok : goal.returns-in-len3-up-clause-ok
returns-in-len3-up-clause-ok c = long_length_three c.args.octets.now _ (omega arith) (omega arith) (omega arith) (omega arith)

pub returns-in-len4-up-clause-ok : goal.returns-in-len4-up-clause-ok
returns-in-len4-up-clause-ok c = long_length_four c.args.octets.now _ (omega arith) (omega arith) (omega arith) (omega arith)
