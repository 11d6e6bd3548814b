use Rattle.std.proofs.Common.{arith}
use Rattle.fp_records.proofs.number_key.NumberKey.code.Goals as goal

pub returns-clause-value : goal.returns-clause-value
returns-clause-value c = rw (← c.self.view_is, c.self.invariant.code.exact, c.from.ensures, c.from-2.ensures) (omega arith)

pub returns-clause-digits : goal.returns-clause-digits
returns-clause-digits c = rw (← c.self.view_is) c.self.invariant.code.digits
