use Rattle.fp_book.proofs.Names.{arith}
use Rattle.fp_book.proofs.Ticks.{due_most, none_found}
use Rattle.fp_book.proofs.ticking.due_count.Goals as goal

-- at most as many are due as there are dialogues
pub overflow_cast-result : goal.overflow_cast-result
overflow_cast-result c = rw c.count_due.ensures (omega (arith, due_most c.args.moment c.args.rows.now c.requires.held))

-- no deadline is due
pub returns-in-None : goal.returns-in-None
returns-in-None c = none_found c.args.moment c.args.rows.now c.args.deadlines.now c.requires.timed c.in-None.ensures
