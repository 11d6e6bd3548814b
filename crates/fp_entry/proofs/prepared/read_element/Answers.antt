-- A fault of the element.
use Rattle.fp_ber.specs.Lent.{lent_tree}
use Rattle.fp_entry.proofs.prepared.read_element.Goals as goal

pub returns-in-Err-clause-err : goal.returns-in-Err-clause-err
returns-in-Err-clause-err c = c.of_message_fault.ensures c.args.contexts.now (lent_tree c.args.element.now) c.in-Err.ensures.fault
