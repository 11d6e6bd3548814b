-- What the element says, or its fault, is answered: no element has two of these.
use Rattle.fp_q773.proofs.Answered.{only_this, first_this}
use Rattle.fp_q773.proofs.message.message_in.Goals as goal

pub returns-clause-only : goal.returns-clause-only
returns-clause-only c = only_this _ _ c.read_message.ensures.found c.read_message.ensures.fault

pub returns-clause-first : goal.returns-clause-first
returns-clause-first c = first_this _ _ c.read_message.ensures.found c.read_message.ensures.fault
