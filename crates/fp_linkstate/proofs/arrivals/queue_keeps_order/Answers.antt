use Rattle.fp_linkstate.proofs.Orders.{keeps_order}
use Rattle.fp_linkstate.proofs.arrivals.queue_keeps_order.Goals as goal

pub returns : goal.returns
returns c = keeps_order
