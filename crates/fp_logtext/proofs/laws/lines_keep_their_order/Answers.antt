use Rattle.fp_logtext.proofs.LineOrders.{keeps_lines, keeps_text}
use Rattle.fp_logtext.proofs.laws.lines_keep_their_order.Goals as goal

pub returns : goal.returns
returns c = record { lines = keeps_lines; text = keeps_text }
