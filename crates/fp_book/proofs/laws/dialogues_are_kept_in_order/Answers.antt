use Rattle.fp_book.proofs.Headline.{kept_in_order}
use Rattle.fp_book.proofs.laws.dialogues_are_kept_in_order.Goals as goal

pub returns : goal.returns
returns c = kept_in_order c.rows_keep_their_order.ensures
