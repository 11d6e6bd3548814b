use Rattle.fp_book.proofs.Serials.{comes_back_late}
use Rattle.fp_book.proofs.laws.serials_of_dialogues_come_back_late.Goals as goal

pub returns : goal.returns
returns c = comes_back_late c.identifiers_are_distinct.ensures.serials c.serials_come_back_last.ensures
