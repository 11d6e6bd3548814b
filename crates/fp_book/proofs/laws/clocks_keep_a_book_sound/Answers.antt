use Rattle.fp_book.proofs.LowerLaws.{LowerLaws}
use Rattle.fp_book.proofs.Clocks.{Sound-ticks}
use Rattle.fp_book.proofs.laws.clocks_keep_a_book_sound.Goals as goal

pub returns : goal.returns
returns c =
    let law : LowerLaws = record { asks = c.entries_ask_once_at_most.ensures; gives = c.serials_are_distinct.ensures.gives; ends = c.serials_are_distinct.ensures.ends; shown = c.identifiers_are_distinct.ensures.serials } in
    Sound-ticks law
