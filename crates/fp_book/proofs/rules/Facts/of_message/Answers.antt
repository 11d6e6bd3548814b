use Rattle.fp_book.proofs.Names.{rules}
use Rattle.fp_book.proofs.rules.Facts.of_message.Goals as goal

pub returns-in-Begin : goal.returns-in-Begin
returns-in-Begin c arrival = let of_it = c.of_begin.ensures arrival in search rules

pub returns-in-Continue : goal.returns-in-Continue
returns-in-Continue c arrival = let of_it = c.of_more.ensures arrival in search rules

pub returns-in-End : goal.returns-in-End
returns-in-End c arrival = let of_it = c.of_more-in-End.ensures arrival in search rules
