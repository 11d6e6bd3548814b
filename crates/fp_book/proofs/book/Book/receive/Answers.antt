use Rattle.fp_book.proofs.Names.{Discard, Refuse, refl, sym, ◌∙◌}
use Rattle.fp_book.proofs.Counts.{receipt_away}
use Rattle.fp_book.proofs.book.Book.receive.Goals as goal

pub returns-in-Refuse : goal.returns-in-Refuse
returns-in-Refuse c =
    rw c.not_accepted.ensures (receipt_away (Refuse c.in-Refuse.cause c.in-Refuse.closes) c.args.self.now c.refuse.new.self c.args.came c.refuse.result (sym c.requires ∙ c.in-Refuse.is) refl c.refuse.ensures)

pub returns-in-Discard : goal.returns-in-Discard
returns-in-Discard c =
    rw c.not_accepted-in-Discard.ensures (receipt_away Discard c.args.self.now c.discard.new.self c.args.came c.discard.result (sym c.requires ∙ c.in-Discard.is) refl c.discard.ensures)
