use Rattle.fp_book.proofs.Names.{arith, shelf_of}
use Rattle.fp_book.proofs.Kept.{few_entries}
use Rattle.fp_book.proofs.book.Book.entry_count.Goals as goal

-- the entries that are kept are among those that the link accepted
pub entry_count-requires : goal.entry_count-requires
entry_count-requires c =
    let sound = c.self.invariant.sound in
    omega (arith, sound.all_entries, few_entries (shelf_of c.self.inside) sound)
