use Rattle.fp_book.proofs.Names.{arith, shelf_of}
use Rattle.fp_book.proofs.Busy.{place_busy, ready_busy}
use Rattle.fp_book.proofs.book.Book.has_busy.Goals as goal

-- a place is held
pub returns-then-place_count-gt0 : goal.returns-then-place_count-gt0
returns-then-place_count-gt0 c =
    place_busy (shelf_of c.self.inside) c.args.self.now c.self.invariant.sound c.self.view_is c.places_held-place_count.result
    c.places_held-place_count.ensures (omega (arith, c.if-place_count-gt0.true))

-- none is
pub returns-else-place_count-gt0 : goal.returns-else-place_count-gt0
returns-else-place_count-gt0 c =
    ready_busy (shelf_of c.self.inside) c.args.self.now c.self.invariant.sound c.self.view_is c.places_held-place_count.result
    c.len-ready_count.result c.places_held-place_count.ensures (omega (arith, c.if-place_count-gt0.false)) c.len-ready_count.ensures.count
