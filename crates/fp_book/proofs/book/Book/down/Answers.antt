use Rattle.fp_book.proofs.Kept.{Leaves}
use Rattle.fp_book.proofs.Downs.{down_book, gone_down}
use Rattle.fp_book.specs.declared.line.LoggedStep.TheVariants as line
use Rattle.fp_book.proofs.Names.{GoesDown, shelf_of}
use Rattle.fp_book.proofs.book.Book.down.Goals as goal

leaves : (c : goal.After-add) → Leaves (down_book c.self.inside c.close_all.new.rows c.close_all.new.deadlines c.clear.new.self c.clear-2.new.self c.add.new.self)
    (λ new. GoesDown c.self.inside.outbox.out (shelf_of c.self.inside) line.Down new)
leaves c =
    gone_down c.self.inside c.self.inside.outbox.out line.Down c.close_all.new.rows c.close_all.new.deadlines c.clear.new.self c.clear-2.new.self c.add.new.self
    (λ new down. c.going_down_keeps_a_book_sound.ensures.down (shelf_of c.self.inside) new c.self.invariant.sound down) c.self.invariant c.close_all.ensures.closes c.close_all.ensures.timed
    c.clear.ensures c.clear-2.ensures c.add.ensures

pub invariant_of-self : goal.invariant_of-self
invariant_of-self c = (leaves c).kept

pub returns : goal.returns
returns c = record { down = rw (← c.self.view_is) (leaves c).is; sound = (leaves c).kept.sound }
