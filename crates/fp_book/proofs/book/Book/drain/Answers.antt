use Rattle.fp_book.proofs.Posts.{Sound-logs}
use Rattle.fp_book.proofs.Names.{shelf_of}
use Rattle.fp_book.proofs.book.Book.drain.Goals as goal

-- but for the log all stays
pub invariant_of-self : goal.invariant_of-self
invariant_of-self c = record {
  sound = Sound-logs (shelf_of c.self.inside) c.drain.new.self c.self.invariant.sound;
  links = c.self.invariant.links;
  turns = c.self.invariant.turns;
  timed = c.self.invariant.timed;
}

pub returns-clause-sound : goal.returns-clause-sound
returns-clause-sound c = Sound-logs (shelf_of c.self.inside) c.drain.new.self c.self.invariant.sound
