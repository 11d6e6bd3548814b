use Rattle.fp_book.proofs.Names.{refl, shelf_of, ◌∙◌}
use Rattle.fp_book.specs.declared.log.TheConstants.Log.{MOST}
use Rattle.fp_book.proofs.Accounts.{all_exchanged}
use Rattle.fp_book.proofs.Posts.{Sound-logs}
use Rattle.fp_book.proofs.book.Book.exchange_log.Goals as goal

-- but for the log all stays
pub invariant_of-self : goal.invariant_of-self
invariant_of-self c = record {
  sound = Sound-logs (shelf_of c.self.inside) c.exchange.new.self c.self.invariant.sound;
  links = c.self.invariant.links;
  turns = c.self.invariant.turns;
  timed = c.self.invariant.timed;
}

-- all lines go out, and none comes in
pub returns-clause-drains : goal.returns-clause-drains
returns-clause-drains c =
    let out = all_exchanged c.self.inside.link c.self.inside.log c.exchange.new.self c.exchange.new.other MOST c.exchange.ensures.most c.exchange.ensures.there (c.exchange.ensures.here ∙ c.requires.empty) in
    rw (← c.self.view_is) record { drains = out; new_is = refl }

pub returns-clause-sound : goal.returns-clause-sound
returns-clause-sound c = Sound-logs (shelf_of c.self.inside) c.exchange.new.self c.self.invariant.sound
