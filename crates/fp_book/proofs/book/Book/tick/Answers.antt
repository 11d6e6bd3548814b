use Rattle.fp_book.proofs.Names.{Inside, Ticks, ap, is_full, shelf_of, sym, ◌+◌, ◌∙◌}
use Rattle.fp_book.proofs.Kept.{Leaves, leaves}
use Rattle.fp_book.proofs.Ticks.{none_ticks, ticks}
use Rattle.fp_book.proofs.book.Book.tick.Goals as goal

-- the parts of the book then
abbrev after : goal.After-log_tick → Inside
after c = record c.self.inside {
  entries = c.self.inside.entries + c.from.result;
  rows = c.clock_all-ticked.new.rows;
  deadlines = c.clock_all-ticked.new.deadlines;
  ready = c.clock_all-ticked.new.ready;
  log = c.log_tick.new.log;
}

ticked : (c : goal.After-log_tick) → Leaves (after c) (Ticks (shelf_of c.self.inside) c.args.moment c.clock_all-ticked.result.added c.clock_all-ticked.result.wanting)
ticked c =
    let s = shelf_of c.self.inside in
    let to = c.clock_all-ticked.result in
    let clocks = c.clock_all-ticked.ensures.clocks in
    leaves (after c) s.gone (Ticks s c.args.moment to.added to.wanting)
    (λ then does. c.clocks_keep_a_book_sound.ensures s then c.args.moment to.added to.wanting c.self.invariant.sound does)
    (rw c.from.ensures (ticks s c.args.moment to.added to.wanting c.clock_all-ticked.new.rows c.clock_all-ticked.new.deadlines c.clock_all-ticked.new.ready c.log_tick.new.log
    (ap is_full c.self.view_is ∙ sym c.if-is_full.ensures) clocks c.clock_all-ticked.ensures.wanting c.log_tick.ensures))
    c.self.invariant.links (c.self.invariant.turns ∙ sym clocks.turns) clocks.agreed.timed

pub returns-then-is_full-clause-ticks : goal.returns-then-is_full-clause-ticks
returns-then-is_full-clause-ticks c = none_ticks c.args.self.now c.args.moment (sym c.if-is_full.ensures)

pub invariant_of-self : goal.invariant_of-self
invariant_of-self c = (ticked c).kept

pub returns : goal.returns
returns c = record { ticks = rw (← c.self.view_is) (ticked c).is; sound = (ticked c).kept.sound }
