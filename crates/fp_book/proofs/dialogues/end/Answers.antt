use Rattle.fp_book.proofs.Names.{sym}
use Rattle.fp_book.proofs.Closes.{dropped_at}
use Rattle.fp_book.proofs.Sums.{keep_after}
use Rattle.fp_book.proofs.dialogues.end.Goals as goal

pub returns-clause-ends : goal.returns-clause-ends
returns-clause-ends c = record {
  before = c.in-Some.row.now;
  after = c.end-frames.new.self;
  was = sym c.in-Some.ensures.value;
  does = (c.end-frames.ensures.ends, c.is_held-is_held.ensures);
  rows = keep_after _ _ _ _ _ c.is_held-is_held.ensures c.keep.ensures;
}

pub returns-clause-dropped : goal.returns-clause-dropped
returns-clause-dropped c =
    dropped_at _ c.args.ending c.args.is_sending c.in-Some.row.now c.end-frames.new.self _ (sym c.in-Some.ensures.value) c.end-frames.ensures.ends
    c.is_ready-was_ready.ensures c.end-frames.ensures.drops
