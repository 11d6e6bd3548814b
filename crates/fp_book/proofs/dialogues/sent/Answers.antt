use Rattle.fp_book.proofs.Names.{get, sym}
use Rattle.fp_book.proofs.Closes.{one_sent}
use Rattle.fp_book.proofs.Sums.{keep_after}
use Rattle.fp_book.proofs.dialogues.sent.Goals as goal

pub returns : goal.returns
returns c = record {
  before = c.in-Some.row.now;
  after = c.sent.new.self;
  was = sym c.in-Some.ensures.value;
  does = (one_sent c.sent.result c.in-Some.row.now c.sent.new.self (get c.args.rows.now c.args.local) (sym c.in-Some.ensures.value) c.requires c.sent.ensures, c.is_held-is_held.ensures);
  rows = keep_after _ _ _ _ _ c.is_held-is_held.ensures c.keep.ensures;
}
