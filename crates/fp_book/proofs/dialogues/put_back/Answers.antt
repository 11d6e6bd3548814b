use Rattle.fp_book.proofs.Names.{Left, ap, keep, sym, ◌∙◌}
use Rattle.std.specs.FinMap as map
use Rattle.fp_book.proofs.Sums.{keep_after}
use Rattle.fp_book.proofs.dialogues.put_back.Goals as goal

pub returns-clause-ok : goal.returns-clause-ok
returns-clause-ok c = record {
  before = c.in-Some.row.now;
  after = c.put_back.new.self;
  was = ap (map.get c.args.rows.now) (sym c.local-local.ensures) ∙ sym c.in-Some.ensures.value;
  does = (c.in-Ok.ensures.ok, c.of-left.ensures);
  rows = keep_after _ _ _ _ _ (ap (λ (x : Left). x.is_held) c.of-left.ensures) c.keep.ensures ∙ ap (λ l. keep c.args.rows.now l c.put_back.new.self) c.local-local.ensures;
}
