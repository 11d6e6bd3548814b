use Rattle.fp_book.proofs.Names.{Left, ap, subst, sym}
use Rattle.fp_row.specs.Calls.{ServesNext, ServesTurn}
use Rattle.fp_book.proofs.Sums.{keep_after}
use Rattle.fp_book.proofs.dialogues.serve.Goals as goal

pub returns-clause-ok : goal.returns-clause-ok
returns-clause-ok c =
    let serves : ServesTurn c.args.free c.in-Some.row.now c.in-Some-2.turn c.serve_next.new.self =
    subst (λ turn. ServesNext c.args.free c.in-Some.row.now turn c.serve_next.new.self) c.in-Some-2.is c.in_ok-turn.ensures.ok in
    record {
      before = c.in-Some.row.now;
      after = c.serve_next.new.self;
      was = sym c.in-Some.ensures.value;
      does = (serves, c.of-left.ensures);
      rows = keep_after _ _ _ _ _ (ap (λ (x : Left). x.is_held) c.of-left.ensures) c.keep.ensures;
    }
