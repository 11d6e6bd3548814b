use Rattle.fp_book.proofs.Names.{HandsOut, subst, sym}
use Rattle.fp_row.specs.Calls.{Takes}
use Rattle.fp_book.proofs.Sums.{put_held}
use Rattle.fp_book.proofs.Turns.{held_out, taken_out}
use Rattle.fp_book.proofs.dialogues.take.Goals as goal

pub returns-clause-ok : goal.returns-clause-ok
returns-clause-ok c =
    let takes : HandsOut c.args.free c.in-Some.row.now c.in-Some-2.turn c.take.new.self = subst (λ taken. Takes c.args.free c.in-Some.row.now taken c.take.new.self) c.in-Some-2.is c.in_ok-turn.ensures.ok in
    record {
      before = c.in-Some.row.now;
      after = c.take.new.self;
      was = sym c.in-Some.ensures.value;
      does = takes;
      rows = put_held _ _ _ (held_out c.take.new.self (taken_out c.args.free c.in-Some.row.now c.in-Some-2.turn c.take.new.self takes));
    }
