use Rattle.fp_book.proofs.Names.{eqb-true, false, false_from_ne_true, false≢true, length, nat_eq, nil_from_length, rules, sym, ◌∙◌, ◌≡◌}
use Rattle.fp_book.proofs.rules.Facts.of_begin.Goals as goal

pub returns-then-lacks_room : goal.returns-then-lacks_room
returns-then-lacks_room c arrival = let room = c.lacks_room.ensures arrival in search rules

pub returns-then-is_empty : goal.returns-then-is_empty
returns-then-is_empty c arrival = let room = c.lacks_room.ensures arrival in search rules

pub returns : goal.returns
returns c arrival =
    let all = c.args.incoming.now.entries in
    let some : nat_eq (length all) 0 ≡ false =
    false_from_ne_true (nat_eq (length all) 0) (λ e. false≢true (sym c.if-is_empty.false ∙ c.is_empty.ensures.1 (nil_from_length all (eqb-true (length all) 0 e)))) in
    let room = c.lacks_room.ensures arrival in
    search rules
