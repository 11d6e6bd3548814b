use Rattle.std.proofs.Common.{rules, length, refl, sym, ◌∙◌, ap}
use Rattle.fp_row.proofs.Keeping.{going, known_turn}
use Rattle.fp_row.proofs.Waiting.{out_count, waiting_put_back}
use Rattle.fp_row.specs.Row.{has_turn_out, is_closed}
use Rattle.fp_service.specs.Dialogue.{is_over}
use Rattle.fp_row.proofs.row.Row.put_back.Goals as goal

pub returns-clause-ok : goal.returns-clause-ok
returns-clause-ok c =
    let row = c.args.self.now in
    let was_out = c.if-not-is_turn_out.ensures.0 refl in
    let out = known_turn row c.args.turn was_out in
    let live = going (has_turn_out row) (is_over row.core) row.out_is_live out.is_out in
    let waiting = waiting_put_back (is_closed row.ended) (is_over row.core) row.accepted row.served row.out c.args.turn.entries live out.entries in
    let count = ap length (sym out.entries) ∙ out_count row.accepted row.served row.out row.out_within in
    search rules
