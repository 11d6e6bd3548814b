use Rattle.std.proofs.Common.{rules, not}
use Rattle.fp_row.proofs.Keeping.{frames_stay, ready_stays, turn_stays}
use Rattle.fp_row.proofs.Waiting.{waiting_grown}
use Rattle.fp_row.specs.Row.{has_turn_out, is_closed}
use Rattle.fp_service.specs.Dialogue.{is_over}
use Rattle.fp_row.proofs.row.Row.accept_clock.Goals as goal

pub returns-clause-ok : goal.returns-clause-ok
returns-clause-ok c =
    let row = c.args.self.now in
    let grown = c.in_ok-push.ensures.ok in
    let frames = frames_stay row _ _ grown in
    let turn = turn_stays row _ _ grown in
    let waiting = waiting_grown row.ended (is_over row.core) row.accepted _ _ row.served row.out row.out_within grown in
    let ready = ready_stays (not (has_turn_out row)) (not (is_closed row.ended)) (not (is_over row.core)) row.served row.accepted _ _ grown in
    (search rules, search (rules, waiting, ready))
