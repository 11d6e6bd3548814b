-- An event that is wrong, or isn't there, is that of no report.
use Rattle.std.proofs.Common.{[], ◌∷◌, Some}
use Rattle.std.proofs.lemmas.Result.{err_from_is_err_and}
use Rattle.fp_inap.proofs.Arguments.{event_member, event_octets}
use Rattle.fp_inap.proofs.event_report.event_report_of.Goals as goal

pub returns-in_err-octets-clause-err : goal.returns-in_err-octets-clause-err
returns-in_err-octets-clause-err c =
    let p = err_from_is_err_and c.from_residual-in_err-octets.result c.from_residual-in_err-octets.ensures.1 in
    rw p.1 (λ report is. c.in_err-octets.ensures.err (Some (is.event ∷ [])) (event_member _ _ report c.in_ok-members.ensures.ok is))

pub returns-in_err-event-clause-err : goal.returns-in_err-event-clause-err
returns-in_err-event-clause-err c =
    let p = err_from_is_err_and c.from_residual-in_err-event.result c.from_residual-in_err-event.ensures.1 in
    rw p.1 (λ report is. c.in_err-event.ensures.err (Some is.event) (event_octets _ _ _ report c.in_ok-members.ensures.ok c.in_ok-octets.ensures.ok is))
