use Rattle.std.proofs.Common.{refl, string_bytes}
use Rattle.fp_replay.proofs.Taken.{halts, reported, unreported_if, whole}
use Rattle.fp_replay.proofs.replaying.Replaying.report_of.Goals as goal

pub returns-in-Ok-clause-replayed : goal.returns-in-Ok-clause-replayed
returns-in-Ok-clause-replayed g c =
    let f = c.in-Ok.ensures.follows in
    let w = whole c.args.self.now.tables.now c.args.self.now.contexts.now _ _ _ (record { tables_are = refl; names = refl }) c.requires.none f.lines in
    reported _ _ _ _ _ _ w f.consumed f.stop.end string_bytes c.report.result c.report.ensures.some c.report.ensures.report

pub returns-in-Ok-clause-halted : goal.returns-in-Ok-clause-halted
returns-in-Ok-clause-halted g c =
    let f = c.in-Ok.ensures.follows in
    let w = whole c.args.self.now.tables.now c.args.self.now.contexts.now _ _ _ (record { tables_are = refl; names = refl }) c.requires.none f.lines in
    unreported_if _ _ _ _ _ _ w f.consumed f.stop.end c.report.result c.report.ensures.fault

pub returns-in-Err-clause-halted : goal.returns-in-Err-clause-halted
returns-in-Err-clause-halted g c =
    let f = c.in-Err.ensures.follows in
    rw c.fault_of.ensures
    (halts c.args.self.now.tables.now c.args.self.now.contexts.now _ _ _ _ _ (record { tables_are = refl; names = refl }) c.requires.none f.consumed c.in-Err.fault f.lines)
