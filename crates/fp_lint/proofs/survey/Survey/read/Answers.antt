use Rattle.fp_records.specs.File.{records_of}
use Rattle.fp_lint.proofs.AllFaults.{Said, found-all, found-first, found-none}
use Rattle.fp_lint.proofs.survey.Survey.read.Goals as goal

pub returns-clause-all : goal.returns-clause-all
returns-clause-all c =
    let said : Said (records_of c.args.text.now) c.read-answer.result = record { reads = c.read-answer.ensures.answer; file = c.read-answer.ensures.file; fault = c.read-answer.ensures.fault } in
    let found = rw (c.as_slice.ensures.value, c.in_ok-rows.ensures) at c.in_ok-faults.ensures in
    found-all (records_of c.args.text.now) c.read-answer.result c.in_ok-faults.faults.items said found

pub returns-clause-first : goal.returns-clause-first
returns-clause-first c at reason first =
    let said : Said (records_of c.args.text.now) c.read-answer.result = record { reads = c.read-answer.ensures.answer; file = c.read-answer.ensures.file; fault = c.read-answer.ensures.fault } in
    let found = rw (c.as_slice.ensures.value, c.in_ok-rows.ensures) at c.in_ok-faults.ensures in
    found-first (records_of c.args.text.now) c.read-answer.result c.in_ok-faults.faults.items said found at reason first

pub returns-clause-none : goal.returns-clause-none
returns-clause-none c file is =
    let said : Said (records_of c.args.text.now) c.read-answer.result = record { reads = c.read-answer.ensures.answer; file = c.read-answer.ensures.file; fault = c.read-answer.ensures.fault } in
    let found = rw (c.as_slice.ensures.value, c.in_ok-rows.ensures) at c.in_ok-faults.ensures in
    found-none (records_of c.args.text.now) c.read-answer.result c.in_ok-faults.faults.items said found file is
