use Rattle.std.proofs.Common.{◌++◌}
use Rattle.csv.specs.Records.{fields_of}
use Rattle.fp_records.proofs.Places.{field_within}
use Rattle.fp_lint.specs.Faults.{destination_faults}
use Rattle.fp_lint.proofs.Loops.{next-destination, no-destination}
use Rattle.fp_lint.proofs.faults.destination_faults.Goals as goal

pub returns-in_default : goal.returns-in_default
returns-in_default c = absurd (field_within (fields_of c.args.row.now) c.loop-place.place (rw c.len-place-end.ensures at c.loop-place-test.true) (rw c.in_default.is at c.get.ensures.value))

pub loop-place-preserved : goal.loop-place-preserved
loop-place-preserved c =
    let fields = fields_of c.args.row.now in
    let there = rw c.in-Some.is at c.get.ensures.value in
    next-destination c.args.at c.loop-place.place fields c.in-Some.text.now c.loop-place.faults.items c.push_unless.new.faults.items
    (c.args.faults.now.items ++ destination_faults c.args.at fields) there c.loop-place.invariant (rw c.in_ok-is_good.ensures at c.in_ok-push_unless.ensures)

pub returns : goal.returns
returns c =
    let fields = fields_of c.args.row.now in
    no-destination c.args.at c.loop-place.place fields c.loop-place.faults.items (c.args.faults.now.items ++ destination_faults c.args.at fields) (rw c.len-place-end.ensures at c.loop-place-test.false) c.loop-place.invariant
