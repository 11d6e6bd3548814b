use Rattle.std.proofs.Common.{◌++◌, ◌∷◌, [], ◌∙◌, arith, refl, sym}
use Rattle.csv.specs.Records.{fields_of}
use Rattle.fp_records.proofs.Gathered.{so_far-end, so_far-more, so_far-refused}
use Rattle.fp_records.proofs.gathering.Gathering.read.Goals as goal

pub loop-gathering-init : goal.loop-gathering-init
loop-gathering-init c = (
  [],
  [],
  record {
    split = refl;
    place = omega arith;
    are_items = record { read = refl; all = omega arith; each = λ digits. omega arith; closed = omega arith };
    holds = record { rules = c.new.ensures; closed = c.new-2.ensures };
  },
)

pub loop-gathering-preserved : goal.loop-gathering-preserved
loop-gathering-preserved c =
    let (front, before, far) = c.loop-gathering.invariant in
    let next = rw c.in-Some.is at c.in_ok-at.ensures.next in
    let fields = fields_of c.read.new.row in (
      front ++ fields ∷ [],
      before ++ c.in-Ok.item ∷ [],
      so_far-more c.args.version c.args.records.now c.loop-gathering.records c.read.new.self c.loop-gathering.gathering c.add.new.self front before fields c.in-Ok.item far next.2 (next.1 ∙ next.0) (sym c.in-Ok.ensures.value) c.in_ok-add.ensures.added,
    )

pub returns-in-Err : goal.returns-in-Err
returns-in-Err c =
    let (front, before, far) = c.loop-gathering.invariant in
    let next = rw c.in-Some.is at c.in_ok-at.ensures.next in
    rw next.0 (so_far-refused c.args.version c.args.records.now c.loop-gathering.records c.read.new.self c.loop-gathering.gathering front before (fields_of c.read.new.row) c.in-Err.reason far next.2 (sym c.in-Err.ensures.value))

pub returns : goal.returns
returns c =
    let (front, before, far) = c.loop-gathering.invariant in
    let none = rw c.in_default.is at c.in_ok-at.ensures.next in
    (before, so_far-end c.args.version c.args.records.now c.loop-gathering.records c.loop-gathering.gathering front before far none, far.holds)
