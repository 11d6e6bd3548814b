use Rattle.std.proofs.Common.{◌++◌, ◌∷◌, [], append_assoc, append-nil, ap, sym, ◌∙◌}
use Rattle.csv.specs.Records.{fields_of}
use Rattle.fp_records.specs.Migration.{text_of}
use Rattle.fp_records.proofs.Migrating.{text_of-more}
use Rattle.fp_records.proofs.migration.put_others.Goals as goal

pub loop-writer-preserved : goal.loop-writer-preserved
loop-writer-preserved c =
    let (front, split, written) = c.loop-writer.invariant in
    let next = rw c.in-Some.is at c.in_ok-read.ensures.next in
    let fields = fields_of c.read.new.row in (
      front ++ fields ∷ [],
      split ∙ (ap (λ left. front ++ left) next.2 ∙ sym (append_assoc front (fields ∷ []) c.read.new.self.rows)),
      λ text has. rw (text_of-more text front fields) at (c.in_ok-put.ensures (text ++ text_of front) (written text has)),
    )

pub returns : goal.returns
returns c = λ text has.
    let (front, split, written) = c.loop-writer.invariant in
    let none = rw c.in_default.is at c.in_ok-read.ensures.next in
    rw (split ∙ ap (λ left. front ++ left) none ∙ append-nil front) (written text has)
