use Rattle.std.proofs.Common.{refl}
use Rattle.csv.specs.Records.{fields_of}
use Rattle.fp_records.proofs.WholeText.{read-next, read-none}
use Rattle.fp_lint.proofs.rows.RowReader.read.Goals as goal

pub returns-then-not-found : goal.returns-then-not-found
returns-then-not-found c =
    let at = rw c.if-self.false at c.self.invariant in
    let read = rw c.if-not-found.true at (c.in-Ok.ensures.reads at.trim at.ready) in
    rw (← c.self.view_is, c.if-self.false) (read-none c.self.inside.reader c.read_byte_record.new.self (fields_of c.read_byte_record.new.row) c.self.inside.place at read)

pub invariant_of-self-2 : goal.invariant_of-self-2
invariant_of-self-2 c =
    let at = rw c.if-self.false at c.self.invariant in
    let read = rw c.if-not-found.false at (c.in-Ok.ensures.reads at.trim at.ready) in
    (read-next c.self.inside.reader c.read_byte_record.new.self (fields_of c.read_byte_record.new.row) c.self.inside.place at read (c.in-Ok.ensures.ready at.trim)).1

pub returns : goal.returns
returns c =
    let at = rw c.if-self.false at c.self.invariant in
    let read = rw c.if-not-found.false at (c.in-Ok.ensures.reads at.trim at.ready) in
    let next = read-next c.self.inside.reader c.read_byte_record.new.self (fields_of c.read_byte_record.new.row) c.self.inside.place at read (c.in-Ok.ensures.ready at.trim) in
    rw (← c.self.view_is, c.if-self.false) (refl, refl, next.0)
