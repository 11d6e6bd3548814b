use Rattle.fp_book.proofs.Names.{Extends, Grows, drops_frames, refl, sym, ◌&&◌, ◌≡◌}
use Rattle.fp_book.proofs.Closes.{drops_ended, drops_of}
use Rattle.fp_book.proofs.Grows.{extended_by}
use Rattle.fp_book.proofs.Sums.{keep_after}
use Rattle.fp_book.proofs.dialogues.extend.Goals.{then-ends, else-ends}
use Rattle.fp_book.proofs.dialogues.extend.Goals as goal

-- the dialogue has the entries after its others, if there was memory
extends : (c : goal.After-keep) → Extends c.in-Some.row.now c.args.entries c.accept.new.self
extends c =
    let taken = c.in_ok-accept.ensures.ok in
    extended_by c.args.rows.now c.args.local c.in-Some.row.now c.accept.new.self c.args.entries c.in_ok-accept.field-0 (sym c.in-Some.ensures.value) c.requires taken.0 taken.1

-- and then its peer ends it, or not
grows : (c : goal.After-keep) → Grows c.args.entries c.args.ends c.args.is_sending c.in-Some.row.now c.if-ends.row
grows c =
    elim c.if-ends.branch [
      | then-ends w ↦ rw (w.if-ends.true, w.row-is) (c.accept.new.self, extends c, w.end-drops_frames.ensures.ends)
      | else-ends w ↦ rw (w.if-ends.false, w.row-is) (extends c)
    ]

pub returns-clause-ok : goal.returns-clause-ok
returns-clause-ok c = record {
  before = c.in-Some.row.now;
  after = c.if-ends.row;
  was = sym c.in-Some.ensures.value;
  does = (grows c, rw (c.birth.ensures, c.is_held.ensures, c.has_become_ready.ensures, c.is_ready-was_ready.ensures, c.deadline.ensures) refl);
  rows = keep_after _ _ _ _ _ c.is_held.ensures c.keep.ensures;
}

-- whether frames of it are dropped
drops : (c : goal.After-keep) → c.if-ends.drops_frames ≡ (c.args.ends && drops_frames c.in-Some.row.now c.args.is_sending)
drops c =
    elim c.if-ends.branch [
      | then-ends w ↦ rw (w.if-ends.true, w.drops_frames-is) (drops_ended _ _ _ _ _ _ _ (extends c) w.end-drops_frames.ensures.ends w.end-drops_frames.ensures.drops)
      | else-ends w ↦ rw (w.if-ends.false, w.drops_frames-is) refl
    ]

pub returns-clause-drops : goal.returns-clause-drops
returns-clause-drops c = drops_of _ c.in-Some.row.now _ _ _ (sym c.in-Some.ensures.value) (drops c)
