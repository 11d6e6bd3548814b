use Rattle.fp_book.proofs.Grows.{opened_at}
use Rattle.fp_book.proofs.dialogues.open.Goals as goal

-- the new dialogue is among the others
pub returns-clause-ok : goal.returns-clause-ok
returns-clause-ok c =
    let taken = c.in_ok-accept.ensures.ok in
    rw (c.in_ok-add.ensures.ok, c.of-left.ensures) (opened_at _ _ _ _ _ _ _ _ _ c.open-opened.ensures taken.0 taken.1)
