use Rattle.fp_steps.proofs.Names.{Shelf, ap, refl, ◌∙◌}
use Rattle.fp_steps.proofs.link_run.empty_log.Goals as goal

pub loop-book-init : goal.loop-book-init
loop-book-init c = (refl, c.requires.sound, c.requires.place)

pub loop-book-preserved : goal.loop-book-preserved
loop-book-preserved c = (
  c.take_line.ensures.rest ∙ ap (λ (s : Shelf). record s { log = c.take_line.new.book.log }) c.loop-book.invariant.0,
  c.take_line.ensures.sound,
  c.take_line.ensures.place,
)
