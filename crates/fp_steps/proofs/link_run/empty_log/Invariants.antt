use Rattle.fp_steps.proofs.Names.{IsPlace, Sound, length, ◌≡◌}
use Rattle.fp_steps.proofs.link_run.empty_log.Given as goal

-- nothing but the log changes
abbrev pub invariant-loop-book : goal.invariant-loop-book
invariant-loop-book l = (l.book ≡ record l.fn.book { log = l.book.log }) × Sound l.book × IsPlace l.lines

abbrev pub decreases-loop-book : goal.decreases-loop-book
decreases-loop-book l = length l.book.log
