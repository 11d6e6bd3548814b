-- One thing fewer is left.
use Rattle.cases_links.proofs.held.abandon_all.Given as goal

abbrev pub decreases-loop-named : goal.decreases-loop-named
decreases-loop-named l = goal.left-loop-named l
