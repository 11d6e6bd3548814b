-- Whole elements so far, at most so many inside each other. What is left gets shorter.
use Rattle.std.proofs.Common.{◌+◌, ◌*◌, length}
use Rattle.fp_ber.specs.View.{forest_of}
use Rattle.fp_ber.specs.Spelling.{BeginAll}
use Rattle.fp_ber.proofs.reading.+read.Given as goal

abbrev pub decreases-element_at : goal.decreases-element_at
decreases-element_at l = 2 * l.depth

abbrev pub decreases-elements_of : goal.decreases-elements_of
decreases-elements_of l = 2 * l.depth + 1

abbrev pub decreases-elements_to_end : goal.decreases-elements_to_end
decreases-elements_to_end l = 2 * l.depth + 1

abbrev pub invariant-elements_of-children : goal.invariant-elements_of-children
invariant-elements_of-children l = BeginAll l.depth l.contents (forest_of l.children.items) l.rest

abbrev pub decreases-elements_of-children : goal.decreases-elements_of-children
decreases-elements_of-children l = length l.rest

abbrev pub invariant-elements_to_end-children : goal.invariant-elements_to_end-children
invariant-elements_to_end-children l = BeginAll l.depth l.octets (forest_of l.children.items) l.rest

abbrev pub decreases-elements_to_end-children : goal.decreases-elements_to_end-children
decreases-elements_to_end-children l = length l.rest
