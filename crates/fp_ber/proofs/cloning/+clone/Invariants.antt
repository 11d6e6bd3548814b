-- The elements so far were copied.
use Rattle.std.proofs.Common.{◌≡◌, take}
use Rattle.fp_ber.specs.View.{forest_of}
use Rattle.fp_ber.proofs.cloning.+clone.Given as goal

abbrev pub invariant-clone_all-elements : goal.invariant-clone_all-elements
invariant-clone_all-elements l = forest_of l.copies.items ≡ forest_of (take l.element-index l.elements)
