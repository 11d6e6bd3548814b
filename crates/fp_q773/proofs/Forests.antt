-- Elements, where there are some.
use Rattle.std.proofs.Common.{◌≡◌, false}
use Rattle.fp_ber.specs.Tree.{Trees, none, more, are_none}

-- elements of which there are some are not none
pub some_trees : (ts : Trees) → are_none ts ≡ false → ts ≡ none → ⊥
some_trees none some is = cc
some_trees (more t ts) some is = cc
