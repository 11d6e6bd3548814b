-- The elements from the index on were put.
use Rattle.std.proofs.Common.{◌≤◌, length, drop}
use Rattle.fp_ber.specs.View.{forest_of}
use Rattle.fp_ber.specs.Canon.{canon_of_all, Puts}
use Rattle.fp_ber.proofs.writing.+write.Given as goal

abbrev pub invariant-put_all-elements : goal.invariant-put_all-elements
invariant-put_all-elements l = record {
  within : l.index ≤ length l.elements;
  so_far : Puts (canon_of_all (forest_of (drop l.index l.elements))) l.initial.out l.out l.start l.end;
}

abbrev pub decreases-put_all-elements : goal.decreases-put_all-elements
decreases-put_all-elements l = l.index
