-- The octets of the elements so far, and those of the elements from here on.
use Rattle.std.proofs.Common.{◌≡◌, ◌<◌, ◌+◌, ◌^◌, length, drop}
use Rattle.fp_ber.specs.View.{forest_of}
use Rattle.fp_ber.specs.Canon.{canon_of_all, AllHaveLengths}
use Rattle.fp_ber.proofs.writing.+size.Given as goal

abbrev pub invariant-size_of_all-elements : goal.invariant-size_of_all-elements
invariant-size_of_all-elements l = record {
  so_far : l.size + length (canon_of_all (forest_of (drop l.element-index l.elements))) ≡ length (canon_of_all (forest_of l.elements));
  lengths : AllHaveLengths (forest_of (drop l.element-index l.elements));
  fits : length (canon_of_all (forest_of l.elements)) < 2 ^ 32;
}
