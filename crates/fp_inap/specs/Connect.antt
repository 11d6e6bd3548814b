-- The argument of Connect, after ITU-T Q.1218, as an element: a sequence that holds
-- destinationRoutingAddress, and that one called party number.
use Rattle.std.specs.Prelude.{ℕ, List}
use Rattle.fp_ber.specs.declared.element.Class.TheVariants.{Universal, Context}
use Rattle.fp_ber.specs.Tree.{Tree, primitive, constructed, none, more}
use Rattle.fp_digits.specs.Called.{called_octets}

abbrev pub connect : List ℕ → Tree
connect digits =
    constructed Universal 16 (more (constructed Context 0 (more (primitive Universal 4 (called_octets digits)) none)) none)
