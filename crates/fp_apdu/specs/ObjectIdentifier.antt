-- An object identifier (X.690, 8.19) of these contents octets.
use Rattle.std.specs.Prelude.{ℕ, List}
use Rattle.fp_ber.specs.declared.element.Class.TheVariants.{Universal}
use Rattle.fp_ber.specs.Tree.{Tree, primitive}

abbrev pub object_identifier : List ℕ → Tree
object_identifier octets = primitive Universal 6 octets
