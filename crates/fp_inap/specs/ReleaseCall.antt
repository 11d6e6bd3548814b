-- The argument of ReleaseCall, after ITU-T Q.1218, as an element: an octet string with a cause of Q.763.
use Rattle.std.specs.Prelude.{◌+◌, [], ◌∷◌}
use Rattle.fp_ber.specs.declared.element.Class.TheVariants.{Universal}
use Rattle.fp_ber.specs.Tree.{Tree, primitive}
use Rattle.fp_digits.specs.Cause.{cause_value}
use Rattle.fp_digits.specs.declared.cause_value.Cause.{Cause}

abbrev pub release_call : Cause → Tree
release_call cause = primitive Universal 4 (0x82 ∷ (0x80 + cause_value cause) ∷ [])
