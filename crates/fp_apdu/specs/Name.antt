-- The application context name of AARQ and AARE (Q.773, 4.2.3): tag A1 around an object identifier.
use Rattle.std.specs.Prelude.{ℕ, ◌≤◌, List, length}
use Rattle.fp_ber.specs.declared.element.Class.TheVariants.{Context}
use Rattle.fp_ber.specs.Tree.{Tree, constructed, none, more}
use Rattle.fp_apdu.specs.ObjectIdentifier.{object_identifier}

-- these octets may be a name
abbrev pub IsName : List ℕ → Type 0
IsName octets = (1 ≤ length octets) × (length octets ≤ 64)

abbrev pub application_context_name : List ℕ → Tree
application_context_name name = constructed Context 1 (more (object_identifier name) none)
