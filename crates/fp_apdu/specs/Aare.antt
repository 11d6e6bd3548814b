-- The answer to a request for a dialogue, AARE (Q.773, 4.2.3): tag 61.
use Rattle.std.specs.Prelude.{ℕ, List, [], ◌∷◌}
use Rattle.fp_ber.specs.declared.element.Class.TheVariants.{Universal, Application, Context}
use Rattle.fp_ber.specs.Tree.{Tree, primitive, constructed, none, more}
use Rattle.fp_apdu.specs.declared.verdict.Verdict.{Verdict}
use Rattle.fp_apdu.specs.Name.{application_context_name}
use Rattle.fp_apdu.specs.ProtocolVersion.{protocol_version, version_1}
use Rattle.fp_apdu.specs.Verdict.{associate_result, source, diagnostic}

-- an integer of one octet
abbrev pub integer : ℕ → Tree
integer octet = primitive Universal 2 (octet ∷ [])

-- version 1, the name, the result in tag A2, and in tag A3 the diagnostic in the tag of its source
abbrev pub aare : List ℕ → Verdict → Tree
aare name verdict = constructed Application 1
    (more (protocol_version version_1)
    (more (application_context_name name)
    (more (constructed Context 2 (more (integer (associate_result verdict)) none))
    (more (constructed Context 3 (more (constructed Context (source verdict) (more (integer (diagnostic verdict)) none)) none))
    none))))
