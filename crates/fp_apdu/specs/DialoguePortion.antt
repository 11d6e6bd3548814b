-- The dialogue portion of structured dialogue (Q.773, 4.2.3): tag 6B around an EXTERNAL (X.690, 8.18), whose direct
-- reference names the abstract syntax of dialogue APDUs and whose encoding is one APDU as a single ASN.1 type.
use Rattle.std.specs.Prelude.{ℕ, List, [], ◌∷◌}
use Rattle.fp_ber.specs.declared.element.Class.TheVariants.{Universal, Application, Context}
use Rattle.fp_ber.specs.Tree.{Tree, constructed, none, more}
use Rattle.fp_apdu.specs.ObjectIdentifier.{object_identifier}

-- {itu-t recommendation q 773 as(1) dialogue-as(1) version1(1)}, which is 0.0.17.773.1.1.1
abbrev pub dialogue_as : List ℕ
dialogue_as = 0x00 ∷ 0x11 ∷ 0x86 ∷ 0x05 ∷ 0x01 ∷ 0x01 ∷ 0x01 ∷ []

-- the EXTERNAL, tag 28: the direct reference, and the APDU in tag A0
abbrev pub external : Tree → Tree
external apdu = constructed Universal 8 (more (object_identifier dialogue_as) (more (constructed Context 0 (more apdu none)) none))

abbrev pub dialogue_portion : Tree → Tree
dialogue_portion apdu = constructed Application 11 (more (external apdu) none)
