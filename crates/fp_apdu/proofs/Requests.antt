-- What a dialogue portion requests and opens.
use Rattle.std.proofs.Common.{◌≡◌, ℕ, List, Some, Option, subst}
use Rattle.fp_ber.specs.declared.element.Class.TheVariants.{Application}
use Rattle.fp_ber.specs.Tree.{Tree, Trees, constructed, more}
use Rattle.fp_apdu.specs.declared.opening.Opening.{Opening}
use Rattle.fp_apdu.specs.declared.opening.Opening.TheVariants as openings
use Rattle.fp_apdu.specs.Aarq.{IsAarq, user_information}
use Rattle.fp_apdu.specs.BitString.{IsBitString}
use Rattle.fp_apdu.specs.DialoguePortion.{dialogue_portion}
use Rattle.fp_apdu.specs.Name.{IsName, application_context_name}
use Rattle.fp_apdu.specs.Opening.{Opens}
use Rattle.fp_apdu.specs.ProtocolVersion.{protocol_version}

-- an AARQ that has a protocol version
pub IsAarq-with_version : (apdu first : Tree) (members rest : Trees) (octets name : List ℕ) (information : Option Trees)
    → apdu ≡ constructed Application 0 members → members ≡ more first rest → first ≡ protocol_version octets
    → IsBitString octets → IsName name → rest ≡ more (application_context_name name) (user_information information)
    → IsAarq apdu (Some octets) name
IsAarq-with_version apdu first members rest octets name information is_apdu is_members is_first is_version is_name is_rest = record {
  information = information;
  is_laid_out = cc (is_apdu, is_members, is_first, is_rest);
  is_version = is_version;
  is_name = is_name;
}

-- a dialogue portion without an AARQ opens nothing
pub opens_nothing : (portion : Option Tree) (t : Tree) (contexts : List (List ℕ)) → portion ≡ Some t
    → ((apdu : Tree) (version : Option (List ℕ)) (name : List ℕ) → t ≡ dialogue_portion apdu → IsAarq apdu version name → ⊥)
    → (opening : Opening) → Opens portion contexts opening → ⊥
opens_nothing portion t contexts is n openings.None h = cc (is, h)
opens_nothing portion t contexts is n (openings.Known name) h = n h.1.apdu h.0 name (cc (is, h.1.is_portion)) h.1.is_aarq
opens_nothing portion t contexts is n (openings.Unknown name) h = n h.1.apdu h.0 name (cc (is, h.1.is_portion)) h.1.is_aarq
opens_nothing portion t contexts is n (openings.BadVersion name) h = n h.1.apdu h.0 name (cc (is, h.1.is_portion)) h.1.is_aarq

-- nor does one whose APDU is none
pub opens_nothing_without : (portion : Option Tree) (t apdu : Tree) (contexts : List (List ℕ)) → portion ≡ Some t → t ≡ dialogue_portion apdu
    → ((version : Option (List ℕ)) (name : List ℕ) → IsAarq apdu version name → ⊥)
    → (opening : Opening) → Opens portion contexts opening → ⊥
opens_nothing_without portion t apdu contexts is is_portion n opening h =
    opens_nothing portion t contexts is
    (λ other version name e aarq. let same : other ≡ apdu = cc (e, is_portion) in n version name (subst (λ x. IsAarq x version name) same aarq))
    opening h
