-- What the dialogue portion of a Begin opens (Q.774, receipt of a Begin; AARQ of Q.773, 4.2.3), by cases, over the
-- application context names that are accepted.
use Rattle.std.specs.Prelude.{◌≡◌, ℕ, List, Some, None, Contains}
use Rattle.std.specs.declared.option.Option.{Option}
use Rattle.fp_ber.specs.Tree.{Tree}
use Rattle.fp_apdu.specs.declared.opening.Opening.{Opening}
use Rattle.fp_apdu.specs.declared.opening.Opening.TheVariants as openings
use Rattle.fp_apdu.specs.Aarq.{IsAarq}
use Rattle.fp_apdu.specs.DialoguePortion.{dialogue_portion}
use Rattle.fp_apdu.specs.ProtocolVersion.{OffersVersion1}

-- the dialogue portion is there and has an AARQ of this protocol version and this application context name
pub record Requests (portion : Option Tree) (version : Option (List ℕ)) (name : List ℕ) : Type 0 where
  pub apdu : Tree
  pub is_portion : portion ≡ Some (dialogue_portion apdu)
  pub is_aarq : IsAarq apdu version name

abbrev pub Opens : Option Tree → List (List ℕ) → Opening → Type 0
Opens portion contexts openings.None = portion ≡ None
Opens portion contexts (openings.BadVersion name) = (version : Option (List ℕ)) × Requests portion version name × (¬ OffersVersion1 version)
Opens portion contexts (openings.Unknown name) =
    (version : Option (List ℕ)) × Requests portion version name × OffersVersion1 version × (¬ Contains contexts name)
Opens portion contexts (openings.Known name) =
    (version : Option (List ℕ)) × Requests portion version name × OffersVersion1 version × Contains contexts name
