-- The request for a dialogue, AARQ (Q.773, 4.2.3): tag 60.
use Rattle.std.specs.Prelude.{◌≡◌, ℕ, List, Some, None, IfSome}
use Rattle.std.specs.declared.option.Option.{Option}
use Rattle.fp_ber.specs.declared.element.Class.TheVariants.{Application, Context}
use Rattle.fp_ber.specs.Tree.{Tree, Trees, constructed, none, more}
use Rattle.fp_apdu.specs.BitString.{IsBitString}
use Rattle.fp_apdu.specs.Name.{IsName, application_context_name}
use Rattle.fp_apdu.specs.ProtocolVersion.{protocol_version}

-- the members with the protocol version in front, if there is one
abbrev pub with_version : Option (List ℕ) → Trees → Trees
with_version None members = members
with_version (Some octets) members = more (protocol_version octets) members

-- the user information, tag BE, if there is one
abbrev pub user_information : Option Trees → Trees
user_information None = none
user_information (Some contents) = more (constructed Context 30 contents) none

-- an AARQ of this protocol version and this application context name, whatever its user information
pub record IsAarq (apdu : Tree) (version : Option (List ℕ)) (name : List ℕ) : Type 0 where
  pub information : Option Trees
  pub is_laid_out : apdu ≡ constructed Application 0 (with_version version (more (application_context_name name) (user_information information)))
  pub is_version : IfSome version IsBitString
  pub is_name : IsName name
