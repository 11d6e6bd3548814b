-- The kind and the identifiers of a message.
use Rattle.std.proofs.Common.{◌≡◌, ℕ, List, Option, Some, None, option_map, refl, subst}
use Rattle.fp_q773.specs.declared.kind.Kind.{Kind}
use Rattle.fp_q773.specs.Ids.{AreIds}
use Rattle.fp_q773.specs.Tid.{octets_of}
use Rattle.fp_adaptor.specs.History.{IsRead, Message}

abbrev pub message_of : List ℕ → Kind → Option (List ℕ) → Option (List ℕ) → Message
message_of octets kind originating destination =
    record { octets = octets; kind = kind; originating = originating; destination = destination }

-- an identifier is its octets
as_octets : (identifier : Option (List ℕ)) → option_map octets_of identifier ≡ identifier
as_octets None = refl
as_octets (Some identifier) = refl

pub is_read : (octets octets' : List ℕ) (kind : Kind) (originating destination : Option (List ℕ)) → octets ≡ octets'
    → AreIds octets kind (option_map octets_of originating) (option_map octets_of destination)
    → IsRead octets' (message_of octets kind originating destination)
is_read octets octets' kind originating destination same are = (
  same,
  subst (λ o. AreIds octets kind o destination) (as_octets originating)
      (subst (λ o. AreIds octets kind (option_map octets_of originating) o) (as_octets destination) are),
)
