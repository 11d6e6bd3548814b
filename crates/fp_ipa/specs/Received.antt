-- The kinds of messages that the management of a connection knows.
use Rattle.std.specs.Prelude.{◌≡◌, ℕ, ◌<◌, List, drop, length, slice_index}
use Rattle.fp_ipa.specs.declared.received.Received.{Received}
use Rattle.fp_ipa.specs.declared.received.Received.TheVariants as received
use Rattle.fp_ipa.specs.declared.stream_identifier.StreamIdentifier.{StreamIdentifier}
use Rattle.fp_ipa.specs.declared.stream_identifier.StreamIdentifier.TheVariants.{ConnectionManagement, Sccp, Other}
use Rattle.fp_ipa.specs.Identity.{NamesUnit}

-- the first octet is this type
abbrev pub HasType : List ℕ → ℕ → Type 0
HasType octets code = (0 < length octets) × (slice_index octets 0 ≡ code)

-- a message of connection management: 00 is PING, 05 ID_RESP, 06 ID_ACK; any other one is unknown
abbrev pub ManagementSays : List (List ℕ) → List ℕ → Received → Type 0
ManagementSays names octets received.Ping = HasType octets 0
ManagementSays names octets (received.Named unit) = HasType octets 5 × NamesUnit names (drop 1 octets) unit
ManagementSays names octets received.Misnamed = HasType octets 5 × ((unit : ℕ) → ¬ NamesUnit names (drop 1 octets) unit)
ManagementSays names octets received.Acknowledged = HasType octets 6
ManagementSays names octets received.UnitData = ⊥
ManagementSays names octets received.Unknown = ¬ HasType octets 0 × ¬ HasType octets 5 × ¬ HasType octets 6

-- a message of this stream
abbrev pub Says : List (List ℕ) → StreamIdentifier → List ℕ → Received → Type 0
Says names ConnectionManagement octets what = ManagementSays names octets what
Says names Sccp octets what = what ≡ received.UnitData
Says names (Other code) octets what = what ≡ received.Unknown
