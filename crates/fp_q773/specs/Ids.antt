-- What can be known of octets that needn't be a message (Q.773, 4.2.1): the kind of the message, and its
-- transaction identifiers.
use Rattle.std.specs.Prelude.{◌≡◌, ℕ, ◌%◌, ◌<◌, List, [], ◌∷◌, ◌++◌, length, Option, Some, None, ◌⊎◌, nat_eq, if◌then◌else◌}
use Rattle.fp_ber.specs.Spelling.{BeginsLength}
use Rattle.fp_q773.specs.declared.kind.Kind.{Kind}
use Rattle.fp_q773.specs.declared.kind.Kind.TheVariants.{Unidirectional, Begin, End, Continue, Abort, Unknown}
use Rattle.fp_q773.specs.Tid.{IsTid}
use Rattle.fp_q773.specs.Value.{MessageValue, unidirectional, begin, end, continuing, abort}

-- the kind that a first octet tells
abbrev pub kind_of : ℕ → Kind
kind_of first =
    if nat_eq first 0x61 then Unidirectional
    else if nat_eq first 0x62 then Begin
    else if nat_eq first 0x64 then End
    else if nat_eq first 0x65 then Continue
    else if nat_eq first 0x67 then Abort
    else Unknown

-- an identifier with this tag stands at the front: its length is definite, one to four, and all its octets are there
abbrev pub Stands : ℕ → List ℕ → List ℕ → List ℕ → Type 0
Stands tag octets identifier rest =
    (body : List ℕ) × (octets ≡ tag ∷ body) × BeginsLength body (length identifier) (identifier ++ rest) × IsTid identifier

-- the identifier with this tag at the front, if one stands there
abbrev pub Counts : ℕ → List ℕ → Option (List ℕ) → Type 0
Counts tag octets None = (identifier rest : List ℕ) → Stands tag octets identifier rest → ⊥
Counts tag octets (Some identifier) = (rest : List ℕ) × Stands tag octets identifier rest

-- an originating identifier, and behind it the destination identifier, if one stands there
abbrev pub BothCount : List ℕ → List ℕ → Option (List ℕ) → Type 0
BothCount octets originating destination = (rest : List ℕ) × Stands 0x48 octets originating rest × Counts 0x49 rest destination

-- the octets begin with this one
abbrev pub IsMarked : ℕ → List ℕ → Type 0
IsMarked tag octets = (rest : List ℕ) × (octets ≡ tag ∷ rest)

-- The identifiers in the contents of a message of this kind: the originating one, tag 48, and the destination one,
-- tag 49. The first that doesn't count ends the reading. Where the kind is unknown a 48 that isn't there is passed
-- over.
abbrev pub AreIdsIn : Kind → List ℕ → Option (List ℕ) → Option (List ℕ) → Type 0
AreIdsIn Unidirectional octets originating destination = (originating ≡ None) × (destination ≡ None)
AreIdsIn Begin octets originating destination = Counts 0x48 octets originating × (destination ≡ None)
AreIdsIn End octets originating destination = (originating ≡ None) × Counts 0x49 octets destination
AreIdsIn Abort octets originating destination = (originating ≡ None) × Counts 0x49 octets destination
AreIdsIn Continue octets (Some originating) destination = BothCount octets originating destination
AreIdsIn Continue octets None destination = Counts 0x48 octets None × (destination ≡ None)
AreIdsIn Unknown octets (Some originating) destination = BothCount octets originating destination
AreIdsIn Unknown octets None destination =
    Counts 0x48 octets None
    × ((IsMarked 0x48 octets × (destination ≡ None)) ⊎ ((IsMarked 0x48 octets → ⊥) × Counts 0x49 octets destination))

-- one length of any form stands at the front, whatever it says
abbrev pub PassesLength : List ℕ → List ℕ → Type 0
PassesLength octets rest = ((n : ℕ) × BeginsLength octets n rest) ⊎ (octets ≡ 0x80 ∷ rest)

-- no length stands at the front: its octets are cut, or begin with 85 to FF
abbrev pub HasNoLength : List ℕ → Type 0
HasNoLength octets = (rest : List ℕ) → PassesLength octets rest → ⊥

-- Where the tag is one octet and a length follows, the identifiers in what follows the length, whether or not it is
-- as long as the length says; else none.
abbrev pub AreIds : List ℕ → Kind → Option (List ℕ) → Option (List ℕ) → Type 0
AreIds [] kind originating destination = (kind ≡ Unknown) × (originating ≡ None) × (destination ≡ None)
AreIds (first ∷ octets) kind originating destination =
    (kind ≡ kind_of first)
    × (((contents : List ℕ) × (first % 32 < 31) × PassesLength octets contents × AreIdsIn kind contents originating destination)
    ⊎ (((contents : List ℕ) → first % 32 < 31 → PassesLength octets contents → ⊥) × (originating ≡ None) × (destination ≡ None)))

-- the kind of a message
abbrev pub message_kind : MessageValue → Kind
message_kind unidirectional = Unidirectional
message_kind (begin originating dialogue components) = Begin
message_kind (end destination dialogue components) = End
message_kind (continuing originating destination dialogue components) = Continue
message_kind (abort destination reason) = Abort

-- by which its sender knows the dialogue
abbrev pub originating_identifier : MessageValue → Option (List ℕ)
originating_identifier unidirectional = None
originating_identifier (begin originating dialogue components) = Some originating
originating_identifier (end destination dialogue components) = None
originating_identifier (continuing originating destination dialogue components) = Some originating
originating_identifier (abort destination reason) = None

-- by which its receiver knows the dialogue
abbrev pub destination_identifier : MessageValue → Option (List ℕ)
destination_identifier unidirectional = None
destination_identifier (begin originating dialogue components) = None
destination_identifier (end destination dialogue components) = Some destination
destination_identifier (continuing originating destination dialogue components) = Some destination
destination_identifier (abort destination reason) = Some destination
