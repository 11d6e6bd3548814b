-- Octets are at most one message, and none if they have a fault.
use Rattle.std.proofs.Common.{◌≡◌, ℕ, ◌<◌, ◌≤◌, Bool, true, false, List, slice_index, refl, sym, ◌∙◌, ap, inl, inr, arith}
use Rattle.std.specs.Prelude.{◌⊎◌, ◌==◌, if◌then◌else◌, Option, Some, None}
use Rattle.fp_sccp.specs.declared.fault.SccpFault.{SccpFault}
use Rattle.fp_sccp.specs.declared.fault.SccpFault.TheVariants.{UnknownType, Cut, ProtocolClass, CalledAddress, CallingAddress, UserData, OptionalPart}
use Rattle.fp_sccp.specs.declared.protocol_class.ProtocolClass as classes
use Rattle.fp_sccp.specs.declared.protocol_class.ProtocolClass.TheVariants.{Basic, Sequenced}
use Rattle.fp_sccp.specs.declared.return_cause.ReturnCause as causes
use Rattle.fp_sccp.specs.declared.return_cause.ReturnCause.TheVariants.{NoTranslationForSuch, NoTranslationForThis, SubsystemCongestion, SubsystemFailure, UnequippedUser, MtpFailure, NetworkCongestion, Unqualified, ErrorInMessageTransport, ErrorInLocalProcessing, DestinationCannotPerformReassembly, SccpFailure, HopCounterViolation, SegmentationNotSupported, SegmentationFailure}
use Rattle.fp_sccp.specs.Fault.{ExtendedFault, IsFault, ServiceFault, UnitDataFault}
use Rattle.fp_sccp.specs.Laws.{FaultsAreNoMessages, MessagesAreOne}
use Rattle.fp_sccp.specs.Message.{IsExtended, IsMessage, IsService, IsUnitData}
use Rattle.fp_sccp.specs.OptionalPart.{OptionalPartSays}
use Rattle.fp_sccp.specs.ProtocolClass.{class_code}
use Rattle.fp_sccp.specs.ReturnCause.{HasCause, cause_code}
use Rattle.fp_sccp.specs.Value.{MessageValue, ServiceValue, UnitDataValue, unit_data, segment, service}
use Rattle.fp_sccp.proofs.Parameters.{says_one}

-- a code is that of one class
same_class : (one other : classes.ProtocolClass) → class_code one ≡ class_code other → one ≡ other
same_class Basic Basic e = refl
same_class Basic Sequenced e = absurd (omega (arith, e))
same_class Sequenced Basic e = absurd (omega (arith, e))
same_class Sequenced Sequenced e = refl

class_code_most : (class : classes.ProtocolClass) → class_code class < 2
class_code_most Basic = omega arith
class_code_most Sequenced = omega arith

true_is_not_false : true ≡ false → ⊥
true_is_not_false e = cc e

-- an XUDT is a whole message or a segment, and not both
optional_one : (octets : List ℕ) (one other : Bool) → OptionalPartSays octets one → OptionalPartSays octets other → one ≡ other
optional_one octets one other (inl a) (inl b) = a.1 ∙ sym b.1
optional_one octets one other (inl a) (inr b) = absurd (omega (arith, a.0, b.0))
optional_one octets one other (inr a) (inl b) = absurd (omega (arith, a.0, b.0))
optional_one octets one other (inr a) (inr b) = says_one _ one other a.1 b.1

-- the cause of a code
abbrev cause_at : ℕ → causes.ReturnCause
cause_at code =
    if code == 0 then NoTranslationForSuch
    else if code == 1 then NoTranslationForThis
    else if code == 2 then SubsystemCongestion
    else if code == 3 then SubsystemFailure
    else if code == 4 then UnequippedUser
    else if code == 5 then MtpFailure
    else if code == 6 then NetworkCongestion
    else if code == 7 then Unqualified
    else if code == 8 then ErrorInMessageTransport
    else if code == 9 then ErrorInLocalProcessing
    else if code == 10 then DestinationCannotPerformReassembly
    else if code == 11 then SccpFailure
    else if code == 12 then HopCounterViolation
    else if code == 13 then SegmentationNotSupported
    else SegmentationFailure

cause_named : (cause : causes.ReturnCause) → cause_at (cause_code cause) ≡ cause
cause_named NoTranslationForSuch = refl
cause_named NoTranslationForThis = refl
cause_named SubsystemCongestion = refl
cause_named SubsystemFailure = refl
cause_named UnequippedUser = refl
cause_named MtpFailure = refl
cause_named NetworkCongestion = refl
cause_named Unqualified = refl
cause_named ErrorInMessageTransport = refl
cause_named ErrorInLocalProcessing = refl
cause_named DestinationCannotPerformReassembly = refl
cause_named SccpFailure = refl
cause_named HopCounterViolation = refl
cause_named SegmentationNotSupported = refl
cause_named SegmentationFailure = refl

cause_code_most : (cause : causes.ReturnCause) → cause_code cause ≤ 14
cause_code_most NoTranslationForSuch = omega arith
cause_code_most NoTranslationForThis = omega arith
cause_code_most SubsystemCongestion = omega arith
cause_code_most SubsystemFailure = omega arith
cause_code_most UnequippedUser = omega arith
cause_code_most MtpFailure = omega arith
cause_code_most NetworkCongestion = omega arith
cause_code_most Unqualified = omega arith
cause_code_most ErrorInMessageTransport = omega arith
cause_code_most ErrorInLocalProcessing = omega arith
cause_code_most DestinationCannotPerformReassembly = omega arith
cause_code_most SccpFailure = omega arith
cause_code_most HopCounterViolation = omega arith
cause_code_most SegmentationNotSupported = omega arith
cause_code_most SegmentationFailure = omega arith

-- a code has one cause, or none
same_cause : (code : ℕ) (one other : Option causes.ReturnCause) → HasCause code one → HasCause code other → one ≡ other
same_cause code None None a b = refl
same_cause code None (Some other) a b = let most = cause_code_most other in absurd (omega (arith, a, b, most))
same_cause code (Some one) None a b = let most = cause_code_most one in absurd (omega (arith, a, b, most))
same_cause code (Some one) (Some other) a b =
    ap Some (sym (cause_named one) ∙ ap cause_at (a ∙ sym b) ∙ cause_named other)

-- the values that octets give are the same
same_unit_data : (octets : List ℕ) (one other : UnitDataValue) → IsUnitData octets one → IsUnitData octets other → one ≡ other
same_unit_data octets one other a b =
    let kinds = a.kind ∙ sym b.kind in
    let classes_same = same_class one.class other.class (a.class ∙ sym b.class) in
    let returned = a.returned ∙ sym b.returned in
    let called = a.parts.called_is ∙ sym b.parts.called_is in
    let calling = a.parts.calling_is ∙ sym b.parts.calling_is in
    let user = a.parts.user_data_is ∙ sym b.parts.user_data_is in
    λ i. record { kind = kinds i; class = classes_same i; returns_on_error = returned i; called = called i; calling = calling i; user_data = user i }

same_extended : (octets : List ℕ) (one other : UnitDataValue) (whole only : Bool) → IsExtended octets one whole → IsExtended octets other only
    → (one ≡ other) × (whole ≡ only)
same_extended octets one other whole only a b =
    let kinds = a.kind ∙ sym b.kind in
    let classes_same = same_class one.class other.class (a.class ∙ sym b.class) in
    let returned = a.returned ∙ sym b.returned in
    let called = a.parts.called_is ∙ sym b.parts.called_is in
    let calling = a.parts.calling_is ∙ sym b.parts.calling_is in
    let user = a.parts.user_data_is ∙ sym b.parts.user_data_is in (
      λ i. record { kind = kinds i; class = classes_same i; returns_on_error = returned i; called = called i; calling = calling i; user_data = user i },
      optional_one octets whole only a.optional b.optional,
    )

same_service : (octets : List ℕ) (one other : ServiceValue) → IsService octets one → IsService octets other → one ≡ other
same_service octets one other a b =
    let cause = same_cause (slice_index octets 1) one.cause other.cause a.cause b.cause in
    let called = a.parts.called_is ∙ sym b.parts.called_is in
    let calling = a.parts.calling_is ∙ sym b.parts.calling_is in
    let user = a.parts.user_data_is ∙ sym b.parts.user_data_is in
    λ i. record { cause = cause i; called = called i; calling = calling i; user_data = user i }

-- octets are at most one message
pub messages_are_one : MessagesAreOne
messages_are_one octets (unit_data one) (unit_data other) (inl a) (inl b) = ap unit_data (same_unit_data octets one other a b)
messages_are_one octets (unit_data one) (unit_data other) (inr a) (inr b) = ap unit_data (same_extended octets one other true true a b).0
messages_are_one octets (unit_data one) (unit_data other) (inl a) (inr b) = absurd (omega (arith, a.code, b.code))
messages_are_one octets (unit_data one) (unit_data other) (inr a) (inl b) = absurd (omega (arith, a.code, b.code))
messages_are_one octets (segment one) (segment other) a b = ap segment (same_extended octets one other false false a b).0
messages_are_one octets (service one) (service other) a b = ap service (same_service octets one other a b)
messages_are_one octets (unit_data one) (segment other) (inl a) b = absurd (omega (arith, a.code, b.code))
messages_are_one octets (unit_data one) (segment other) (inr a) b = absurd (true_is_not_false (same_extended octets one other true false a b).1)
messages_are_one octets (segment one) (unit_data other) a (inl b) = absurd (omega (arith, a.code, b.code))
messages_are_one octets (segment one) (unit_data other) a (inr b) = absurd (true_is_not_false (sym (same_extended octets one other false true a b).1))
messages_are_one octets (unit_data one) (service other) (inl a) b = absurd (omega (arith, a.code, b.code))
messages_are_one octets (unit_data one) (service other) (inr a) b = absurd (omega (arith, a.code, b.code))
messages_are_one octets (service one) (unit_data other) a (inl b) = absurd (omega (arith, a.code, b.code))
messages_are_one octets (service one) (unit_data other) a (inr b) = absurd (omega (arith, a.code, b.code))
messages_are_one octets (segment one) (service other) a b = absurd (omega (arith, a.code, b.code))
messages_are_one octets (service one) (segment other) a b = absurd (omega (arith, a.code, b.code))

-- octets of this type with this fault are no message of it
no_unit_data : (octets : List ℕ) (fault : SccpFault) (value : UnitDataValue) → UnitDataFault octets fault → IsUnitData octets value → ⊥
no_unit_data octets UnknownType value f m = f.2
no_unit_data octets Cut value f m = omega (arith, f, m.parts.has_called)
no_unit_data octets ProtocolClass value f m = f.1 (let most = class_code_most value.class in omega (arith, most, m.class))
no_unit_data octets CalledAddress value f m = f.2 m.parts.has_called
no_unit_data octets CallingAddress value f m = f.2.1 m.parts.has_calling
no_unit_data octets UserData value f m = f.2.2 m.parts.has_user_data
no_unit_data octets OptionalPart value f m = f.2

no_service : (octets : List ℕ) (fault : SccpFault) (value : ServiceValue) → ServiceFault octets fault → IsService octets value → ⊥
no_service octets UnknownType value f m = f.1
no_service octets Cut value f m = omega (arith, f, m.parts.has_called)
no_service octets ProtocolClass value f m = f.1
no_service octets CalledAddress value f m = f.1 m.parts.has_called
no_service octets CallingAddress value f m = f.1.1 m.parts.has_calling
no_service octets UserData value f m = f.1.2 m.parts.has_user_data
no_service octets OptionalPart value f m = f.1

no_extended : (octets : List ℕ) (fault : SccpFault) (value : UnitDataValue) (whole : Bool) → ExtendedFault octets fault → IsExtended octets value whole → ⊥
no_extended octets UnknownType value whole f m = f.2
no_extended octets Cut value whole f m = omega (arith, f, m.parts.has_called)
no_extended octets ProtocolClass value whole f m = f.1 (let most = class_code_most value.class in omega (arith, most, m.class))
no_extended octets CalledAddress value whole f m = f.2 m.parts.has_called
no_extended octets CallingAddress value whole f m = f.2.1 m.parts.has_calling
no_extended octets UserData value whole f m = f.2.2 m.parts.has_user_data
no_extended octets OptionalPart value whole f m = f.5 whole m.optional

-- octets of none of the types are no message
no_type : (octets : List ℕ) (value : MessageValue) → IsFault octets UnknownType → IsMessage octets value → ⊥
no_type octets (unit_data value) f (inl m) = f.0 m.code
no_type octets (unit_data value) f (inr m) = f.2 m.code
no_type octets (segment value) f m = f.2 m.code
no_type octets (service value) f m = f.1 m.code

-- octets of one of the types with a fault of it are no message
no_message : (octets : List ℕ) (fault : SccpFault) (value : MessageValue)
    → ((slice_index octets 0 ≡ 9) × UnitDataFault octets fault)
    ⊎ ((slice_index octets 0 ≡ 10) × ServiceFault octets fault)
    ⊎ ((slice_index octets 0 ≡ 17) × ExtendedFault octets fault)
    → IsMessage octets value → ⊥
no_message octets fault (unit_data value) (inl f) (inl m) = no_unit_data octets fault value f.1 m
no_message octets fault (unit_data value) (inl f) (inr m) = omega (arith, f.0, m.code)
no_message octets fault (unit_data value) (inr (inl f)) (inl m) = omega (arith, f.0, m.code)
no_message octets fault (unit_data value) (inr (inl f)) (inr m) = omega (arith, f.0, m.code)
no_message octets fault (unit_data value) (inr (inr f)) (inl m) = omega (arith, f.0, m.code)
no_message octets fault (unit_data value) (inr (inr f)) (inr m) = no_extended octets fault value true f.1 m
no_message octets fault (segment value) (inl f) m = omega (arith, f.0, m.code)
no_message octets fault (segment value) (inr (inl f)) m = omega (arith, f.0, m.code)
no_message octets fault (segment value) (inr (inr f)) m = no_extended octets fault value false f.1 m
no_message octets fault (service value) (inl f) m = omega (arith, f.0, m.code)
no_message octets fault (service value) (inr (inl f)) m = no_service octets fault value f.1 m
no_message octets fault (service value) (inr (inr f)) m = omega (arith, f.0, m.code)

-- octets with a fault are no message
pub faults_are_no_messages : FaultsAreNoMessages
faults_are_no_messages octets UnknownType value f m = no_type octets value f m
faults_are_no_messages octets Cut value f m = no_message octets Cut value f m
faults_are_no_messages octets ProtocolClass value f m = no_message octets ProtocolClass value f m
faults_are_no_messages octets CalledAddress value f m = no_message octets CalledAddress value f m
faults_are_no_messages octets CallingAddress value f m = no_message octets CallingAddress value f m
faults_are_no_messages octets UserData value f m = no_message octets UserData value f m
faults_are_no_messages octets OptionalPart value f m = no_message octets OptionalPart value f m
