-- The argument of EventReportBCSM, after ITU-T Q.1218: a sequence with eventTypeBCSM, tag 80, A2, which is skipped,
-- legID, A3, and miscCallInfo, A4, each at most once, in any order. Members with other context tags are skipped.
use Rattle.std.specs.Prelude.{◌≡◌, ℕ, Bool, true, false, List, [], ◌∷◌, Option, Some, None, ⊤}
use Rattle.fp_ber.specs.declared.element.Class.TheVariants.{Context}
use Rattle.fp_ber.specs.Tree.{Tree, Trees, primitive, none, more}
use Rattle.fp_inap.specs.declared.event_report.EventReport.{EventReport}
use Rattle.fp_inap.specs.declared.leg.Leg.{Leg}
use Rattle.fp_inap.specs.declared.leg.Leg.TheVariants.{Sending, Receiving}
use Rattle.fp_inap.specs.Event.{event_of}
use Rattle.fp_inap.specs.Members.{AllContext, IsSequence, HoldsOctets, HoldsMembers}

-- one octet with the tag 80, of the sending side, or 81, of the receiving side
abbrev pub leg_members : Leg → Trees
leg_members (Sending octet) = more (primitive Context 0 (octet ∷ [])) none
leg_members (Receiving octet) = more (primitive Context 1 (octet ∷ [])) none

-- a leg, if anything is there
abbrev pub IsLeg : Option Trees → Option Leg → Type 0
IsLeg None None = ⊤
IsLeg None (Some leg) = ⊥
IsLeg (Some members) None = ⊥
IsLeg (Some members) (Some leg) = members ≡ leg_members leg

-- a messageType, if anything is there: 0 is a request, 1 a notification, and nothing is a request
abbrev pub IsMessageType : Option (List ℕ) → Bool → Type 0
IsMessageType None notification = notification ≡ false
IsMessageType (Some octets) false = octets ≡ 0 ∷ []
IsMessageType (Some octets) true = octets ≡ 1 ∷ []

-- miscCallInfo, if anything is there: members with context tags, among them at most one messageType, tag 80
abbrev pub IsCallInfo : Option Trees → Bool → Type 0
IsCallInfo None notification = notification ≡ false
IsCallInfo (Some members) notification =
    AllContext members × ((octets : Option (List ℕ)) × HoldsOctets members 0 octets × IsMessageType octets notification)

-- the element is the argument of EventReportBCSM with these contents
pub record IsEventReport (t : Tree) (report : EventReport) : Type 0 where
  pub members : Trees
  pub event : ℕ
  pub skipped : Option Trees
  pub leg : Option Trees
  pub call_info : Option Trees
  pub is_sequence : IsSequence t members
  pub has_event : HoldsOctets members 0 (Some (event ∷ []))
  pub has_skipped : HoldsMembers members 2 skipped
  pub has_leg : HoldsMembers members 3 leg
  pub has_call_info : HoldsMembers members 4 call_info
  pub is_event : report.event ≡ event_of event
  pub is_leg : IsLeg leg report.leg
  pub is_notification : IsCallInfo call_info report.notification
