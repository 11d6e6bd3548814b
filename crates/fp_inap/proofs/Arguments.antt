-- An argument has one meaning, so the value that is read is that meaning.
use Rattle.std.proofs.Common.{◌≡◌, ℕ, Bool, true, false, List, [], ◌∷◌, Option, Some, None, Result, Ok, Err, IfOk, IfErr, refl, sym, ◌∙◌, ap, subst}
use Rattle.std.specs.Prelude.{option_map, pos}
use Rattle.fp_ber.specs.Tree.{Tree, Trees}
use Rattle.fp_digits.specs.declared.number.Number.{Number}
use Rattle.fp_inap.specs.declared.event.Event.{Event}
use Rattle.fp_inap.specs.declared.event_report.EventReport.{EventReport}
use Rattle.fp_inap.specs.declared.initial_dp.InitialDp.{InitialDp}
use Rattle.fp_inap.specs.declared.leg.Leg.{Leg}
use Rattle.fp_inap.specs.declared.leg.Leg.TheVariants.{Sending, Receiving}
use Rattle.fp_inap.specs.declared.mistyped.Mistyped.{Mistyped}
use Rattle.fp_inap.specs.Event.{event_of}
use Rattle.fp_inap.specs.EventReport.{IsEventReport, IsLeg, IsMessageType, IsCallInfo, leg_members}
use Rattle.fp_inap.specs.InitialDp.{IsInitialDp, IsKey, number_in}
use Rattle.fp_inap.specs.Members.{IsSequence, HoldsOctets, HoldsMembers, IsOctet}
use Rattle.fp_inap.proofs.Sequences.{sequence_same, octets_same, members_same, octet_same}

-- octets hold at most one service key
key_same : (octets : Option (List ℕ)) (a b : Option ℕ) → IsKey octets a → IsKey octets b → a ≡ b
key_same None None None g h = refl
key_same None None (Some b) g h = absurd h
key_same None (Some a) b g h = absurd g
key_same (Some octets) None b g h = absurd g
key_same (Some octets) (Some a) None g h = absurd h
key_same (Some octets) (Some a) (Some b) g h = let same : Some (pos a) ≡ Some (pos b) = sym g ∙ h in cc

-- equal parts make equal values
same_fields : (a a' : Option ℕ) (b b' c c' : Option Number) (d d' : Option ℕ) (e e' : Option Event) → a ≡ a' → b ≡ b' → c ≡ c' → d ≡ d' → e ≡ e'
    → ◌≡◌ {A = InitialDp}
    (record { key = a; called = b; calling = c; category = d; event = e })
    (record { key = a'; called = b'; calling = c'; category = d'; event = e' })
same_fields a a' b b' c c' d d' e e' key called calling category event = cc

-- an element is one argument of InitialDP
pub initial_dp_same : (t : Tree) (x y : InitialDp) → IsInitialDp t x → IsInitialDp t y → x ≡ y
initial_dp_same t x y g h =
    let members = sequence_same t g.members h.members g.is_sequence h.is_sequence in
    let moved : (number : ℕ) (o : Option (List ℕ)) → HoldsOctets g.members number o → HoldsOctets h.members number o
    = λ number o. subst (λ ts. HoldsOctets ts number o) members in
    let key = octets_same h.members 0 g.key h.key (moved 0 g.key g.has_key) h.has_key in
    let called = octets_same h.members 2 g.called h.called (moved 2 g.called g.has_called) h.has_called in
    let calling = octets_same h.members 3 g.calling h.calling (moved 3 g.calling g.has_calling) h.has_calling in
    let category = octets_same h.members 5 g.category h.category (moved 5 g.category g.has_category) h.has_category in
    let event = octets_same h.members 28 g.event h.event (moved 28 g.event g.has_event) h.has_event in
    let octet = octet_same h.event g.event_octet h.event_octet (subst (λ o. IsOctet o g.event_octet) event g.is_octet) h.is_octet in
    same_fields _ _ _ _ _ _ _ _ _ _
    (key_same h.key x.key y.key (subst (λ o. IsKey o x.key) key g.is_key) h.is_key)
    (g.is_called ∙ (ap number_in called ∙ sym h.is_called))
    (g.is_calling ∙ (ap number_in calling ∙ sym h.is_calling))
    (octet_same h.category x.category y.category (subst (λ o. IsOctet o x.category) category g.is_category) h.is_category)
    (g.is_event ∙ (ap (option_map event_of) octet ∙ sym h.is_event))

-- a reader that returns only the argument's meaning, and refuses only what has none, returns it
pub initial_dp_read : (t : Tree) (r : Result InitialDp Mistyped) → IfOk r (IsInitialDp t) → IfErr r (λ m. (dp : InitialDp) → IsInitialDp t dp → ⊥)
    → (dp : InitialDp) → IsInitialDp t dp → r ≡ Ok dp
initial_dp_read t (Ok x) ok err dp is = ap Ok (initial_dp_same t x dp ok is)
initial_dp_read t (Err m) ok err dp is = absurd (err dp is)

-- members hold at most one leg
leg_members_same : (a b : Leg) → leg_members a ≡ leg_members b → a ≡ b
leg_members_same (Sending a) (Sending b) is = cc
leg_members_same (Sending a) (Receiving b) is = cc
leg_members_same (Receiving a) (Sending b) is = cc
leg_members_same (Receiving a) (Receiving b) is = cc

-- also members that may be absent
leg_same : (members : Option Trees) (a b : Option Leg) → IsLeg members a → IsLeg members b → a ≡ b
leg_same None None None g h = refl
leg_same None None (Some b) g h = absurd h
leg_same None (Some a) b g h = absurd g
leg_same (Some members) None b g h = absurd g
leg_same (Some members) (Some a) None g h = absurd h
leg_same (Some members) (Some a) (Some b) g h = ap Some (leg_members_same a b (sym g ∙ h))

-- octets hold at most one messageType
message_type_same : (octets : Option (List ℕ)) (a b : Bool) → IsMessageType octets a → IsMessageType octets b → a ≡ b
message_type_same None a b g h = g ∙ sym h
message_type_same (Some octets) false false g h = refl
message_type_same (Some octets) false true g h = cc
message_type_same (Some octets) true false g h = cc
message_type_same (Some octets) true true g h = refl

-- members hold at most one miscCallInfo
call_info_same : (members : Option Trees) (a b : Bool) → IsCallInfo members a → IsCallInfo members b → a ≡ b
call_info_same None a b g h = g ∙ sym h
call_info_same (Some members) a b g h =
    let octets = octets_same members 0 g.1.0 h.1.0 g.1.1 h.1.1 in
    message_type_same h.1.0 a b (subst (λ o. IsMessageType o a) octets g.1.2) h.1.2

-- equal parts make equal values
same_report : (a a' : Event) (b b' : Option Leg) (c c' : Bool) → a ≡ a' → b ≡ b' → c ≡ c'
    → ◌≡◌ {A = EventReport} (record { event = a; leg = b; notification = c }) (record { event = a'; leg = b'; notification = c' })
same_report a a' b b' c c' event leg notification = cc

-- an element is one argument of EventReportBCSM
pub event_report_same : (t : Tree) (x y : EventReport) → IsEventReport t x → IsEventReport t y → x ≡ y
event_report_same t x y g h =
    let members = sequence_same t g.members h.members g.is_sequence h.is_sequence in
    let octets = octets_same h.members 0 (Some (g.event ∷ [])) (Some (h.event ∷ [])) (subst (λ ts. HoldsOctets ts 0 (Some (g.event ∷ []))) members g.has_event) h.has_event in
    let event : g.event ≡ h.event = cc in
    let leg = members_same h.members 3 g.leg h.leg (subst (λ ts. HoldsMembers ts 3 g.leg) members g.has_leg) h.has_leg in
    let info = members_same h.members 4 g.call_info h.call_info (subst (λ ts. HoldsMembers ts 4 g.call_info) members g.has_call_info) h.has_call_info in
    same_report _ _ _ _ _ _
    (g.is_event ∙ (ap event_of event ∙ sym h.is_event))
    (leg_same h.leg x.leg y.leg (subst (λ o. IsLeg o x.leg) leg g.is_leg) h.is_leg)
    (call_info_same h.call_info x.notification y.notification (subst (λ o. IsCallInfo o x.notification) info g.is_notification) h.is_notification)

-- a reader that returns only the argument's meaning, and refuses only what has none, returns it
pub event_report_read : (t : Tree) (r : Result EventReport Mistyped) → IfOk r (IsEventReport t) → IfErr r (λ m. (report : EventReport) → IsEventReport t report → ⊥)
    → (report : EventReport) → IsEventReport t report → r ≡ Ok report
event_report_read t (Ok x) ok err report is = ap Ok (event_report_same t x report ok is)
event_report_read t (Err m) ok err report is = absurd (err report is)

-- the event of a report is in the octets of the member that has its number
pub event_member : (t : Tree) (members : Trees) (report : EventReport) → IsSequence t members → (is : IsEventReport t report) → HoldsOctets members 0 (Some (is.event ∷ []))
event_member t members report sequence is =
    subst (λ ts. HoldsOctets ts 0 (Some (is.event ∷ []))) (sequence_same t is.members members is.is_sequence sequence) is.has_event

-- so the octets of that member are the event
pub event_octets : (t : Tree) (members : Trees) (octets : Option (List ℕ)) (report : EventReport) → IsSequence t members → HoldsOctets members 0 octets
    → (is : IsEventReport t report) → IsOctet octets (Some is.event)
event_octets t members octets report sequence holds is =
    let same = octets_same members 0 octets (Some (is.event ∷ [])) holds (event_member t members report sequence is) in
    subst (λ o. IsOctet o (Some is.event)) (sym same) refl
