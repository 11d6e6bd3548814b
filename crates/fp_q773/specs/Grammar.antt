-- Which elements are messages and components (Q.773, 4.2 and annex A). A relation on a list of elements
-- reads them from the first on.
use Rattle.std.specs.Prelude.{◌≡◌, ℕ, ℤ, List, [], ◌∷◌, Option, Some, None, ◌≤◌, ◌⊎◌, ⊤}
use Rattle.fp_ber.specs.declared.element.Class.TheVariants.{Universal, Application, Context}
use Rattle.fp_ber.specs.Tree.{Tree, Trees, primitive, constructed, none, more}
use Rattle.fp_ber.specs.Integer.{integer, signed}
use Rattle.fp_q773.specs.declared.problem.GeneralProblem.{GeneralProblem}
use Rattle.fp_q773.specs.declared.problem.GeneralProblem.TheVariants.{UnrecognizedComponent, MistypedComponent}
use Rattle.fp_q773.specs.Tid.{IsTid}
use Rattle.fp_q773.specs.Value.{CodeValue, ProblemValue, ResultValue, ComponentValue, ReasonValue, MessageValue, local, global, tagged, returned, invoke, return_result_last, return_error, reject, return_result_not_last, faulty, provider, user, unidirectional, begin, end, continuing, abort}

-- an invoke identifier: an integer of one octet
abbrev pub IsIdentifier : Tree → ℤ → Type 0
IsIdentifier t identifier = (octet : ℕ) × (t ≡ primitive Universal 2 (octet ∷ [])) × (signed octet ≡ identifier)

-- a linked identifier: the same with the tag 80
abbrev pub IsLinked : Tree → ℤ → Type 0
IsLinked t identifier = (octet : ℕ) × (t ≡ primitive Context 0 (octet ∷ [])) × (signed octet ≡ identifier)

-- a code: an integer of one to four octets, or an object identifier
abbrev pub IsCode : Tree → CodeValue → Type 0
IsCode t (local number) = (octets : List ℕ) × (t ≡ primitive Universal 2 octets) × (integer octets ≡ Some number)
IsCode t (global octets) = t ≡ primitive Universal 6 octets

-- at most one element, of any tag
abbrev pub IsParameter : Trees → Option Tree → Type 0
IsParameter ts None = ts ≡ none
IsParameter ts (Some parameter) = ts ≡ more parameter none

-- a code, and perhaps a parameter
abbrev pub IsCoded : Trees → CodeValue → Option Tree → Type 0
IsCoded ts code parameter = (first : Tree) × (rest : Trees) × (ts ≡ more first rest) × IsCode first code × IsParameter rest parameter

-- perhaps a linked identifier, and then a code and perhaps a parameter
abbrev pub IsAsked : Trees → Option ℤ → CodeValue → Option Tree → Type 0
IsAsked ts None code parameter = IsCoded ts code parameter
IsAsked ts (Some linked) code parameter = (first : Tree) × (rest : Trees) × (ts ≡ more first rest) × IsLinked first linked × IsCoded rest code parameter

-- nothing, or a sequence, tag 30, of a code and perhaps a parameter
abbrev pub IsReturned : Trees → Option ResultValue → Type 0
IsReturned ts None = ts ≡ none
IsReturned ts (Some (returned code parameter)) = (members : Trees) × (ts ≡ more (constructed Universal 16 members) none) × IsCoded members code parameter

-- an invoke identifier, or null, 05 00
abbrev pub IsRejected : Tree → Option ℤ → Type 0
IsRejected t None = t ≡ primitive Universal 5 []
IsRejected t (Some identifier) = IsIdentifier t identifier

-- a problem: one octet, with a tag of 80 to 83
abbrev pub IsProblem : Tree → ProblemValue → Type 0
IsProblem t (tagged group code) = (t ≡ primitive Context group (code ∷ [])) × (group ≤ 3)

-- what an Invoke holds
abbrev pub IsInvoke : Trees → ℤ → Option ℤ → CodeValue → Option Tree → Type 0
IsInvoke ts identifier linked code parameter =
    (first : Tree) × (rest : Trees) × (ts ≡ more first rest) × IsIdentifier first identifier × IsAsked rest linked code parameter

-- what a ReturnResult holds
abbrev pub IsReturnResult : Trees → ℤ → Option ResultValue → Type 0
IsReturnResult ts identifier result = (first : Tree) × (rest : Trees) × (ts ≡ more first rest) × IsIdentifier first identifier × IsReturned rest result

-- what a ReturnError holds
abbrev pub IsReturnError : Trees → ℤ → CodeValue → Option Tree → Type 0
IsReturnError ts identifier code parameter =
    (first : Tree) × (rest : Trees) × (ts ≡ more first rest) × IsIdentifier first identifier × IsCoded rest code parameter

-- what a Reject holds
abbrev pub IsReject : Trees → Option ℤ → ProblemValue → Type 0
IsReject ts identifier problem =
    (first : Tree) × (second : Tree) × (ts ≡ more first (more second none)) × IsRejected first identifier × IsProblem second problem

-- the table of components: A1 Invoke, A2 ReturnResultLast, A3 ReturnError, A4 Reject, A7 ReturnResultNotLast
abbrev pub IsRow : Tree → ComponentValue → Type 0
IsRow t (invoke identifier linked code parameter) = (ts : Trees) × (t ≡ constructed Context 1 ts) × IsInvoke ts identifier linked code parameter
IsRow t (return_result_last identifier result) = (ts : Trees) × (t ≡ constructed Context 2 ts) × IsReturnResult ts identifier result
IsRow t (return_error identifier code parameter) = (ts : Trees) × (t ≡ constructed Context 3 ts) × IsReturnError ts identifier code parameter
IsRow t (reject identifier problem) = (ts : Trees) × (t ≡ constructed Context 4 ts) × IsReject ts identifier problem
IsRow t (return_result_not_last identifier result) = (ts : Trees) × (t ≡ constructed Context 7 ts) × IsReturnResult ts identifier result
IsRow t (faulty identifier problem) = ⊥

-- an element with a tag of the table, and what it holds
abbrev pub IsTabled : Tree → Trees → Type 0
IsTabled t ts =
    (number : ℕ) × (t ≡ constructed Context number ts)
    × ((number ≡ 1) ⊎ (number ≡ 2) ⊎ (number ≡ 3) ⊎ (number ≡ 4) ⊎ (number ≡ 7))

-- the invoke identifier that stands first, if one does
abbrev pub BeginsWith : Trees → Option ℤ → Type 0
BeginsWith ts None = (first : Tree) (rest : Trees) (identifier : ℤ) → ts ≡ more first rest → IsIdentifier first identifier → ⊥
BeginsWith ts (Some identifier) = (first : Tree) × (rest : Trees) × (ts ≡ more first rest) × IsIdentifier first identifier

-- An element in no row of the table is a faulty component, and this is what a Reject of it has: where its tag isn't
-- in the table, no identifier; else the identifier that stands first, if one does.
abbrev pub IsFaulty : Tree → Option ℤ → GeneralProblem → Type 0
IsFaulty t identifier problem =
    (((ts : Trees) → IsTabled t ts → ⊥) × (identifier ≡ None) × (problem ≡ UnrecognizedComponent))
    ⊎ ((ts : Trees) × IsTabled t ts × ((row : ComponentValue) → IsRow t row → ⊥) × BeginsWith ts identifier × (problem ≡ MistypedComponent))

-- each element is a component, if only a faulty one
abbrev pub IsComponent : Tree → ComponentValue → Type 0
IsComponent t (invoke identifier linked code parameter) = IsRow t (invoke identifier linked code parameter)
IsComponent t (return_result_last identifier result) = IsRow t (return_result_last identifier result)
IsComponent t (return_error identifier code parameter) = IsRow t (return_error identifier code parameter)
IsComponent t (reject identifier problem) = IsRow t (reject identifier problem)
IsComponent t (return_result_not_last identifier result) = IsRow t (return_result_not_last identifier result)
IsComponent t (faulty identifier problem) = IsFaulty t identifier problem

-- components one after another
abbrev pub AreComponents : Trees → List ComponentValue → Type 0
AreComponents none [] = ⊤
AreComponents none (component ∷ others) = ⊥
AreComponents (more t ts) [] = ⊥
AreComponents (more t ts) (component ∷ others) = IsComponent t component × AreComponents ts others

-- a component portion, tag 6C, or none, if there are no components; an empty portion is read as none
abbrev pub IsPortion : Trees → List ComponentValue → Type 0
IsPortion ts components =
    ((ts ≡ none) × (components ≡ []))
    ⊎ ((members : Trees) × (ts ≡ more (constructed Application 12 members) none) × AreComponents members components)

-- a dialogue portion, tag 6B, whatever it holds
abbrev pub IsDialogue : Tree → Type 0
IsDialogue t = (members : Trees) × (t ≡ constructed Application 11 members)

-- perhaps a dialogue portion, and perhaps a component portion
abbrev pub ArePortions : Trees → Option Tree → List ComponentValue → Type 0
ArePortions ts None components = IsPortion ts components
ArePortions ts (Some dialogue) components = (rest : Trees) × (ts ≡ more dialogue rest) × IsDialogue dialogue × IsPortion rest components

-- a transaction identifier with the tag of this number, 48 or 49, and more elements
abbrev pub IsTransaction : Trees → ℕ → List ℕ → Trees → Type 0
IsTransaction ts number octets rest = (ts ≡ more (primitive Application number octets) rest) × IsTid octets

-- what a Begin holds: 48, and the portions
abbrev pub IsBegin : Trees → List ℕ → Option Tree → List ComponentValue → Type 0
IsBegin ts originating dialogue components = (rest : Trees) × IsTransaction ts 8 originating rest × ArePortions rest dialogue components

-- what an End holds: 49, and the portions
abbrev pub IsEnd : Trees → List ℕ → Option Tree → List ComponentValue → Type 0
IsEnd ts destination dialogue components = (rest : Trees) × IsTransaction ts 9 destination rest × ArePortions rest dialogue components

-- what a Continue holds: 48, 49, and the portions
abbrev pub IsContinue : Trees → List ℕ → List ℕ → Option Tree → List ComponentValue → Type 0
IsContinue ts originating destination dialogue components =
    (rest : Trees) × IsTransaction ts 8 originating rest × IsEnd rest destination dialogue components

-- nothing, a cause of one octet, tag 4A, or a dialogue portion
abbrev pub IsReason : Trees → Option ReasonValue → Type 0
IsReason ts None = ts ≡ none
IsReason ts (Some (provider cause)) = ts ≡ more (primitive Application 10 (cause ∷ [])) none
IsReason ts (Some (user dialogue)) = (ts ≡ more dialogue none) × IsDialogue dialogue

-- what an Abort holds: 49, and perhaps a reason
abbrev pub IsAbort : Trees → List ℕ → Option ReasonValue → Type 0
IsAbort ts destination reason = (rest : Trees) × IsTransaction ts 9 destination rest × IsReason rest reason

-- the table of messages: 61 Unidirectional, whatever it holds, 62 Begin, 64 End, 65 Continue, 67 Abort
abbrev pub IsMessage : Tree → MessageValue → Type 0
IsMessage t unidirectional = (ts : Trees) × (t ≡ constructed Application 1 ts)
IsMessage t (begin originating dialogue components) = (ts : Trees) × (t ≡ constructed Application 2 ts) × IsBegin ts originating dialogue components
IsMessage t (end destination dialogue components) = (ts : Trees) × (t ≡ constructed Application 4 ts) × IsEnd ts destination dialogue components
IsMessage t (continuing originating destination dialogue components) =
    (ts : Trees) × (t ≡ constructed Application 5 ts) × IsContinue ts originating destination dialogue components
IsMessage t (abort destination reason) = (ts : Trees) × (t ≡ constructed Application 7 ts) × IsAbort ts destination reason
