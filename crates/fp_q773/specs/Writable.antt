-- Which messages can be written.
use Rattle.std.specs.Prelude.{List, [], ◌∷◌, Option, Some, None, ⊤}
use Rattle.fp_ber.specs.Tree.{Tree, Trees, none, more}
use Rattle.fp_q773.specs.Grammar.{IsDialogue}
use Rattle.fp_q773.specs.Value.{ComponentValue, ReasonValue, MessageValue, invoke, return_result_last, return_error, reject, return_result_not_last, faulty, provider, user, unidirectional, begin, end, continuing, abort}

-- a component that isn't faulty
abbrev pub IsWritable : ComponentValue → Type 0
IsWritable (invoke identifier linked code parameter) = ⊤
IsWritable (return_result_last identifier result) = ⊤
IsWritable (return_error identifier code parameter) = ⊤
IsWritable (reject identifier problem) = ⊤
IsWritable (return_result_not_last identifier result) = ⊤
IsWritable (faulty identifier problem) = ⊥

abbrev pub AllWritable : List ComponentValue → Type 0
AllWritable [] = ⊤
AllWritable (component ∷ others) = IsWritable component × AllWritable others

-- a dialogue portion
abbrev pub IsWritableDialogue : Option Tree → Type 0
IsWritableDialogue None = ⊤
IsWritableDialogue (Some t) = IsDialogue t

abbrev pub IsWritableReason : Option ReasonValue → Type 0
IsWritableReason None = ⊤
IsWritableReason (Some (provider cause)) = ⊤
IsWritableReason (Some (user dialogue)) = IsDialogue dialogue

-- a message without a faulty component, whose dialogue portion is one
abbrev pub IsWritableMessage : MessageValue → Type 0
IsWritableMessage unidirectional = ⊤
IsWritableMessage (begin originating dialogue components) = IsWritableDialogue dialogue × AllWritable components
IsWritableMessage (end destination dialogue components) = IsWritableDialogue dialogue × AllWritable components
IsWritableMessage (continuing originating destination dialogue components) = IsWritableDialogue dialogue × AllWritable components
IsWritableMessage (abort destination reason) = IsWritableReason reason

-- an element, if it is there
abbrev pub only : Option Tree → Trees
only None = none
only (Some t) = more t none
