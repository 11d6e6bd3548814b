-- How many octets the canonical spelling of a message takes at most: six for the tag and the length of an element,
-- and those of its contents.
use Rattle.std.specs.Prelude.{ℕ, ◌+◌, List, [], ◌∷◌, length, Option, Some, None}
use Rattle.fp_ber.specs.Tree.{Tree}
use Rattle.fp_ber.specs.Canon.{canon}
use Rattle.fp_q773.specs.Value.{CodeValue, ResultValue, ComponentValue, ReasonValue, MessageValue, local, global, returned, invoke, return_result_last, return_error, reject, return_result_not_last, faulty, provider, user, unidirectional, begin, end, continuing, abort}

abbrev pub tree_room : Option Tree → ℕ
tree_room None = 0
tree_room (Some t) = length (canon t)

abbrev pub code_room : CodeValue → ℕ
code_room (local number) = 10
code_room (global octets) = 6 + length octets

abbrev pub result_room : Option ResultValue → ℕ
result_room None = 0
result_room (Some (returned code parameter)) = 6 + code_room code + tree_room parameter

abbrev pub component_room : ComponentValue → ℕ
component_room (invoke identifier linked code parameter) = 20 + code_room code + tree_room parameter
component_room (return_result_last identifier result) = 13 + result_room result
component_room (return_error identifier code parameter) = 13 + code_room code + tree_room parameter
component_room (reject identifier problem) = 20
component_room (return_result_not_last identifier result) = 13 + result_room result
component_room (faulty identifier problem) = 0

abbrev pub components_room : List ComponentValue → ℕ
components_room [] = 0
components_room (component ∷ others) = component_room component + components_room others

abbrev pub reason_room : Option ReasonValue → ℕ
reason_room None = 0
reason_room (Some (provider cause)) = 7
reason_room (Some (user dialogue)) = length (canon dialogue)

abbrev pub message_room : MessageValue → ℕ
message_room unidirectional = 6
message_room (begin originating dialogue components) = 22 + tree_room dialogue + components_room components
message_room (end destination dialogue components) = 22 + tree_room dialogue + components_room components
message_room (continuing originating destination dialogue components) = 32 + tree_room dialogue + components_room components
message_room (abort destination reason) = 16 + reason_room reason
