-- The parts of a message that is sent: each is in the grammar and can be spelled, and its octets are bounded. A tag
-- takes one octet, and a length one, or two from 128 octets on (X.690, 8.1).
use Rattle.std.specs.Prelude.{◌≤◌, List, [], ◌∷◌, length, Option, ⊤, if◌then◌else◌}
use Rattle.fp_ber.specs.Canon.{HasLengths, canon}
use Rattle.fp_ber.specs.Tree.{InRange, Tree}
use Rattle.fp_q773.specs.Copied.{ComponentHasTags, CopiesHaveTags, CopyHasTags}
use Rattle.fp_q773.specs.Grammar.{IsMessage}
use Rattle.fp_q773.specs.Room.{tree_room}
use Rattle.fp_q773.specs.Value.{MessageValue}
use Rattle.fp_q773.specs.Writable.{IsWritable, IsWritableDialogue, IsWritableMessage}
use Rattle.fp_q773.specs.Written.{IsReadBack, component_tree, written}
use Rattle.fp_reply.specs.Reply.{argument_of, component_value}
use Rattle.fp_service.specs.Components.{is_request_report, requests_report}
use Rattle.fp_service.specs.declared.component.Component.{Component}
use Rattle.fp_service.specs.declared.instruction.Instruction.{Instruction}

-- the argument of RequestReportBCSMEvent takes 69 octets, and any other one at most 16, as that of Connect to 15 digits
pub record IsArgument (instruction : Instruction) : Type 0 where
  pub tags : CopyHasTags (argument_of instruction)
  pub size : tree_room (argument_of instruction) ≤ (if is_request_report instruction then 69 else 16)

-- a dialogue portion takes at most 101 octets, as an AARE with a name of 64 octets does
pub record IsDialoguePortion (portion : Option Tree) : Type 0 where
  pub writable : IsWritableDialogue portion
  pub tags : CopyHasTags portion
  pub size : tree_room portion ≤ 101

-- an Invoke takes eight octets and its argument; any other component takes eight at most
pub record IsComponent (component : Component) : Type 0 where
  pub is : IsReadBack (component_value component)
  pub writable : IsWritable (component_value component)
  pub tags : ComponentHasTags (component_value component)
  pub size : length (canon (component_tree (component_value component))) ≤ (if requests_report component then 77 else 24)

abbrev pub AreComponents : List Component → Type 0
AreComponents [] = ⊤
AreComponents (component ∷ others) = IsComponent component × AreComponents others

-- a message that can be written and is read back as itself, in at most 219 octets: six for each of two identifiers, 101
-- for a dialogue portion, 77 and 24 for two components, and five for the tags and lengths around these and around all
pub record CanBeSent (message : MessageValue) : Type 0 where
  pub is : IsMessage (written message) message
  pub writable : IsWritableMessage message
  pub tags : CopiesHaveTags message
  pub size : length (canon (written message)) ≤ 219

-- an element that can be spelled and read again, in at most 219 octets
pub record IsSpelled (element : Tree) : Type 0 where
  pub in_range : InRange element
  pub lengths : HasLengths element
  pub size : length (canon element) ≤ 219
