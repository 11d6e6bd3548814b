-- A message can be sent if its parts can.
use Rattle.std.proofs.Common.{◌≡◌, ℕ, ℤ, ◌<◌, ◌≤◌, List, [], ◌∷◌, ◌++◌, length, map, Option, Some, None, option_map, All, append-nil, ◌∙◌, arith}
use Rattle.std.proofs.lemmas.List.Elements.{All-cons, All-nil}
use Rattle.fp_ber.specs.declared.element.Class.TheVariants.{Application}
use Rattle.fp_ber.specs.Canon.{canon, canon_of_all}
use Rattle.fp_ber.specs.Putting.{before_others}
use Rattle.fp_ber.specs.Tree.{HasTags, InRange, Tree, constructed, more}
use Rattle.fp_inap.specs.declared.operation_error.OperationError.{OperationError}
use Rattle.fp_q773.proofs.Rooms.{has_lengths}
use Rattle.fp_q773.specs.Copied.{ComponentsHaveTags}
use Rattle.fp_q773.specs.Grammar.{IsMessage}
use Rattle.fp_q773.specs.Laws.{WrittenHasTags}
use Rattle.fp_q773.specs.Room.{tree_room}
use Rattle.fp_q773.specs.Tid.{IsTid}
use Rattle.fp_q773.specs.Value.{ComponentValue, MessageValue, abort, continuing, end, user}
use Rattle.fp_q773.specs.Writable.{AllWritable, only}
use Rattle.fp_q773.specs.Written.{IsReadBack, component_trees, destination_tree, originating_tree, portion_trees, portions_trees, written}
use Rattle.fp_reply.specs.Part.{AreComponents, CanBeSent, IsArgument, IsComponent, IsDialoguePortion, IsSpelled}
use Rattle.fp_reply.specs.Reply.{component_value}
use Rattle.fp_reply.proofs.Sizes.{component_size, identifier_size, message_size, portions_size}
use Rattle.fp_service.specs.declared.component.Component.{Component}
use Rattle.fp_service.specs.declared.component.Component.TheVariants.{Invoke, ReturnError}
use Rattle.fp_service.specs.declared.instruction.Instruction.{Instruction}

-- an Invoke, and an error
pub invoke_sent : (identifier : ℤ) (instruction : Instruction) → IsArgument instruction → IsReadBack (component_value (Invoke identifier instruction))
    → IsComponent (Invoke identifier instruction)
invoke_sent identifier instruction argument is = record { is = is; writable = tt; tags = argument.tags; size = component_size (Invoke identifier instruction) argument }

pub error_sent : (identifier : ℤ) (error : OperationError) → IsReadBack (component_value (ReturnError identifier error)) → IsComponent (ReturnError identifier error)
error_sent identifier error is = record { is = is; writable = tt; tags = tt; size = component_size (ReturnError identifier error) tt }

-- the components of a message
pub all_writable : (cs : List Component) → AreComponents cs → AllWritable (map component_value cs)
all_writable [] sound = tt
all_writable (c ∷ cs) sound = (sound.0.writable, all_writable cs sound.1)

pub all_tags : (cs : List Component) → AreComponents cs → ComponentsHaveTags (map component_value cs)
all_tags [] sound = tt
all_tags (c ∷ cs) sound = (sound.0.tags, all_tags cs sound.1)

pub all_read_back : (cs : List Component) → AreComponents cs → All IsReadBack (map component_value cs)
all_read_back [] sound = All-nil IsReadBack
all_read_back (c ∷ cs) sound = All-cons IsReadBack (component_value c) (map component_value cs) sound.0.is (all_read_back cs sound.1)

-- perhaps a dialogue portion, before a component portion
pub portions_put : (dialogue : Option Tree) (cs : List ComponentValue) (rest old new : List ℕ) → new ≡ canon_of_all (only dialogue) ++ old
    → old ≡ canon_of_all (portion_trees cs) ++ rest → new ≡ canon_of_all (portions_trees dialogue cs) ++ rest
portions_put None cs rest old new put were = put ∙ were
portions_put (Some t) cs rest old new put were = before_others t (portion_trees cs) rest old new (rw append-nil at put) were

-- a Continue
pub continuing_sent : (originating destination : List ℕ) (dialogue : Option Tree) (cs : List Component) → IsDialoguePortion dialogue → AreComponents cs
    → length (canon_of_all (component_trees (map component_value cs))) ≤ 101
    → IsMessage (written (continuing originating destination dialogue (map component_value cs))) (continuing originating destination dialogue (map component_value cs))
    → CanBeSent (continuing originating destination dialogue (map component_value cs))
continuing_sent originating destination dialogue cs portion sound small found =
    let portions = portions_trees dialogue (map component_value cs) in
    let most = portions_size dialogue (map component_value cs) portion.size small in
    let end = more (destination_tree destination) portions in
    record {
      is = found;
      writable = (portion.writable, all_writable cs sound);
      tags = (portion.tags, all_tags cs sound);
      size = message_size 5 (more (originating_tree originating) end) (omega arith)
          (identifier_size 8 originating end 210 (omega arith) found.2.1.1 (identifier_size 9 destination portions 204 (omega arith) found.2.2.1.1 most));
    }

-- what comes after the identifier of an End or an Abort
end_size : (number : ℕ) (destination : List ℕ) (dialogue : Option Tree) (cs : List ComponentValue) → number < 31 → IsTid destination → tree_room dialogue ≤ 101
    → length (canon_of_all (component_trees cs)) ≤ 101
    → length (canon (constructed Application number (more (destination_tree destination) (portions_trees dialogue cs)))) ≤ 219
end_size number destination dialogue cs low tid d h =
    let portions = portions_trees dialogue cs in
    let most = identifier_size 9 destination portions 204 (omega arith) tid (portions_size dialogue cs d h) in
    message_size number (more (destination_tree destination) portions) low (omega (arith, most))

-- an End
pub end_sent : (destination : List ℕ) (dialogue : Option Tree) (cs : List Component) → IsDialoguePortion dialogue → AreComponents cs
    → length (canon_of_all (component_trees (map component_value cs))) ≤ 101
    → IsMessage (written (end destination dialogue (map component_value cs))) (end destination dialogue (map component_value cs))
    → CanBeSent (end destination dialogue (map component_value cs))
end_sent destination dialogue cs portion sound small found = record {
  is = found;
  writable = (portion.writable, all_writable cs sound);
  tags = (portion.tags, all_tags cs sound);
  size = end_size 4 destination dialogue (map component_value cs) (omega arith) found.2.1.1 portion.size small;
}

-- an Abort
pub abort_sent : (destination : List ℕ) (dialogue : Option Tree) → IsDialoguePortion dialogue
    → IsMessage (written (abort destination (option_map user dialogue))) (abort destination (option_map user dialogue))
    → CanBeSent (abort destination (option_map user dialogue))
abort_sent destination None portion found =
    record { is = found; writable = tt; tags = tt; size = end_size 7 destination None [] (omega arith) found.2.1.1 portion.size (omega arith) }
abort_sent destination (Some t) portion found =
    record {
      is = found;
      writable = portion.writable;
      tags = portion.tags;
      size = end_size 7 destination (Some t) [] (omega arith) found.2.1.1 portion.size (omega arith);
    }

-- a message that can be sent can be spelled, and read again if at most sixteen elements lie inside each other
pub sent_spelled : WrittenHasTags → (message : MessageValue) → CanBeSent message → (HasTags (written message) → InRange (written message))
    → IsSpelled (written message)
sent_spelled tags message sent in_range =
    let most = sent.size in
    record {
      in_range = in_range (tags message sent.writable sent.is sent.tags);
      lengths = has_lengths (written message) (omega (arith, most));
      size = most;
    }
