-- Which elements are no messages, and what reading answers.
use Rattle.std.specs.Prelude.{◌≡◌, ℕ, Result, Ok, Err, ◌⊎◌}
use Rattle.fp_ber.specs.declared.element.Class.TheVariants.{Application}
use Rattle.fp_ber.specs.Tree.{Tree, Trees, constructed}
use Rattle.fp_q773.specs.declared.fault.MessageFault.{MessageFault}
use Rattle.fp_q773.specs.declared.fault.MessageFault.TheVariants.{UnknownMessage, Badly, Memory}
use Rattle.fp_q773.specs.declared.message.Message.{Message}
use Rattle.fp_q773.specs.Value.{MessageValue}
use Rattle.fp_q773.specs.View.{message_value}
use Rattle.fp_q773.specs.Grammar.{IsMessage}

-- a tag of the table of messages
abbrev pub IsKnown : Tree → Type 0
IsKnown t =
    (number : ℕ) × (ts : Trees) × (t ≡ constructed Application number ts)
    × ((number ≡ 1) ⊎ (number ≡ 2) ⊎ (number ≡ 4) ⊎ (number ≡ 5) ⊎ (number ≡ 7))

-- an element with another tag is no known message; one with a tag of the table and other contents is badly made
abbrev pub IsFault : Tree → MessageFault → Type 0
IsFault t UnknownMessage = IsKnown t → ⊥
IsFault t Badly = IsKnown t × ((value : MessageValue) → IsMessage t value → ⊥)
IsFault t Memory = ⊥

-- the fault of a part whose contents are not its own, unless memory ran out
abbrev pub Refused : MessageFault → Type 0 → Type 0
Refused UnknownMessage P = ⊥
Refused Badly P = P
Refused Memory P = Unit {0}

-- the answer is this message, unless memory ran out
abbrev pub Reads : Result Message MessageFault → MessageValue → Type 0
Reads (Ok message) value = message_value message ≡ value
Reads (Err fault) value = fault ≡ Memory

-- the answer is this fault, unless memory ran out
abbrev pub Refuses : Result Message MessageFault → MessageFault → Type 0
Refuses (Ok message) fault = ⊥
Refuses (Err other) fault = (other ≡ Memory) ⊎ (other ≡ fault)
