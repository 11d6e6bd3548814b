-- What is answered is what the element says.
use Rattle.std.proofs.Common.{◌≡◌, ◌≢◌, Result, Ok, Err, IfOk, IfErr, inl, inr, refl}
use Rattle.fp_ber.specs.Tree.{Tree}
use Rattle.fp_q773.specs.declared.fault.MessageFault.{MessageFault}
use Rattle.fp_q773.specs.declared.fault.MessageFault.TheVariants.{UnknownMessage, Badly, Memory}
use Rattle.fp_q773.specs.declared.message.Message.{Message}
use Rattle.fp_q773.specs.Value.{MessageValue, unidirectional, begin, end, continuing, abort}
use Rattle.fp_q773.specs.View.{message_value}
use Rattle.fp_q773.specs.Grammar.{IsMessage}
use Rattle.fp_q773.specs.Fault.{IsKnown, IsFault, Reads, Refuses}
use Rattle.fp_q773.proofs.Messages.{message_same}

-- a message has a known tag
known : (t : Tree) (value : MessageValue) → IsMessage t value → IsKnown t
known t unidirectional h = (1, h.0, h.1, inl refl)
known t (begin originating dialogue values) h = (2, h.0, h.1, inr (inl refl))
known t (end destination dialogue values) h = (4, h.0, h.1, inr (inr (inl refl)))
known t (continuing originating destination dialogue values) h = (5, h.0, h.1, inr (inr (inr (inl refl))))
known t (abort destination reason) h = (7, h.0, h.1, inr (inr (inr (inr refl))))

-- a message has no fault
no_fault : (t : Tree) (value : MessageValue) (fault : MessageFault) → IsMessage t value → IsFault t fault → ⊥
no_fault t value UnknownMessage h f = f (known t value h)
no_fault t value Badly h f = f.1 value h
no_fault t value Memory h f = f

-- an element has one fault
fault_same : (t : Tree) (a b : MessageFault) → IsFault t a → IsFault t b → a ≡ b
fault_same t UnknownMessage UnknownMessage g h = refl
fault_same t UnknownMessage Badly g h = absurd (g h.0)
fault_same t UnknownMessage Memory g h = absurd h
fault_same t Badly UnknownMessage g h = absurd (h g.0)
fault_same t Badly Badly g h = refl
fault_same t Badly Memory g h = absurd h
fault_same t Memory b g h = absurd g

-- the message is read, unless memory ran out
pub only_this : (r : Result Message MessageFault) (t : Tree) → IfOk r (λ message. IsMessage t (message_value message))
    → IfErr r (λ fault. fault ≢ Memory → IsFault t fault) → (value : MessageValue) → IsMessage t value → Reads r value
only_this (Ok message) t found fault value h = message_same t (message_value message) value found h
only_this (Err UnknownMessage) t found fault value h = absurd (no_fault t value UnknownMessage h (fault (λ e. cc)))
only_this (Err Badly) t found fault value h = absurd (no_fault t value Badly h (fault (λ e. cc)))
only_this (Err Memory) t found fault value h = refl

-- the fault is answered, unless memory ran out
pub first_this : (r : Result Message MessageFault) (t : Tree) → IfOk r (λ message. IsMessage t (message_value message))
    → IfErr r (λ fault. fault ≢ Memory → IsFault t fault) → (fault : MessageFault) → IsFault t fault → Refuses r fault
first_this (Ok message) t found fault f h = no_fault t (message_value message) f found h
first_this (Err UnknownMessage) t found fault f h = inr (fault_same t UnknownMessage f (fault (λ e. cc)) h)
first_this (Err Badly) t found fault f h = inr (fault_same t Badly f (fault (λ e. cc)) h)
first_this (Err Memory) t found fault f h = inl refl
