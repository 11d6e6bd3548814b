-- An element with a tag of the table of messages and other contents than its own is badly made.
use Rattle.std.proofs.Common.{◌≡◌, ◌≢◌, ℕ, List, Option, inl, inr, refl, subst}
use Rattle.fp_ber.specs.declared.element.Class.TheVariants.{Application}
use Rattle.fp_ber.specs.Tree.{Tree, Trees, constructed}
use Rattle.fp_q773.specs.declared.fault.MessageFault.{MessageFault}
use Rattle.fp_q773.specs.declared.fault.MessageFault.TheVariants.{UnknownMessage, Badly, Memory}
use Rattle.fp_q773.specs.Value.{ComponentValue, ReasonValue, MessageValue, unidirectional, begin, end, continuing, abort}
use Rattle.fp_q773.specs.Grammar.{IsBegin, IsEnd, IsContinue, IsAbort, IsMessage}
use Rattle.fp_q773.specs.Fault.{IsFault, Refused}

-- the fault of a part is that of the whole, if where the part isn't its own the whole isn't
pub refused_by : (fault : MessageFault) (P Q : Type 0) → (P → Q) → Refused fault P → Refused fault Q
refused_by UnknownMessage P Q step h = h
refused_by Badly P Q step h = step h
refused_by Memory P Q step h = tt

-- elements that a Begin doesn't hold are no message under its tag
no_begin : (ts : Trees) → ((originating : List ℕ) (dialogue : Option Tree) (components : List ComponentValue) → IsBegin ts originating dialogue components → ⊥) → (value : MessageValue)
    → IsMessage (constructed Application 2 ts) value → ⊥
no_begin ts isnt unidirectional h = cc (h.1)
no_begin ts isnt (begin originating dialogue components) h =
    let same : h.0 ≡ ts = cc (h.1) in isnt originating dialogue components (subst (λ u. IsBegin u originating dialogue components) same h.2)
no_begin ts isnt (end destination dialogue components) h = cc (h.1)
no_begin ts isnt (continuing originating destination dialogue components) h = cc (h.1)
no_begin ts isnt (abort destination reason) h = cc (h.1)

-- and so the element is badly made
pub badly_begin : (ts : Trees) → ((originating : List ℕ) (dialogue : Option Tree) (components : List ComponentValue) → IsBegin ts originating dialogue components → ⊥) → IsFault (constructed Application 2 ts) Badly
badly_begin ts isnt = ((2, ts, refl, inr (inl refl)), no_begin ts isnt)

-- unless memory ran out
pub fault_of_begin : (fault : MessageFault) (ts : Trees) → Refused fault ((originating : List ℕ) (dialogue : Option Tree) (components : List ComponentValue) → IsBegin ts originating dialogue components → ⊥)
    → fault ≢ Memory → IsFault (constructed Application 2 ts) fault
fault_of_begin UnknownMessage ts h memory = absurd h
fault_of_begin Badly ts h memory = badly_begin ts h
fault_of_begin Memory ts h memory = absurd (memory refl)

-- elements that an End doesn't hold are no message under its tag
no_end : (ts : Trees) → ((destination : List ℕ) (dialogue : Option Tree) (components : List ComponentValue) → IsEnd ts destination dialogue components → ⊥) → (value : MessageValue)
    → IsMessage (constructed Application 4 ts) value → ⊥
no_end ts isnt unidirectional h = cc (h.1)
no_end ts isnt (begin originating dialogue components) h = cc (h.1)
no_end ts isnt (end destination dialogue components) h =
    let same : h.0 ≡ ts = cc (h.1) in isnt destination dialogue components (subst (λ u. IsEnd u destination dialogue components) same h.2)
no_end ts isnt (continuing originating destination dialogue components) h = cc (h.1)
no_end ts isnt (abort destination reason) h = cc (h.1)

-- and so the element is badly made
pub badly_end : (ts : Trees) → ((destination : List ℕ) (dialogue : Option Tree) (components : List ComponentValue) → IsEnd ts destination dialogue components → ⊥) → IsFault (constructed Application 4 ts) Badly
badly_end ts isnt = ((4, ts, refl, inr (inr (inl refl))), no_end ts isnt)

-- unless memory ran out
pub fault_of_end : (fault : MessageFault) (ts : Trees) → Refused fault ((destination : List ℕ) (dialogue : Option Tree) (components : List ComponentValue) → IsEnd ts destination dialogue components → ⊥)
    → fault ≢ Memory → IsFault (constructed Application 4 ts) fault
fault_of_end UnknownMessage ts h memory = absurd h
fault_of_end Badly ts h memory = badly_end ts h
fault_of_end Memory ts h memory = absurd (memory refl)

-- elements that a Continue doesn't hold are no message under its tag
no_continuing : (ts : Trees) → ((originating destination : List ℕ) (dialogue : Option Tree) (components : List ComponentValue) → IsContinue ts originating destination dialogue components → ⊥) → (value : MessageValue)
    → IsMessage (constructed Application 5 ts) value → ⊥
no_continuing ts isnt unidirectional h = cc (h.1)
no_continuing ts isnt (begin originating dialogue components) h = cc (h.1)
no_continuing ts isnt (end destination dialogue components) h = cc (h.1)
no_continuing ts isnt (continuing originating destination dialogue components) h =
    let same : h.0 ≡ ts = cc (h.1) in isnt originating destination dialogue components (subst (λ u. IsContinue u originating destination dialogue components) same h.2)
no_continuing ts isnt (abort destination reason) h = cc (h.1)

-- and so the element is badly made
pub badly_continuing : (ts : Trees) → ((originating destination : List ℕ) (dialogue : Option Tree) (components : List ComponentValue) → IsContinue ts originating destination dialogue components → ⊥) → IsFault (constructed Application 5 ts) Badly
badly_continuing ts isnt = ((5, ts, refl, inr (inr (inr (inl refl)))), no_continuing ts isnt)

-- unless memory ran out
pub fault_of_continuing : (fault : MessageFault) (ts : Trees) → Refused fault ((originating destination : List ℕ) (dialogue : Option Tree) (components : List ComponentValue) → IsContinue ts originating destination dialogue components → ⊥)
    → fault ≢ Memory → IsFault (constructed Application 5 ts) fault
fault_of_continuing UnknownMessage ts h memory = absurd h
fault_of_continuing Badly ts h memory = badly_continuing ts h
fault_of_continuing Memory ts h memory = absurd (memory refl)

-- elements that an Abort doesn't hold are no message under its tag
no_abort : (ts : Trees) → ((destination : List ℕ) (reason : Option ReasonValue) → IsAbort ts destination reason → ⊥) → (value : MessageValue)
    → IsMessage (constructed Application 7 ts) value → ⊥
no_abort ts isnt unidirectional h = cc (h.1)
no_abort ts isnt (begin originating dialogue components) h = cc (h.1)
no_abort ts isnt (end destination dialogue components) h = cc (h.1)
no_abort ts isnt (continuing originating destination dialogue components) h = cc (h.1)
no_abort ts isnt (abort destination reason) h =
    let same : h.0 ≡ ts = cc (h.1) in isnt destination reason (subst (λ u. IsAbort u destination reason) same h.2)

-- and so the element is badly made
pub badly_abort : (ts : Trees) → ((destination : List ℕ) (reason : Option ReasonValue) → IsAbort ts destination reason → ⊥) → IsFault (constructed Application 7 ts) Badly
badly_abort ts isnt = ((7, ts, refl, inr (inr (inr (inr refl)))), no_abort ts isnt)
