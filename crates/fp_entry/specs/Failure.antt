-- Why reading gives no message: a refusal is the octets', the element's or the message's, want of memory aside.
use Rattle.std.specs.Prelude.{◌≡◌, ℕ, List, ⊤}
use Rattle.fp_ber.specs.Tree.{Tree}
use Rattle.fp_q773.specs.Value.{MessageValue}
use Rattle.fp_entry.specs.declared.failure.Failure.{Failure}
use Rattle.fp_entry.specs.declared.failure.Failure.TheVariants.{Refused, Memory}
use Rattle.fp_entry.specs.declared.fault.Fault.TheVariants.{Badly}
use Rattle.fp_entry.specs.Incoming.{OpensNothing}
use Rattle.fp_entry.specs.Prepared.{IsElementFault, IsRefused}

abbrev pub IsFailure : List (List ℕ) → List ℕ → Failure → Type 0
IsFailure contexts octets (Refused fault) = IsRefused contexts octets fault
IsFailure contexts octets Memory = ⊤

abbrev pub IsElementFailure : List (List ℕ) → Tree → Failure → Type 0
IsElementFailure contexts element (Refused fault) = IsElementFault contexts element fault
IsElementFailure contexts element Memory = ⊤

abbrev pub IsMessageFailure : List (List ℕ) → MessageValue → Failure → Type 0
IsMessageFailure contexts message (Refused fault) = (fault ≡ Badly) × OpensNothing contexts message
IsMessageFailure contexts message Memory = ⊤
