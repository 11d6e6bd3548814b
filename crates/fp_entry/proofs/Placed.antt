-- What an element brings, or why it brings nothing, is so of all octets that spell it.
use Rattle.std.proofs.Common.{ℕ, List, Result, Ok, Err, IfOk, IfErr}
use Rattle.fp_ber.specs.Tree.{Tree}
use Rattle.fp_q773.specs.Grammar.{IsMessage}
use Rattle.fp_q773.specs.Value.{MessageValue}
use Rattle.fp_records.specs.Table.{Contents}
use Rattle.fp_entry.specs.declared.failure.Failure.{Failure}
use Rattle.fp_entry.specs.declared.failure.Failure.TheVariants.{Refused, Memory}
use Rattle.fp_entry.specs.declared.fault.Fault.TheVariants.{Unreadable, UnknownMessage, Badly}
use Rattle.fp_entry.specs.declared.incoming.Incoming.{Incoming}
use Rattle.fp_entry.specs.Failure.{IsElementFailure, IsFailure}
use Rattle.fp_entry.specs.Incoming.{IsIncoming}
use Rattle.fp_entry.specs.Prepared.{IsElement, Brings}

pub brought : (r : Result Incoming Failure) (contents : Contents) (contexts : List (List ℕ)) (octets : List ℕ) (moment : ℕ) (t : Tree) → IsElement octets t
    → IfOk r (λ incoming. (message : MessageValue) × IsMessage t message × IsIncoming contents contexts moment message incoming)
    → IfOk r (Brings contents contexts octets moment)
brought (Ok incoming) contents contexts octets moment t is found = (t, found.0, is, found.1, found.2)
brought (Err failure) contents contexts octets moment t is found = tt

pub failed : (r : Result Incoming Failure) (contexts : List (List ℕ)) (octets : List ℕ) (t : Tree) → IsElement octets t
    → IfErr r (IsElementFailure contexts t) → IfErr r (IsFailure contexts octets)
failed (Ok incoming) contexts octets t is why = tt
failed (Err Memory) contexts octets t is why = tt
failed (Err (Refused (Unreadable fault))) contexts octets t is why = absurd why
failed (Err (Refused UnknownMessage)) contexts octets t is why = (t, is, why)
failed (Err (Refused Badly)) contexts octets t is why = (t, is, why)
