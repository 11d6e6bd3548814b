-- A record of fields, and what is wrong with it.
use Rattle.std.specs.Prelude.{ℕ, List, Option, Some, None, Result, Ok, Err, alloc_error, map}
use Rattle.std.specs.Borrow.{Bor}
use Rattle.std.specs.declared.alloc.AllocError.{AllocError}
use Rattle.fp_records.specs.Table.{Contents}
use Rattle.fp_records.specs.declared.fault.Reason.{Reason}
use Rattle.fp_records.specs.declared.fault.RecordsFault.{RecordsFault}
use Rattle.fp_records.specs.declared.fault.RecordsFault.TheVariants.{Record, Memory}

-- the texts of fields
abbrev pub texts : List (Bor (List ℕ)) → List (List ℕ)
texts fields = map (λ field. field.now) fields

-- the reason why nothing was read, if nothing was
abbrev pub fault_in : {A : Type 0} → Result A Reason → Option Reason
fault_in (Ok value) = None
fault_in (Err reason) = Some reason

-- the reason of an answer to a text
abbrev pub reason_in : Result Contents RecordsFault → Result (Option Reason) AllocError
reason_in (Ok table) = Ok None
reason_in (Err (Record at reason)) = Ok (Some reason)
reason_in (Err Memory) = Err alloc_error
