-- Why the records of a text aren't written as a file of version 2.
use Rattle.std.specs.Prelude.{◌≡◌, ℕ, ◌⊎◌, List, Option, Err}
use Rattle.fp_ask.specs.declared.fault.AskFault.TheVariants.{WriteFault}
use Rattle.fp_records.specs.Table.{Reads}
use Rattle.fp_records.specs.declared.fault.RecordsFault.{RecordsFault}
use Rattle.scp.specs.declared.fault.RunFault.{RunFault}
use Rattle.scp.specs.declared.fault.RunFault.TheVariants.{Ask, Records}

-- the records of a text have this fault, and what the output contains is unchanged
abbrev pub IsFaulty : List (List (List ℕ)) → Option (List ℕ) → Option (List ℕ) → RunFault → Type 0
IsFaulty rows old new fault =
    (cause : RecordsFault) × (fault ≡ Records cause) × Reads (Err cause) rows × (new ≡ old)

-- the records have a fault and nothing was written, or the output failed
abbrev pub Stops : List (List (List ℕ)) → Option (List ℕ) → Option (List ℕ) → RunFault → Type 0
Stops rows old new fault = IsFaulty rows old new fault ⊎ (fault ≡ Ask WriteFault)
