-- The fault of the records of a text is the fault of a run.
use Rattle.std.specs.Prelude.{◌≡◌, ℕ, ◌⊎◌}
use Rattle.std.proofs.Common.{ap, inl, inr}
use Rattle.fp_records.specs.declared.fault.Reason.{Reason}
use Rattle.fp_records.specs.declared.fault.RecordsFault.{RecordsFault}
use Rattle.fp_records.specs.declared.fault.RecordsFault.TheVariants.{Memory, Record}
use Rattle.scp.specs.declared.fault.RunFault.TheVariants.{Records}

-- a first faulty record, or memory that ran out
pub of_records : (cause : RecordsFault) (at : ℕ) (reason : Reason)
    → (cause ≡ Record at reason) ⊎ (cause ≡ Memory)
    → (Records cause ≡ Records (Record at reason)) ⊎ (Records cause ≡ Records Memory)
of_records cause at reason (inl e) = inl (ap Records e)
of_records cause at reason (inr e) = inr (ap Records e)
