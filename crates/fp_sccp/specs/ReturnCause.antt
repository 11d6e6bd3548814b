-- The return cause (Q.713, 3.12).
use Rattle.std.specs.Prelude.{◌≡◌, ℕ, ◌<◌, Option, Some, None}
use Rattle.fp_sccp.specs.declared.return_cause.ReturnCause.{ReturnCause}
use Rattle.fp_sccp.specs.declared.return_cause.ReturnCause.TheVariants.{NoTranslationForSuch, NoTranslationForThis, SubsystemCongestion, SubsystemFailure, UnequippedUser, MtpFailure, NetworkCongestion, Unqualified, ErrorInMessageTransport, ErrorInLocalProcessing, DestinationCannotPerformReassembly, SccpFailure, HopCounterViolation, SegmentationNotSupported, SegmentationFailure}

-- the code of a cause
abbrev pub cause_code : ReturnCause → ℕ
cause_code NoTranslationForSuch = 0
cause_code NoTranslationForThis = 1
cause_code SubsystemCongestion = 2
cause_code SubsystemFailure = 3
cause_code UnequippedUser = 4
cause_code MtpFailure = 5
cause_code NetworkCongestion = 6
cause_code Unqualified = 7
cause_code ErrorInMessageTransport = 8
cause_code ErrorInLocalProcessing = 9
cause_code DestinationCannotPerformReassembly = 10
cause_code SccpFailure = 11
cause_code HopCounterViolation = 12
cause_code SegmentationNotSupported = 13
cause_code SegmentationFailure = 14

-- the cause of this code, or none for a code that Q.713 doesn't name
abbrev pub HasCause : ℕ → Option ReturnCause → Type 0
HasCause code (Some cause) = cause_code cause ≡ code
HasCause code None = 14 < code
