-- An Abort of the provider (Q.773, 4.2.1): its causes, and the element.
use Rattle.std.specs.Prelude.{ℕ, List, [], ◌∷◌}
use Rattle.fp_ber.specs.declared.element.Class.TheVariants.{Application}
use Rattle.fp_ber.specs.Tree.{Tree, primitive, constructed, none, more}
use Rattle.fp_q773.specs.declared.provider_abort.AbortCause.{AbortCause}
use Rattle.fp_q773.specs.declared.provider_abort.AbortCause.TheVariants.{UnrecognizedMessageType, UnrecognizedTransactionIdentifier, BadlyFormattedTransactionPortion, IncorrectTransactionPortion, ResourceLimitation}

-- the value of a cause
abbrev pub cause_code : AbortCause → ℕ
cause_code UnrecognizedMessageType = 0
cause_code UnrecognizedTransactionIdentifier = 1
cause_code BadlyFormattedTransactionPortion = 2
cause_code IncorrectTransactionPortion = 3
cause_code ResourceLimitation = 4

-- tag 67, holding the destination identifier, tag 49, and the cause, tag 4A
abbrev pub provider_abort : List ℕ → ℕ → Tree
provider_abort destination cause =
    constructed Application 7 (more (primitive Application 9 destination) (more (primitive Application 10 (cause ∷ [])) none))
