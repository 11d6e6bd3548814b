-- What was sent on a link: the sum of the numbers of its counters, as far as 64 bits hold it.
use Rattle.std.specs.Prelude.{ℕ, List, [], ◌∷◌}
use Rattle.std.specs.List.{sum_by}
use Rattle.fp_counters.specs.Counted.{capped, number_of}
use Rattle.fp_counters.specs.declared.counter.Counter.{Counter}
use Rattle.fp_counters.specs.declared.counter.Counter.TheVariants as counters
use Rattle.fp_counters.specs.declared.counters.Counters.{Counters}

abbrev pub sum_of : Counters → List Counter → ℕ
sum_of counted kinds = capped (sum_by (number_of counted) kinds)

-- the invokes, errors and Rejects that a link sends
abbrev pub components : List Counter
components =
    counters.Connect ∷ counters.ReleaseNoRoute ∷ counters.ReleaseBusy ∷ counters.ReleaseNoAnswer ∷ counters.ReleaseRejected
    ∷ counters.RequestReport ∷ counters.ContinueOperation ∷ counters.ActivityTest
    ∷ counters.MissingCustomerRecord ∷ counters.MissingParameter ∷ counters.UnexpectedComponentSequence ∷ counters.UnexpectedDataValue
    ∷ counters.RejectUnrecognizedComponent ∷ counters.RejectMistypedComponent ∷ counters.RejectUnrecognizedOperation
    ∷ counters.RejectMistypedParameter ∷ counters.RejectUnrecognizedLinkedIdentifier ∷ counters.RejectLinkedResponseUnexpected
    ∷ counters.RejectUnrecognizedResult ∷ counters.RejectResultUnexpected ∷ counters.RejectUnrecognizedError
    ∷ counters.RejectErrorUnexpected ∷ counters.RejectOther ∷ []

-- the Aborts that it sends: those of the provider, by cause, and those of the service
abbrev pub aborts : List Counter
aborts =
    counters.SentUnknownMessage ∷ counters.SentUnknownTransaction ∷ counters.SentBadTransaction ∷ counters.SentIncorrectTransaction
    ∷ counters.SentLimit ∷ counters.SentUserAbort ∷ []
