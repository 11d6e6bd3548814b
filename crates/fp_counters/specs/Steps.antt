-- What each step of a link's log counts, by the kinds of its messages (Q.773, 4.2.1), what became of them, and what became
-- of the requests of the service.
use Rattle.std.specs.Prelude.{ℕ, ◌==◌, List, [], ◌∷◌, ◌++◌, if◌then◌else◌}
use Rattle.fp_book.specs.declared.answers.Given.{Given}
use Rattle.fp_book.specs.declared.answers.Given.TheVariants as given
use Rattle.fp_book.specs.declared.answers.Posted.{Posted}
use Rattle.fp_book.specs.declared.answers.Posted.TheVariants as posted
use Rattle.fp_book.specs.declared.line.LoggedStep.{LoggedStep}
use Rattle.fp_book.specs.declared.line.LoggedStep.TheVariants as steps
use Rattle.fp_q773.specs.Ids.{kind_of}
use Rattle.fp_q773.specs.declared.kind.Kind.{Kind}
use Rattle.fp_q773.specs.declared.kind.Kind.TheVariants as kinds
use Rattle.fp_q773.specs.declared.provider_abort.AbortCause.{AbortCause}
use Rattle.fp_q773.specs.declared.provider_abort.AbortCause.TheVariants as causes
use Rattle.fp_counters.specs.declared.counter.Counter.{Counter}
use Rattle.fp_counters.specs.declared.counter.Counter.TheVariants as counters
use Rattle.fp_counters.specs.Counted.{Increase, once}

-- this many events of a counter
abbrev pub times : Counter → ℕ → Increase
times counter amount = record { counter = counter; amount = amount }

-- the kind of a message, by its first octet
abbrev pub kind_in : List ℕ → Kind
kind_in [] = kinds.Unknown
kind_in (first ∷ octets) = kind_of first

abbrev pub kind_counter : Kind → Counter
kind_counter kinds.Unidirectional = counters.Unidirectionals
kind_counter kinds.Begin = counters.Begins
kind_counter kinds.End = counters.Ends
kind_counter kinds.Continue = counters.Continues
kind_counter kinds.Abort = counters.Aborts
kind_counter kinds.Unknown = counters.UnknownMessages

-- an Abort of the provider waits to be sent
abbrev pub cause_counter : AbortCause → Counter
cause_counter causes.UnrecognizedMessageType = counters.RefusedUnknownMessage
cause_counter causes.UnrecognizedTransactionIdentifier = counters.RefusedUnknownTransaction
cause_counter causes.BadlyFormattedTransactionPortion = counters.RefusedBadTransaction
cause_counter causes.IncorrectTransactionPortion = counters.RefusedIncorrectTransaction
cause_counter causes.ResourceLimitation = counters.RefusedLimit

-- what became of a message
abbrev pub posted_counter : Posted → Counter
posted_counter (posted.Opened local) = counters.Opened
posted_counter (posted.Accepted count) = counters.Accepted
posted_counter (posted.Aborted cause) = cause_counter cause
posted_counter posted.Ended = counters.Ended
posted_counter posted.Discarded = counters.Discarded

-- an End or an Abort that is accepted ends its dialogue
abbrev pub ended_by_peer : Kind → Posted → List Increase
ended_by_peer kinds.End (posted.Accepted count) = once counters.EndedByPeer ∷ []
ended_by_peer kinds.Abort (posted.Accepted count) = once counters.EndedByPeer ∷ []
ended_by_peer kind answer = []

-- a message is one of its kind, and one of what became of it
abbrev pub message_counts : List ℕ → Posted → List Increase
message_counts message answer =
    ended_by_peer (kind_in message) answer ++ (once (posted_counter answer) ∷ once (kind_counter (kind_in message)) ∷ [])

abbrev pub given_counts : Given → List Increase
given_counts given.Silent = []
given_counts (given.Queued count) = times counters.RequestsQueued count ∷ []
given_counts (given.Dropped count) = times counters.RequestsDropped count ∷ []

-- the birth of an Abort of the provider is 0
abbrev pub sent_counter : ℕ → Counter
sent_counter birth = if birth == 0 then counters.ProviderAbortsSent else counters.FramesSent

abbrev pub step_counts : LoggedStep → List Increase
step_counts (steps.Post table moment message answer) = message_counts message answer
step_counts (steps.Lost moment message answer) = once counters.OutOfMemory ∷ message_counts message answer
step_counts (steps.Tick moment added wanting) = times counters.ClockEntries added ∷ times counters.ClockEntriesLeftOut wanting ∷ []
step_counts (steps.Take birth position count) = once counters.TurnsTaken ∷ []
step_counts (steps.Give birth position served given) = times counters.EntriesServed served ∷ given_counts given
step_counts (steps.PutBack birth position) = once counters.TurnsPutBack ∷ []
step_counts (steps.Pick birth) = []
step_counts (steps.Sent birth) = once (sent_counter birth) ∷ []
step_counts (steps.Unsent birth) = once counters.Unsent ∷ []
step_counts steps.Down = []
step_counts (steps.Gap lost) = times counters.LinesLost lost ∷ []

-- the events of these steps, the newest first
abbrev pub counts_of : List LoggedStep → List Increase
counts_of [] = []
counts_of (step ∷ earlier) = step_counts step ++ counts_of earlier
