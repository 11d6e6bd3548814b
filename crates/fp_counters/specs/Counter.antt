-- What is counted on a link, and in which place.
use Rattle.std.specs.Prelude.{◌≡◌, ℕ, List, [], ◌∷◌, Some}
use Rattle.std.specs.List.{slice_get}
use Rattle.fp_counters.specs.declared.counter.Counter.{Counter}
use Rattle.fp_counters.specs.declared.counter.Counter.TheVariants as counters

-- the number of counters
abbrev pub most_counters : ℕ
most_counters = 74

-- the place of a counter, in the order in which they are declared
abbrev pub place_of : Counter → ℕ
place_of counters.Begins = 0
place_of counters.Continues = 1
place_of counters.Ends = 2
place_of counters.Aborts = 3
place_of counters.Unidirectionals = 4
place_of counters.UnknownMessages = 5
place_of counters.Opened = 6
place_of counters.Accepted = 7
place_of counters.Ended = 8
place_of counters.Discarded = 9
place_of counters.RefusedUnknownMessage = 10
place_of counters.RefusedUnknownTransaction = 11
place_of counters.RefusedBadTransaction = 12
place_of counters.RefusedIncorrectTransaction = 13
place_of counters.RefusedLimit = 14
place_of counters.OutOfMemory = 15
place_of counters.EndedByPeer = 16
place_of counters.ClockEntries = 17
place_of counters.ClockEntriesLeftOut = 18
place_of counters.TurnsTaken = 19
place_of counters.TurnsPutBack = 20
place_of counters.EntriesServed = 21
place_of counters.RequestsQueued = 22
place_of counters.RequestsDropped = 23
place_of counters.FramesSent = 24
place_of counters.ProviderAbortsSent = 25
place_of counters.Unsent = 26
place_of counters.LinesLost = 27
place_of counters.SentContinue = 28
place_of counters.SentEnd = 29
place_of counters.SentUserAbort = 30
place_of counters.EndedByService = 31
place_of counters.SentUnknownMessage = 32
place_of counters.SentUnknownTransaction = 33
place_of counters.SentBadTransaction = 34
place_of counters.SentIncorrectTransaction = 35
place_of counters.SentLimit = 36
place_of counters.Connect = 37
place_of counters.ReleaseNoRoute = 38
place_of counters.ReleaseBusy = 39
place_of counters.ReleaseNoAnswer = 40
place_of counters.ReleaseRejected = 41
place_of counters.RequestReport = 42
place_of counters.ContinueOperation = 43
place_of counters.ActivityTest = 44
place_of counters.MissingCustomerRecord = 45
place_of counters.MissingParameter = 46
place_of counters.UnexpectedComponentSequence = 47
place_of counters.UnexpectedDataValue = 48
place_of counters.RejectUnrecognizedComponent = 49
place_of counters.RejectMistypedComponent = 50
place_of counters.RejectUnrecognizedOperation = 51
place_of counters.RejectMistypedParameter = 52
place_of counters.RejectUnrecognizedLinkedIdentifier = 53
place_of counters.RejectLinkedResponseUnexpected = 54
place_of counters.RejectUnrecognizedResult = 55
place_of counters.RejectResultUnexpected = 56
place_of counters.RejectUnrecognizedError = 57
place_of counters.RejectErrorUnexpected = 58
place_of counters.RejectOther = 59
place_of counters.HeldBack = 60
place_of counters.LinesWritten = 61
place_of counters.EndPeerClosed = 62
place_of counters.EndBadFrameLength = 63
place_of counters.EndInsideFrame = 64
place_of counters.EndReadFault = 65
place_of counters.EndWriteFault = 66
place_of counters.EndMemory = 67
place_of counters.EndEntries = 68
place_of counters.EndLogFault = 69
place_of counters.EndPeerGone = 70
place_of counters.EndRunFault = 71
place_of counters.EndLimit = 72
place_of counters.EndQuit = 73

-- each counter once
abbrev pub all_counters : List Counter
all_counters =
    counters.Begins ∷
    counters.Continues ∷
    counters.Ends ∷
    counters.Aborts ∷
    counters.Unidirectionals ∷
    counters.UnknownMessages ∷
    counters.Opened ∷
    counters.Accepted ∷
    counters.Ended ∷
    counters.Discarded ∷
    counters.RefusedUnknownMessage ∷
    counters.RefusedUnknownTransaction ∷
    counters.RefusedBadTransaction ∷
    counters.RefusedIncorrectTransaction ∷
    counters.RefusedLimit ∷
    counters.OutOfMemory ∷
    counters.EndedByPeer ∷
    counters.ClockEntries ∷
    counters.ClockEntriesLeftOut ∷
    counters.TurnsTaken ∷
    counters.TurnsPutBack ∷
    counters.EntriesServed ∷
    counters.RequestsQueued ∷
    counters.RequestsDropped ∷
    counters.FramesSent ∷
    counters.ProviderAbortsSent ∷
    counters.Unsent ∷
    counters.LinesLost ∷
    counters.SentContinue ∷
    counters.SentEnd ∷
    counters.SentUserAbort ∷
    counters.EndedByService ∷
    counters.SentUnknownMessage ∷
    counters.SentUnknownTransaction ∷
    counters.SentBadTransaction ∷
    counters.SentIncorrectTransaction ∷
    counters.SentLimit ∷
    counters.Connect ∷
    counters.ReleaseNoRoute ∷
    counters.ReleaseBusy ∷
    counters.ReleaseNoAnswer ∷
    counters.ReleaseRejected ∷
    counters.RequestReport ∷
    counters.ContinueOperation ∷
    counters.ActivityTest ∷
    counters.MissingCustomerRecord ∷
    counters.MissingParameter ∷
    counters.UnexpectedComponentSequence ∷
    counters.UnexpectedDataValue ∷
    counters.RejectUnrecognizedComponent ∷
    counters.RejectMistypedComponent ∷
    counters.RejectUnrecognizedOperation ∷
    counters.RejectMistypedParameter ∷
    counters.RejectUnrecognizedLinkedIdentifier ∷
    counters.RejectLinkedResponseUnexpected ∷
    counters.RejectUnrecognizedResult ∷
    counters.RejectResultUnexpected ∷
    counters.RejectUnrecognizedError ∷
    counters.RejectErrorUnexpected ∷
    counters.RejectOther ∷
    counters.HeldBack ∷
    counters.LinesWritten ∷
    counters.EndPeerClosed ∷
    counters.EndBadFrameLength ∷
    counters.EndInsideFrame ∷
    counters.EndReadFault ∷
    counters.EndWriteFault ∷
    counters.EndMemory ∷
    counters.EndEntries ∷
    counters.EndLogFault ∷
    counters.EndPeerGone ∷
    counters.EndRunFault ∷
    counters.EndLimit ∷
    counters.EndQuit ∷
    []

-- each counter is in its place among all
abbrev pub AreListed : Type 0
AreListed = (counter : Counter) → slice_get all_counters (place_of counter) ≡ Some counter
