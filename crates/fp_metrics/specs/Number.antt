-- What is counted of a called number, on all links of a run: a line for each of the counters that a number has, in the
-- order of their places, with the names and labels of /metrics. The number takes the place of the link, as first label.
use Rattle.std.specs.Prelude.{ℕ, List, [], ◌∷◌, ◌++◌, codes, decimal}
use Rattle.fp_counters.specs.Counted.{number_of}
use Rattle.fp_counters.specs.declared.counter.Counter.{Counter}
use Rattle.fp_counters.specs.declared.counter.Counter.TheVariants as counters
use Rattle.fp_counters.specs.declared.counters.Counters.{Counters}
use Rattle.fp_metrics.specs.Text.{each}

-- the counters that a number has: of its dialogues, and of what was sent in them
abbrev pub number_counters : List Counter
number_counters =
    counters.Opened ∷ counters.EndedByPeer ∷ counters.SentContinue ∷ counters.SentEnd ∷ counters.SentUserAbort
    ∷ counters.EndedByService ∷ counters.Connect ∷ counters.ReleaseNoRoute ∷ counters.ReleaseBusy ∷ counters.ReleaseNoAnswer
    ∷ counters.ReleaseRejected ∷ counters.RequestReport ∷ counters.ContinueOperation ∷ counters.ActivityTest
    ∷ counters.MissingCustomerRecord ∷ counters.MissingParameter ∷ counters.UnexpectedComponentSequence
    ∷ counters.UnexpectedDataValue ∷ counters.RejectUnrecognizedComponent ∷ counters.RejectMistypedComponent
    ∷ counters.RejectUnrecognizedOperation ∷ counters.RejectMistypedParameter ∷ counters.RejectUnrecognizedLinkedIdentifier
    ∷ counters.RejectLinkedResponseUnexpected ∷ counters.RejectUnrecognizedResult ∷ counters.RejectResultUnexpected
    ∷ counters.RejectUnrecognizedError ∷ counters.RejectErrorUnexpected ∷ counters.RejectOther ∷ []

-- the name, up to the number
abbrev pub number_front : Counter → List ℕ
number_front counters.Opened = codes "freephone_scp_message_results_total{number=\""
number_front counters.EndedByPeer = codes "freephone_scp_dialogues_ended_by_peer_total{number=\""
number_front counters.EndedByService = codes "freephone_scp_dialogues_ended_by_service_total{number=\""
number_front counters.SentContinue = codes "freephone_scp_messages_sent_total{number=\""
number_front counters.SentEnd = codes "freephone_scp_messages_sent_total{number=\""
number_front counters.SentUserAbort = codes "freephone_scp_messages_sent_total{number=\""
number_front counter = codes "freephone_scp_answers_total{number=\""

-- the labels after the number, up to the value
abbrev pub number_labels : Counter → List ℕ
number_labels counters.Opened = codes "\",result=\"opened\"} "
number_labels counters.EndedByPeer = codes "\"} "
number_labels counters.EndedByService = codes "\"} "
number_labels counters.SentContinue = codes "\",kind=\"continue\"} "
number_labels counters.SentEnd = codes "\",kind=\"end\"} "
number_labels counters.SentUserAbort = codes "\",kind=\"abort\"} "
number_labels counters.Connect = codes "\",kind=\"connect\",cause=\"\"} "
number_labels counters.ReleaseNoRoute = codes "\",kind=\"release_call\",cause=\"3\"} "
number_labels counters.ReleaseBusy = codes "\",kind=\"release_call\",cause=\"17\"} "
number_labels counters.ReleaseNoAnswer = codes "\",kind=\"release_call\",cause=\"19\"} "
number_labels counters.ReleaseRejected = codes "\",kind=\"release_call\",cause=\"21\"} "
number_labels counters.RequestReport = codes "\",kind=\"request_report\",cause=\"\"} "
number_labels counters.ContinueOperation = codes "\",kind=\"continue\",cause=\"\"} "
number_labels counters.ActivityTest = codes "\",kind=\"activity_test\",cause=\"\"} "
number_labels counters.MissingCustomerRecord = codes "\",kind=\"return_error\",cause=\"6\"} "
number_labels counters.MissingParameter = codes "\",kind=\"return_error\",cause=\"7\"} "
number_labels counters.UnexpectedComponentSequence = codes "\",kind=\"return_error\",cause=\"14\"} "
number_labels counters.UnexpectedDataValue = codes "\",kind=\"return_error\",cause=\"15\"} "
number_labels counters.RejectUnrecognizedComponent = codes "\",kind=\"reject\",cause=\"general 0\"} "
number_labels counters.RejectMistypedComponent = codes "\",kind=\"reject\",cause=\"general 1\"} "
number_labels counters.RejectUnrecognizedOperation = codes "\",kind=\"reject\",cause=\"invoke 1\"} "
number_labels counters.RejectMistypedParameter = codes "\",kind=\"reject\",cause=\"invoke 2\"} "
number_labels counters.RejectUnrecognizedLinkedIdentifier = codes "\",kind=\"reject\",cause=\"invoke 5\"} "
number_labels counters.RejectLinkedResponseUnexpected = codes "\",kind=\"reject\",cause=\"invoke 6\"} "
number_labels counters.RejectUnrecognizedResult = codes "\",kind=\"reject\",cause=\"result 0\"} "
number_labels counters.RejectResultUnexpected = codes "\",kind=\"reject\",cause=\"result 1\"} "
number_labels counters.RejectUnrecognizedError = codes "\",kind=\"reject\",cause=\"error 0\"} "
number_labels counters.RejectErrorUnexpected = codes "\",kind=\"reject\",cause=\"error 1\"} "
number_labels counter = codes "\",kind=\"reject\",cause=\"other\"} "

-- a line: the name, the number that was called, the labels, and the value
abbrev pub number_line : List ℕ → Counters → Counter → List ℕ
number_line called numbers counter =
    number_front counter ++ (called ++ (number_labels counter ++ (decimal (number_of numbers counter) ++ codes "\n")))

abbrev pub number_text : List ℕ → Counters → List ℕ
number_text called numbers = each (number_line called numbers) number_counters
