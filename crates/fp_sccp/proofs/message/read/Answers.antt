use Rattle.std.proofs.lemmas.Result.{MatchResult-weaker}
use Rattle.fp_sccp.proofs.Messages.{faults_are_no_messages}
use Rattle.fp_sccp.proofs.message.read.Goals as goal

pub returns-clause-none : goal.returns-clause-none
returns-clause-none c =
    MatchResult-weaker c.message_in.result c.message_in.ensures.fault (λ _ any. any)
    (λ fault says value. faults_are_no_messages c.args.octets.now fault value says)
