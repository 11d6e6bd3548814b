use Rattle.fp_replay.proofs.OfRuns.{logs_replayed}
use Rattle.fp_replay.proofs.replay_laws.logs_of_runs_are_replayed.Goals as goal

pub returns : goal.returns
returns c = logs_replayed
