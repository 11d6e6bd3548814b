use Rattle.std.proofs.lemmas.Result.{on_ok_weaker}
use Rattle.fp_serve.proofs.Answers.{more}
use Rattle.fp_serve.proofs.run.commands.follow.Goals.{in-Ok, in-Err-obey}
use Rattle.fp_serve.proofs.run.commands.follow.Goals as goal

-- what a command wrote comes after what others did
pub returns-then-not-awaits_commands : goal.returns-then-not-awaits_commands
returns-then-not-awaits_commands g c =
    elim c.match-obey.branch [
      | in-Ok w ↦ rw w.outcome-is (on_ok_weaker c.loop.outcome (λ before. more _ _ _ _ _ _ before w.in-Ok.ensures) c.loop.invariant)
      | in-Err-obey w ↦ rw w.outcome-is tt
    ]

pub loop-preserved : goal.loop-preserved
loop-preserved g c =
    elim c.match-obey.branch [
      | in-Ok w ↦ rw w.outcome-is (on_ok_weaker c.loop.outcome (λ before. more _ _ _ _ _ _ before w.in-Ok.ensures) c.loop.invariant)
      | in-Err-obey w ↦ rw w.outcome-is tt
    ]
