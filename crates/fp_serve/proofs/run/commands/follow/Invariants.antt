use Rattle.std.specs.Prelude.{OnOk}
use Rattle.fp_serve.specs.Report.{TellsAnswers}
use Rattle.fp_serve.proofs.run.commands.follow.Given as goal

-- unless an answer couldn't be written, what was written are answers
abbrev pub invariant-loop : goal.invariant-loop
invariant-loop g l = OnOk l.outcome (TellsAnswers l.fn.run.service.tables.now l.fn.run.settings.first_link l.fn.run.settings.has_commands (g.W.LinkWrite.contents l.fn.output) (g.W.LinkWrite.contents l.output))
