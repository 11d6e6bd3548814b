use Rattle.std.proofs.Common.{rules}
use Rattle.std.proofs.lemmas.Result.{on_ok_weaker}
use Rattle.fp_serve.proofs.Answers.{of_number}
use Rattle.fp_serve.proofs.run.commands.answer_number.Goals as goal

-- it was told what is counted for the number
pub returns-in-Ok : goal.returns-in-Ok
returns-in-Ok g c =
    let text = c.as_str.ensures.value in
    let tells = of_number c.args.run.now.service.tables.now c.args.run.now.settings.first_link c.args.run.now.settings.has_commands _ _ _ c.in-Ok.ensures (search rules) in
    on_ok_weaker c.write_flushed.result tells (rw text at c.write_flushed.ensures)
