use Rattle.std.proofs.Common.{rules, ◌∙◌}
use Rattle.std.proofs.lemmas.Result.{on_ok_weaker}
use Rattle.fp_serve.proofs.Answers.{of_links, reloaded}
use Rattle.fp_serve.proofs.run.commands.obey.Goals as goal

-- the line of the table that replaced another was written
pub returns-in-Some : goal.returns-in-Some
returns-in-Some g c = on_ok_weaker c.write_reloaded.result (reloaded _ _ _ _ _ c.in-Some.index c.in-Some.ensures) c.write_reloaded.ensures

-- it was told how far the links are
pub returns-in-Ok : goal.returns-in-Ok
returns-in-Ok g c =
    let told = c.in-Ok.ensures in
    let text = c.as_str.ensures.value ∙ told.1 in
    let tells = of_links c.args.run.now.service.tables.now c.args.run.now.settings.first_link c.args.run.now.settings.has_commands _ _ told.0 (search rules) in
    on_ok_weaker c.write_flushed.result tells (rw text at c.write_flushed.ensures)
