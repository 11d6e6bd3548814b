-- A Continue around its portions.
use Rattle.std.proofs.Common.{map, sym}
use Rattle.std.proofs.lemmas.Result.{on_ok_weaker}
use Rattle.fp_reply.specs.Reply.{acceptance_portion, component_value}
use Rattle.fp_reply.proofs.Sending.{all_read_back, continuing_sent}
use Rattle.fp_reply.proofs.message.write_continuing.Goals as goal

pub returns-clause-exact : goal.returns-clause-exact
returns-clause-exact c =
    rw c.of_number.ensures at (c.write_continue_message.ensures.exact (acceptance_portion c.args.acceptance) (map component_value c.args.components.now) c.args.out.now
    c.in_ok-write_portions.ensures.exact (sym c.len-start.ensures.value))

pub returns-clause-message : goal.returns-clause-message
returns-clause-message c =
    let dialogue = acceptance_portion c.args.acceptance in
    let cs = c.args.components.now in
    let portions = c.in_ok-write_portions.ensures in
    let found = rw c.of_number.ensures at c.write_continue_message.ensures.found in
    on_ok_weaker c.write_continue_message.result
    (λ is. continuing_sent _ _ dialogue cs portions.dialogue portions.components portions.size (is dialogue (map component_value cs) portions.dialogue.writable (all_read_back cs portions.components)))
    found
