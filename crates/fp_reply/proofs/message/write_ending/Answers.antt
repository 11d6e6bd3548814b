-- An End around its portions.
use Rattle.std.proofs.Common.{map}
use Rattle.std.proofs.lemmas.Result.{on_ok_weaker}
use Rattle.fp_reply.specs.Reply.{acceptance_portion, component_value}
use Rattle.fp_reply.proofs.Sending.{all_read_back, end_sent}
use Rattle.fp_reply.proofs.message.write_ending.Goals as goal

pub returns-clause-message : goal.returns-clause-message
returns-clause-message c =
    let dialogue = acceptance_portion c.args.acceptance in
    let cs = c.args.components.now in
    let portions = c.in_ok-write_portions.ensures in
    on_ok_weaker c.write_end_message.result
    (λ is. end_sent _ dialogue cs portions.dialogue portions.components portions.size (is dialogue (map component_value cs) portions.dialogue.writable (all_read_back cs portions.components)))
    c.write_end_message.ensures.found
