-- A dialogue portion before components.
use Rattle.std.proofs.Common.{map}
use Rattle.std.proofs.lemmas.Result.{on_ok_weaker}
use Rattle.fp_reply.specs.Reply.{acceptance_portion, component_value}
use Rattle.fp_reply.proofs.Sending.{portions_put}
use Rattle.fp_reply.proofs.Sizes.{components_size}
use Rattle.fp_reply.proofs.message.write_portions.Goals as goal

pub returns-clause-exact : goal.returns-clause-exact
returns-clause-exact c =
    on_ok_weaker c.write_acceptance.result
    (λ put. portions_put (acceptance_portion c.args.acceptance) (map component_value c.args.components.now) c.args.out.now _ _ put
    (rw c.as_slice.ensures.value at c.in_ok-write_components.ensures.exact)) c.write_acceptance.ensures.exact

pub returns-clause-size : goal.returns-clause-size
returns-clause-size c =
    let components = c.args.components.now in
    on_ok_weaker c.write_acceptance.result (λ put. components_size components (rw c.as_slice.ensures.value at c.in_ok-write_components.ensures.components) c.as_slice.ensures.report c.as_slice.ensures.most)
    c.write_acceptance.ensures.exact
