-- An Invoke around its argument.
use Rattle.std.proofs.Common.{FitsSigned, w8, w32, rules}
use Rattle.std.proofs.lemmas.Int.{to_z-of_z}
use Rattle.std.proofs.lemmas.Result.{on_ok_weaker}
use Rattle.fp_reply.specs.Reply.{argument_of}
use Rattle.fp_reply.proofs.Sending.{invoke_sent}
use Rattle.fp_reply.proofs.component.write_instruction.Goals as goal

pub returns-clause-component : goal.returns-clause-component
returns-clause-component c =
    let instruction = c.args.instruction.now in
    let fits : FitsSigned w32 c.code.result = search rules in
    let found = rw (to_z-of_z w8 c.args.identifier c.ranges.identifier, to_z-of_z w32 c.code.result fits, c.code.ensures, c.operation.ensures) at c.write_invoke.ensures.found in
    on_ok_weaker c.write_invoke.result
    (λ is. invoke_sent c.args.identifier instruction c.in_ok-write_argument.ensures.argument (is (argument_of instruction))) found
