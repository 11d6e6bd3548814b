-- A ReturnError without a parameter.
use Rattle.std.proofs.Common.{None, FitsSigned, w8, w32, refl, rules, sym}
use Rattle.std.proofs.lemmas.Int.{to_z-of_z}
use Rattle.fp_reply.proofs.component.write_error.Goals as goal

pub returns-clause-exact : goal.returns-clause-exact
returns-clause-exact c =
    let fits : FitsSigned w32 c.code.result = search rules in
    let put = rw (to_z-of_z w8 c.args.identifier c.ranges.identifier, to_z-of_z w32 c.code.result fits, c.code.ensures) at c.write_return_error.ensures.exact in
    put None c.args.out.now refl (sym c.len-start.ensures.value)
