-- An Invoke without a parameter.
use Rattle.std.proofs.Common.{None, w8, refl, sym}
use Rattle.std.proofs.lemmas.Int.{to_z-of_z}
use Rattle.fp_inap.proofs.activity_test.write_activity_test.Goals as goal

pub returns-clause-exact : goal.returns-clause-exact
returns-clause-exact c =
    let put = rw (to_z-of_z w8 c.args.identifier c.ranges.identifier, c.code.ensures) at c.write_invoke.ensures.exact in
    put None c.args.out.now refl (sym c.len-start.ensures.value)
