use Rattle.std.proofs.Common.{[], ◌∷◌, sym}
use Rattle.fp_ber.specs.declared.element.Class.TheVariants.{Context}
use Rattle.fp_ber.specs.Tree.{primitive, none, more}
use Rattle.fp_apdu.specs.Abrt.{service_user}
use Rattle.fp_ber.specs.Putting.{alone}
use Rattle.fp_apdu.proofs.abrt.write_apdu.Goals as goal

pub returns-clause-ok : goal.returns-clause-ok
returns-clause-ok c =
    let told = primitive Context 0 (service_user ∷ []) in
    c.put_constructed.ensures.ok (more told none) c.args.out.now (alone told _ _ c.in_ok-put_primitive.ensures.ok) (sym c.len-behind.ensures.value)
