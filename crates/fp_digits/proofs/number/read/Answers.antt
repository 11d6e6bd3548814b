use Rattle.std.proofs.Common.{◌≡◌, ◌∙◌, arith}
use Rattle.fp_digits.specs.Number.{digits_in}
use Rattle.fp_digits.proofs.Reading.{number_of-is, digits_in-odd, digits_in-even}
use Rattle.fp_digits.proofs.number.read.Goals.{then-is_odd-2, else-is_odd-2}
use Rattle.fp_digits.proofs.number.read.Goals as goal

pub returns : goal.returns
returns c =
    let digits_are : c.if-is_odd-2.digits ≡ digits_in c.args.octets.now =
    elim c.if-is_odd-2.branch [
      | then-is_odd-2 w ↦ w.digits-is ∙ digits_in-odd c.args.octets.now _ _ (omega arith) c.digits_in-digits.ensures.digits c.digits_in-digits.ensures.count w.if-is_odd-2.true w.drop_last.ensures
      | else-is_odd-2 w ↦ w.digits-is ∙ digits_in-even c.args.octets.now _ c.digits_in-digits.ensures.digits c.digits_in-digits.ensures.count (omega (arith, c.type_inv.octets 0))
    ] in
    number_of-is c.args.octets.now _ _ (omega arith) (omega arith) (λ odd. omega arith) c.nature_in.ensures digits_are
