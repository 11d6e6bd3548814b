use Rattle.std.proofs.Common.{◌≡◌, arith, refl}
use Rattle.std.proofs.Math.Nat.{mod-lt}
use Rattle.std.proofs.lemmas.Nat.{div-add-mod'}
use Rattle.fp_records.specs.Code.{code_of}
use Rattle.fp_records.proofs.Codes.{are_digits, digits_again}
use Rattle.fp_records.proofs.number_key.NumberKey.new.Goals as goal

pub invariant_of-result : goal.invariant_of-result
invariant_of-result c =
    let number = c.args.number.now in
    let code = c.code_in-code.result in
    let is : code ≡ code_of 15 number = rw c.as_slice.ensures.value at c.code_in-code.ensures in
    let are = are_digits 15 number c.as_slice.ensures.most c.as_slice.ensures.decimal in
    let again = digits_again 15 number are in
    record {
      fits = mod-lt code (omega arith);
      code = rw (div-add-mod' code 4294967296, is) (record { exact = rw again refl; digits = rw again are });
    }

pub returns : goal.returns
returns c =
    let number = c.args.number.now in
    let code = c.code_in-code.result in
    let is : code ≡ code_of 15 number = rw c.as_slice.ensures.value at c.code_in-code.ensures in
    rw (div-add-mod' code 4294967296, is) (digits_again 15 number (are_digits 15 number c.as_slice.ensures.most c.as_slice.ensures.decimal))
