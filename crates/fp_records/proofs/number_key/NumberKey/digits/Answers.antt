use Rattle.std.proofs.Common.{◌≡◌, ◌-◌, ◌*◌, ◌/◌, ◌%◌, ◌==◌, true, false, arith, append_assoc, refl}
use Rattle.std.proofs.lemmas.Bool.Decides.{nat_tests}
use Rattle.std.proofs.lemmas.List.{append-nil, length-append}
use Rattle.fp_records.specs.Code.{AreDigits, code_of, digits_of_code}
use Rattle.fp_records.proofs.Codes.{digits_again, few_digits, first_digit, no_digit, parts_are}
use Rattle.fp_records.proofs.number_key.NumberKey.digits.Goals as goal

pub loop-rest-init : goal.loop-rest-init
loop-rest-init c =
    let are : AreDigits 15 c.args.self = c.code-rest.ensures.digits in
    let again = digits_again 15 c.args.self are in
    record {
      so_far = rw (c.none-digits.ensures, c.code-rest.ensures.value, again) refl;
      decimal = rw (c.code-rest.ensures.value, again) are;
      room = rw (c.none-digits.ensures, c.code-rest.ensures.value) (omega (arith, few_digits 15 (code_of 15 c.args.self)));
    }

pub loop-rest-preserved : goal.loop-rest-preserved
loop-rest-preserved c =
    let l = c.loop-rest in
    let some : (l.rest / 72057594037927936 == 0) ≡ false = grind (arith, nat_tests, c.loop-rest-test.true) in
    let step = first_digit l.rest some in
    let parts = parts_are (l.rest / 72057594037927936 - 1) (digits_of_code 15 (16 * (l.rest % 72057594037927936))) (rw step at l.invariant.decimal) in
    record {
      so_far = rw (c.push.ensures, append_assoc) (rw step at l.invariant.so_far);
      decimal = parts.1;
      room = rw (c.push.ensures, length-append) (omega (arith, rw step at l.invariant.room));
    }

pub loop-rest-smaller : goal.loop-rest-smaller
loop-rest-smaller c =
    let l = c.loop-rest in
    let some : (l.rest / 72057594037927936 == 0) ≡ false = grind (arith, nat_tests, c.loop-rest-test.true) in
    rw (first_digit l.rest some) (omega arith)

pub returns : goal.returns
returns c =
    let l = c.loop-rest in
    let none : (l.rest / 72057594037927936 == 0) ≡ true = grind (arith, nat_tests, c.loop-rest-test.false) in
    rw (no_digit l.rest none, append-nil) at l.invariant.so_far

pub push-requires-clause-room : goal.push-requires-clause-room
push-requires-clause-room c =
    let l = c.loop-rest in
    let some : (l.rest / 72057594037927936 == 0) ≡ false = grind (arith, nat_tests, c.loop-rest-test.true) in
    omega (arith, rw (first_digit l.rest some) at l.invariant.room)

pub push-requires-clause-digit : goal.push-requires-clause-digit
push-requires-clause-digit c =
    let l = c.loop-rest in
    let some : (l.rest / 72057594037927936 == 0) ≡ false = grind (arith, nat_tests, c.loop-rest-test.true) in
    (parts_are (l.rest / 72057594037927936 - 1) (digits_of_code 15 (16 * (l.rest % 72057594037927936))) (rw (first_digit l.rest some) at l.invariant.decimal)).0
