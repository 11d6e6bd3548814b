use Rattle.std.proofs.Common.{◌-◌, arith}
use Rattle.std.proofs.lemmas.List.{drop_all}
use Rattle.fp_records.proofs.Codes.{are_digits, code_below, code_of_none, next_digit, next_place}
use Rattle.fp_records.proofs.number_key.code_in.Goals as goal

pub overflow_add-code-in-loop-digit : goal.overflow_add-code-in-loop-digit
overflow_add-code-in-loop-digit c =
    let l = c.loop-digit in
    let digits = c.args.digits.now in
    let place = next_place l.digit-index l.place (omega (arith, c.loop-digit-test.true, c.requires.few)) l.invariant.place in
    let all = next_digit digits l.digit-index l.code c.loop-digit-test.true c.requires.few l.invariant.so_far in
    let below = code_below 15 digits (are_digits 15 digits c.requires.few c.requires.decimal) in
    rw (c.from.ensures, place) (omega (arith, all, below))

pub loop-digit-preserved : goal.loop-digit-preserved
loop-digit-preserved c =
    let l = c.loop-digit in
    let place = next_place l.digit-index l.place (omega (arith, c.loop-digit-test.true, c.requires.few)) l.invariant.place in
    record {
      place = place;
      so_far = rw (c.from.ensures, place) (next_digit c.args.digits.now l.digit-index l.code c.loop-digit-test.true c.requires.few l.invariant.so_far);
    }

pub returns : goal.returns
returns c =
    let l = c.loop-digit in
    let none = code_of_none (15 - l.digit-index) in
    let so_far = rw (drop_all l.digit-index c.args.digits.now (omega (arith, c.loop-digit-test.false))) at l.invariant.so_far in
    omega (arith, none, so_far)
