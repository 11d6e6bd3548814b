use Rattle.std.proofs.Common.{◌≡◌, ◌++◌, rules, sym}
use Rattle.fp_ber.specs.declared.element.Class.TheVariants.{Universal, Context}
use Rattle.fp_ber.specs.Canon.{canon}
use Rattle.fp_ber.specs.Tree.{primitive, constructed, none, more}
use Rattle.fp_digits.specs.Called.{called_octets}
use Rattle.fp_ber.specs.Putting.{alone, end_of_end}
use Rattle.fp_inap.proofs.connect.write_connect.Goals.{then-is_err-via-then-is_err, then-is_err-via-else-is_err+then-is_err-2, then-is_err-via-else-is_err+else-is_err-2+then-is_err-3}
use Rattle.fp_inap.proofs.connect.write_connect.Goals as goal

pub returns-then-is_err-clause-err : goal.returns-then-is_err-clause-err
returns-then-is_err-clause-err c =
    c.keep_last.ensures.some c.args.out.now (elim c.then-is_err.branch [
      | then-is_err-via-then-is_err w ↦ search rules
      | then-is_err-via-else-is_err+then-is_err-2 w ↦ search (rules, end_of_end)
      | then-is_err-via-else-is_err+else-is_err-2+then-is_err-3 w ↦ search (rules, end_of_end)
    ]) (sym c.len-start.ensures.value)

pub returns-clause-ok : goal.returns-clause-ok
returns-clause-ok c =
    let number = primitive Universal 4 (called_octets c.args.destination.now) in
    let address = constructed Context 0 (more number none) in
    let rest = c.args.out.now in
    let behind = sym c.len-start.ensures.value in
    let put : c.put_primitive.new.self ≡ canon (primitive Universal 4 c.as_slice.result.now) ++ rest = search rules in
    let numbered = alone number rest _ (rw (c.as_slice.ensures.value, c.write_called-number.ensures.octets) at put) in
    let held = c.put_constructed.ensures.ok (more number none) rest numbered behind in
    let addressed : c.put_constructed.new.self ≡ canon address ++ rest = search rules in
    let whole = c.put_constructed-else-is_err-2.ensures.ok (more address none) rest (alone address rest _ addressed) behind in search rules
