use Rattle.std.proofs.Common.{◌≡◌, ◌++◌, sym, rules}
use Rattle.fp_ber.specs.Canon.{canon}
use Rattle.fp_ber.specs.Putting.{end_of_end}
use Rattle.fp_apdu.specs.Abrt.{abrt}
use Rattle.fp_apdu.proofs.abrt.write_abrt.Goals.{then-is_err-via-then-is_err, then-is_err-via-else-is_err+then-is_err-2}
use Rattle.fp_apdu.proofs.abrt.write_abrt.Goals as goal

pub write-requires : goal.write-requires
write-requires c = (abrt, c.args.out.now, search rules, sym c.len-behind.ensures.value)

pub returns-then-is_err-clause-err : goal.returns-then-is_err-clause-err
returns-then-is_err-clause-err c =
    c.keep_last.ensures.some c.args.out.now (elim c.then-is_err.branch [
      | then-is_err-via-then-is_err w ↦ search rules
      | then-is_err-via-else-is_err+then-is_err-2 w ↦ search (rules, end_of_end)
    ]) (sym c.len-behind.ensures.value)

pub returns-clause-ok : goal.returns-clause-ok
returns-clause-ok c =
    let put : c.write_apdu.new.out ≡ canon abrt ++ c.args.out.now = search rules in
    let whole = c.write.ensures.ok abrt c.args.out.now put (sym c.len-behind.ensures.value) in search rules
