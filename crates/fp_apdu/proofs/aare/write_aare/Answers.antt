use Rattle.std.proofs.Common.{◌≡◌, ◌++◌, rules, sym}
use Rattle.fp_ber.specs.Canon.{canon}
use Rattle.fp_ber.specs.Putting.{end_of_end}
use Rattle.fp_apdu.specs.Aare.{aare}
use Rattle.fp_apdu.proofs.Answering.{aare_lengths, aare_size}
use Rattle.fp_apdu.proofs.aare.write_aare.Goals.{then-is_err-via-then-is_err, then-is_err-via-else-is_err+then-is_err-2}
use Rattle.fp_apdu.proofs.aare.write_aare.Goals as goal

pub write-requires : goal.write-requires
write-requires c =
    let put : c.write_apdu.new.out ≡ canon (aare c.as_slice-name.result.now c.args.verdict) ++ c.args.out.now = search rules in
    (aare c.args.name.now c.args.verdict, c.args.out.now, rw c.as_slice-name.ensures.value at put, sym c.len-behind.ensures.value)

pub returns-then-is_err-clause-err : goal.returns-then-is_err-clause-err
returns-then-is_err-clause-err c =
    c.keep_last.ensures.some c.args.out.now (elim c.then-is_err.branch [
      | then-is_err-via-then-is_err w ↦ search rules
      | then-is_err-via-else-is_err+then-is_err-2 w ↦ search (rules, end_of_end)
    ]) (sym c.len-behind.ensures.value)

pub returns-then-is_err-clause-lengths : goal.returns-then-is_err-clause-lengths
returns-then-is_err-clause-lengths c = aare_lengths c.args.name.now c.args.verdict c.as_slice-name.ensures.size

pub returns-then-is_err-clause-size : goal.returns-then-is_err-clause-size
returns-then-is_err-clause-size c = aare_size c.args.name.now c.args.verdict c.as_slice-name.ensures.size

pub returns-clause-ok : goal.returns-clause-ok
returns-clause-ok c =
    let put : c.write_apdu.new.out ≡ canon (aare c.as_slice-name.result.now c.args.verdict) ++ c.args.out.now = search rules in
    let whole = c.write.ensures.ok (aare c.args.name.now c.args.verdict) c.args.out.now
    (rw c.as_slice-name.ensures.value at put) (sym c.len-behind.ensures.value) in search rules

pub returns-clause-lengths : goal.returns-clause-lengths
returns-clause-lengths c = aare_lengths c.args.name.now c.args.verdict c.as_slice-name.ensures.size

pub returns-clause-size : goal.returns-clause-size
returns-clause-size c = aare_size c.args.name.now c.args.verdict c.as_slice-name.ensures.size
