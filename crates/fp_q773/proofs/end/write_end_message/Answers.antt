-- An identifier before the portions.
use Rattle.std.proofs.Common.{◌≡◌, ◌++◌, [], rules, sym}
use Rattle.fp_ber.specs.Canon.{canon}
use Rattle.fp_ber.specs.Tree.{more}
use Rattle.fp_q773.specs.Tid.{octets_of}
use Rattle.fp_q773.specs.Written.{destination_tree, portions_trees}
use Rattle.fp_ber.specs.Putting.{before_others, end_of_end}
use Rattle.fp_q773.proofs.Sound.{end_sound}
use Rattle.fp_q773.proofs.end.write_end_message.Goals.{then-is_err-via-then-is_err, then-is_err-via-else-is_err+then-is_err-2}
use Rattle.fp_q773.proofs.end.write_end_message.Goals as goal

pub returns-then-is_err-clause-err : goal.returns-then-is_err-clause-err
returns-then-is_err-clause-err c =
    c.keep_last.ensures.some c.args.out.now (elim c.then-is_err.branch [
      | then-is_err-via-then-is_err w ↦ search rules
      | then-is_err-via-else-is_err+then-is_err-2 w ↦ search (rules, end_of_end)
    ]) (sym c.len-start.ensures.value)

pub returns-then-is_err-clause-stays : goal.returns-then-is_err-clause-stays
returns-then-is_err-clause-stays c = record { front = []; is = returns-then-is_err-clause-err c }

pub returns-clause-exact : goal.returns-clause-exact
returns-clause-exact c = λ dialogue components rest is size.
    let first = destination_tree (octets_of c.args.destination) in
    let others = portions_trees dialogue components in
    let put : c.write_transaction.new.out ≡ canon first ++ c.args.out.now = search rules in
    let whole = c.put_constructed.ensures.ok (more first others) rest (before_others first others rest _ _ put is) size in search rules

pub returns-clause-found : goal.returns-clause-found
returns-clause-found c = end_sound _ c.write_transaction.ensures.size
