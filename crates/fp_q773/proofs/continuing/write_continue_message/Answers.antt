-- Two identifiers before the portions.
use Rattle.std.proofs.Common.{◌≡◌, ◌++◌, [], rules, sym}
use Rattle.fp_ber.specs.Canon.{canon}
use Rattle.fp_ber.specs.Tree.{more}
use Rattle.fp_q773.specs.Tid.{octets_of}
use Rattle.fp_q773.specs.Written.{originating_tree, destination_tree, portions_trees}
use Rattle.fp_ber.specs.Putting.{before_others, end_of_end}
use Rattle.fp_q773.proofs.Sound.{continue_sound}
use Rattle.fp_q773.proofs.continuing.write_continue_message.Goals.{then-is_err-via-then-is_err, then-is_err-via-else-is_err+then-is_err-2, then-is_err-via-else-is_err+else-is_err-2+then-is_err-3}
use Rattle.fp_q773.proofs.continuing.write_continue_message.Goals as goal

pub returns-then-is_err-clause-err : goal.returns-then-is_err-clause-err
returns-then-is_err-clause-err c =
    c.keep_last.ensures.some c.args.out.now (elim c.then-is_err.branch [
      | then-is_err-via-then-is_err w ↦ search rules
      | then-is_err-via-else-is_err+then-is_err-2 w ↦ search (rules, end_of_end)
      | then-is_err-via-else-is_err+else-is_err-2+then-is_err-3 w ↦ search (rules, end_of_end)
    ]) (sym c.len-start.ensures.value)

pub returns-then-is_err-clause-stays : goal.returns-then-is_err-clause-stays
returns-then-is_err-clause-stays c = record { front = []; is = returns-then-is_err-clause-err c }

pub returns-clause-exact : goal.returns-clause-exact
returns-clause-exact c = λ dialogue components rest is size.
    let first = originating_tree (octets_of c.args.originating) in
    let second = destination_tree (octets_of c.args.destination) in
    let others = portions_trees dialogue components in
    let addressed : c.write_transaction.new.out ≡ canon second ++ c.args.out.now = search rules in
    let inside = before_others second others rest _ _ addressed is in
    let put : c.write_transaction-else-is_err.new.out ≡ canon first ++ c.write_transaction.new.out = search rules in
    let whole = c.put_constructed.ensures.ok (more first (more second others)) rest
    (before_others first (more second others) rest _ _ put inside) size in search rules

pub returns-clause-found : goal.returns-clause-found
returns-clause-found c = continue_sound _ _ c.write_transaction-else-is_err.ensures.size c.write_transaction.ensures.size
