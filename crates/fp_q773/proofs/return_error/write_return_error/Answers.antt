-- An identifier and a code before perhaps a parameter.
use Rattle.std.proofs.Common.{◌≡◌, ◌++◌, [], rules, sym, w8}
use Rattle.std.proofs.lemmas.Int.{to_z-of_z}
use Rattle.fp_ber.specs.Canon.{canon}
use Rattle.fp_ber.specs.Tree.{more}
use Rattle.fp_q773.specs.View.{code_of}
use Rattle.fp_q773.specs.Writable.{only}
use Rattle.fp_q773.specs.Written.{identifier_tree, code_tree}
use Rattle.fp_ber.specs.Putting.{before_others, end_of_end}
use Rattle.fp_q773.proofs.return_error.write_return_error.Goals.{then-is_err-via-then-is_err, then-is_err-via-else-is_err+then-is_err-2, then-is_err-via-else-is_err+else-is_err-2+then-is_err-3}
use Rattle.fp_q773.proofs.return_error.write_return_error.Goals as goal

pub returns-then-is_err-clause-err : goal.returns-then-is_err-clause-err
returns-then-is_err-clause-err c =
    c.keep_last.ensures.some c.args.out.now (elim c.then-is_err.branch [
      | then-is_err-via-then-is_err w ↦ search rules
      | then-is_err-via-else-is_err+then-is_err-2 w ↦ search (rules, end_of_end)
      | then-is_err-via-else-is_err+else-is_err-2+then-is_err-3 w ↦ search (rules, end_of_end)
    ]) (sym c.len-start.ensures.value)

pub returns-then-is_err-clause-stays : goal.returns-then-is_err-clause-stays
returns-then-is_err-clause-stays c = record { front = []; is = returns-then-is_err-clause-err c }

pub returns-clause-exact : goal.returns-clause-exact
returns-clause-exact c = λ parameter rest is size.
    let first = identifier_tree c.args.identifier in
    let second = code_tree (code_of c.args.code) in
    let coded : c.write.new.out ≡ canon second ++ c.args.out.now = search rules in
    let inside = before_others second (only parameter) rest _ _ coded is in
    let spelled = rw (to_z-of_z w8 c.args.identifier c.ranges.identifier) at c.write_identifier.ensures.exact in
    let put : c.write_identifier.new.out ≡ canon first ++ c.write.new.out = search rules in
    let whole = c.put_constructed.ensures.ok (more first (more second (only parameter))) rest
    (before_others first (more second (only parameter)) rest _ _ put inside) size in search rules

pub returns-clause-stays : goal.returns-clause-stays
returns-clause-stays c = search (rules, end_of_end)
