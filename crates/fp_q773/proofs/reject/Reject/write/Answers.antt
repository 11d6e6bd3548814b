-- An identifier, or null, before a problem.
use Rattle.std.proofs.Common.{◌≡◌, ◌++◌, [], refl, rules, sym}
use Rattle.fp_ber.specs.Canon.{canon}
use Rattle.fp_ber.specs.Tree.{more, none}
use Rattle.fp_q773.specs.Problem.{problem_of}
use Rattle.fp_q773.specs.Written.{rejected_tree, problem_tree}
use Rattle.fp_ber.specs.Putting.{before_others, end_of_end}
use Rattle.fp_q773.proofs.reject.Reject.write.Goals.{then-is_err-via-then-is_err, then-is_err-via-else-is_err+then-is_err-2, then-is_err-via-else-is_err+else-is_err-2+then-is_err-3}
use Rattle.fp_q773.proofs.reject.Reject.write.Goals as goal

pub returns-then-is_err-clause-err : goal.returns-then-is_err-clause-err
returns-then-is_err-clause-err c =
    c.keep_last.ensures.some c.args.out.now (elim c.then-is_err.branch [
      | then-is_err-via-then-is_err w ↦ search rules
      | then-is_err-via-else-is_err+then-is_err-2 w ↦ search (rules, end_of_end)
      | then-is_err-via-else-is_err+else-is_err-2+then-is_err-3 w ↦ search (rules, end_of_end)
    ]) (sym c.len-behind.ensures.value)

pub returns-then-is_err-clause-stays : goal.returns-then-is_err-clause-stays
returns-then-is_err-clause-stays c = record { front = []; is = returns-then-is_err-clause-err c }

pub returns-clause-exact : goal.returns-clause-exact
returns-clause-exact c =
    let rest = c.args.out.now in
    let first = rejected_tree c.args.self.now.identifier in
    let second = problem_tree (problem_of c.args.self.now.problem) in
    let told : c.write_problem.new.out ≡ canon second ++ rest = search rules in
    let inside = before_others second none rest rest _ told refl in
    let put : c.write_rejected.new.out ≡ canon first ++ c.write_problem.new.out = search rules in
    let whole = c.put_constructed.ensures.ok (more first (more second none)) rest
    (before_others first (more second none) rest _ _ put inside) (sym c.len-behind.ensures.value) in search rules
