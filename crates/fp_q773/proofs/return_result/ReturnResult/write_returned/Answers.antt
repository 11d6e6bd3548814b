-- A sequence around a code and perhaps a parameter.
use Rattle.std.proofs.Common.{sym}
use Rattle.fp_ber.specs.declared.element.Class.TheVariants.{Universal}
use Rattle.fp_ber.specs.Tree.{constructed}
use Rattle.fp_q773.specs.View.{code_of, tree_in}
use Rattle.fp_q773.specs.Written.{coded_trees}
use Rattle.fp_q773.proofs.Puts.{on_ok, one_put}
use Rattle.fp_q773.proofs.Sound.{returned_sound}
use Rattle.fp_q773.proofs.return_result.ReturnResult.write_returned.Goals as goal

pub returns-clause-exact : goal.returns-clause-exact
returns-clause-exact c =
    let rest = c.args.out.now in
    let inside = coded_trees (code_of c.in-Some.returned.code) (tree_in c.in-Some.returned.parameter) in
    let whole = c.put_constructed.ensures.ok inside rest c.in_ok-write.ensures.exact (sym c.len-behind.ensures.value) in
    rw c.in-Some.is (one_put c.put_constructed.result c.put_constructed.new.self rest (constructed Universal 16 inside) whole)

pub returns-clause-found : goal.returns-clause-found
returns-clause-found c =
    rw c.in-Some.is (on_ok c.put_constructed.result _ (returned_sound (code_of c.in-Some.returned.code) (tree_in c.in-Some.returned.parameter) c.in_ok-write.ensures.found))
