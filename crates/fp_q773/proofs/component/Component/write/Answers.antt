-- A ReturnResult under its tag.
use Rattle.std.proofs.Common.{option_map, sym}
use Rattle.fp_q773.specs.View.{result_of}
use Rattle.fp_q773.specs.Written.{return_result_trees}
use Rattle.fp_q773.proofs.Puts.{on_ok}
use Rattle.fp_q773.proofs.Sound.{return_result_last_sound, return_result_not_last_sound}
use Rattle.fp_q773.proofs.component.Component.write.Goals as goal

pub returns-in_ok-write-in-ReturnResultLast-clause-exact : goal.returns-in_ok-write-in-ReturnResultLast-clause-exact
returns-in_ok-write-in-ReturnResultLast-clause-exact c =
    let r = c.in-ReturnResultLast.result in
    let inside = return_result_trees r.identifier (option_map result_of r.result) in
    rw c.in-ReturnResultLast.is (c.put_constructed.ensures.ok inside c.args.out.now c.in_ok-write-in-ReturnResultLast.ensures.exact (sym c.len-behind.ensures.value))

pub returns-in_ok-write-in-ReturnResultLast-clause-found : goal.returns-in_ok-write-in-ReturnResultLast-clause-found
returns-in_ok-write-in-ReturnResultLast-clause-found c =
    let r = c.in-ReturnResultLast.result in
    rw c.in-ReturnResultLast.is (on_ok c.put_constructed.result _ (return_result_last_sound r.identifier (option_map result_of r.result) c.in_ok-write-in-ReturnResultLast.ensures.found))

pub returns-in_ok-write-in-ReturnResultNotLast-clause-exact : goal.returns-in_ok-write-in-ReturnResultNotLast-clause-exact
returns-in_ok-write-in-ReturnResultNotLast-clause-exact c =
    let r = c.in-ReturnResultNotLast.result in
    let inside = return_result_trees r.identifier (option_map result_of r.result) in
    rw c.in-ReturnResultNotLast.is (c.put_constructed-in-ReturnResultNotLast.ensures.ok inside c.args.out.now c.in_ok-write-in-ReturnResultNotLast.ensures.exact (sym c.len-behind-in-ReturnResultNotLast.ensures.value))

pub returns-in_ok-write-in-ReturnResultNotLast-clause-found : goal.returns-in_ok-write-in-ReturnResultNotLast-clause-found
returns-in_ok-write-in-ReturnResultNotLast-clause-found c =
    let r = c.in-ReturnResultNotLast.result in
    rw c.in-ReturnResultNotLast.is (on_ok c.put_constructed-in-ReturnResultNotLast.result _ (return_result_not_last_sound r.identifier (option_map result_of r.result) c.in_ok-write-in-ReturnResultNotLast.ensures.found))
