-- A linked identifier before a code.
use Rattle.std.proofs.Common.{FitsSigned, w8, refl, rules}
use Rattle.std.proofs.lemmas.Int.{to_z-of_z}
use Rattle.fp_ber.specs.Tree.{more, none}
use Rattle.fp_q773.specs.View.{code_of}
use Rattle.fp_q773.specs.Written.{code_tree, linked_tree}
use Rattle.fp_ber.specs.Putting.{before_others}
use Rattle.fp_q773.proofs.Puts.{on_ok, more_put_ok}
use Rattle.fp_q773.proofs.Sound.{asked_sound}
use Rattle.fp_q773.proofs.invoke.write_asked.Goals as goal

pub returns-clause-exact : goal.returns-clause-exact
returns-clause-exact c =
    let rest = c.args.out.now in
    let linked = c.in-Some.linked in
    let fits : FitsSigned w8 linked = search rules in
    let second = code_tree (code_of c.args.code) in
    let inside = before_others second none rest rest _ c.in_ok-write.ensures.exact refl in
    let put = rw (to_z-of_z w8 linked fits) at c.write_linked.ensures.exact in
    rw c.in-Some.is (more_put_ok c.write_linked.result c.write_linked.new.out c.write.new.out rest (linked_tree linked) (more second none) put inside)

pub returns-clause-found : goal.returns-clause-found
returns-clause-found c =
    let linked = c.in-Some.linked in
    let fits : FitsSigned w8 linked = search rules in
    let is = rw (to_z-of_z w8 linked fits) at c.write_linked.ensures.found in
    rw c.in-Some.is (on_ok c.write_linked.result _ (asked_sound linked (code_of c.args.code) is c.in_ok-write.ensures.found))
