-- It is read as that Invoke.
use Rattle.std.proofs.Common.{FitsSigned, w8, rules}
use Rattle.std.proofs.lemmas.Int.{to_z-of_z}
use Rattle.std.proofs.lemmas.Result.{on_ok_weaker}
use Rattle.fp_q773.specs.View.{tree_in}
use Rattle.fp_q773.proofs.invoke.Invoke.write.Goals as goal

pub returns-clause-found : goal.returns-clause-found
returns-clause-found c =
    let i = c.args.self.now in
    let fits : FitsSigned w8 i.identifier = search rules in
    let found = rw (to_z-of_z w8 i.identifier fits) at c.write_invoke.ensures.found in
    on_ok_weaker c.write_invoke.result (λ all. all (tree_in i.parameter)) found
