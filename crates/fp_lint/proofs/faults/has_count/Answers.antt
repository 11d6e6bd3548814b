use Rattle.std.proofs.Common.{◌≡◌, ◌+◌, ◌-◌, true, arith, subst, sym, ◌∙◌}
use Rattle.std.specs.Prelude.{IfOk, is_some}
use Rattle.csv.specs.Records.{fields_of}
use Rattle.fp_records.specs.Fields.{takes, verb_of}
use Rattle.fp_lint.proofs.Known.{at-within, count-known}
use Rattle.fp_lint.proofs.faults.has_count.Goals as goal

pub overflow_sub-len : goal.overflow_sub-len
overflow_sub-len c =
    let there = rw c.in-Some.is at c.get.ensures.value in
    let within = at-within (fields_of c.args.row.now) 6 c.in-Some.action.now there in
    omega (arith, within, c.len.ensures)

pub returns : goal.returns
returns c =
    let there = rw c.in-Some.is at c.get.ensures.value in
    let known : is_some (verb_of c.in-Some.action.now) ≡ true = sym c.in_ok-is_action.ensures ∙ c.if-not-branch.false in
    subst (λ fits. IfOk c.takes.result (λ has. has ≡ fits)) (count-known (fields_of c.args.row.now) c.in-Some.action.now there known)
    (subst (λ size. IfOk c.takes.result (λ has. has ≡ takes (verb_of c.in-Some.action.now) (7 + (size - 7)))) c.len.ensures c.takes.ensures)
