use Rattle.std.proofs.Common.{Bor, List, ℕ, ◌<◌, length, arith}
use Rattle.std.proofs.lemmas.List.{length-map}
use Rattle.fp_lint.specs.Alone.{texts}
use Rattle.fp_lint.proofs.OneRecord.{rule-alone}
use Rattle.fp_lint.proofs.alone.rule_fault.Goals as goal

pub returns : goal.returns
returns c =
    let same = length-map c.args.fields.now (λ (field : Bor (List ℕ)). field.now) in
    let some : 0 < length (texts c.args.fields.now) = omega (arith, same, c.requires) in
    rw c.reason_of.ensures (rule-alone c.read_with.result (texts c.args.fields.now) some c.read_with.ensures)
