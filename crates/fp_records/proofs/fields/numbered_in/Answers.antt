use Rattle.std.proofs.Common.{◌≡◌, ◌∙◌, refl, rules}
use Rattle.csv.specs.Records.{fields_of}
use Rattle.fp_records.specs.Steps.{numbered_by}
use Rattle.fp_records.proofs.FieldTable.{steps-table}
use Rattle.fp_records.proofs.fields.numbered_in.Goals as goal

pub returns-in_err-number : goal.returns-in_err-number
returns-in_err-number c =
    let stops : c.from_residual.result ≡ numbered_by (fields_of c.args.row.now) = search rules in
    stops ∙ steps-table (fields_of c.args.row.now)

pub returns-in_err-rule : goal.returns-in_err-rule
returns-in_err-rule c =
    let stops : c.from_residual-in_err-rule.result ≡ numbered_by (fields_of c.args.row.now) = search rules in
    stops ∙ steps-table (fields_of c.args.row.now)

pub returns : goal.returns
returns c = rw (← steps-table (fields_of c.args.row.now), ← c.in_ok-number.ensures, ← c.in_ok-rule.ensures, c.new.ensures) refl
