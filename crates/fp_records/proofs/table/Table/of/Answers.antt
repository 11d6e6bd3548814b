use Rattle.std.proofs.Common.{FitsSigned, w16, rules, refl}
use Rattle.std.specs.Arc.{arc_value}
use Rattle.std.proofs.lemmas.Int.{to_z-of_z}
use Rattle.fp_records.proofs.Lookups.{seen}
use Rattle.fp_records.proofs.Tables.{table_of}
use Rattle.fp_records.proofs.table.Table.of.Goals as goal

pub returns-clause-table : goal.returns-clause-table
returns-clause-table c =
    let fits : FitsSigned w16 c.args.draft.head.offset = search rules in
    let made = simp to_z-of_z at c.in_ok-into_records.ensures.records in
    λ file is. (
      table_of file c.args.draft
          (record { index = 0; key = c.args.draft.head.key; rule_count = c.count.result; closed_count = c.count-2.result; records = seen (λ a. arc_value a) c.in_ok-into_records.field-0.items })
          is refl c.count.ensures.value c.count-2.ensures.value made,
      refl,
    )
