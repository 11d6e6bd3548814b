use Rattle.std.proofs.Common.{rules, tests, Bool, ℕ, cond, ap, ◌∙◌}
use Rattle.std.proofs.lemmas.Iterator.Consumers.{YieldsList-from_filter, YieldsList-from_first, count_from_yields_List}
use Rattle.std.proofs.lemmas.List.Sums.{length-filter}
use Rattle.slab.specs.Slab.{entries, values}
use Rattle.fp_row.proofs.Led.{are_distinct, sum_slots}
use Rattle.fp_row.proofs.Maps.{sum_over}
use Rattle.fp_row.specs.declared.row.Row.{Row}
use Rattle.fp_row.specs.Row.{is_due}
use Rattle.fp_row.specs.Rows.{count_due}
use Rattle.fp_row.proofs.rows.Rows.count_due.Goals as goal

pub returns : goal.returns
returns c =
    let slab = c.self.inside.rows in
    let due : ℕ × (ℕ × Row) → Bool = λ entry. is_due entry.1.1 c.args.moment in
    let one : ℕ × Row → ℕ = λ entry. cond (is_due entry.1 c.args.moment) 1 0 in
    count_from_yields_List _ _ c.count.ensures.ran (YieldsList-from_filter _ due (YieldsList-from_first (λ item. (item.0, item.1.now)) (λ rest. rest) (entries slab) cc) c.filter-due.ensures.closure (λ x r q k. search (rules, tests)))
    ∙ length-filter due (entries slab)
    ∙ sum_slots one 0 slab.slots 0
    ∙ sum_over one (values slab) (are_distinct _ slab c.self.invariant)
    ∙ ap (λ m. count_due m c.args.moment) c.self.view_is
