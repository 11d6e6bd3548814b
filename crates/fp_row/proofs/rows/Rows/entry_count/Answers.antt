use Rattle.std.proofs.Common.{rules, ◌≡◌, ◌<◌, ◌^◌, ℕ, Option, length, sym, ap, ◌∙◌, subst}
use Rattle.std.proofs.lemmas.Iterator.{YieldsList-from_map}
use Rattle.std.proofs.lemmas.Iterator.Consumers.{YieldsList-from_first, fits_by_from_yields_list, sum_by_from_yields_List}
use Rattle.std.specs.FinMap.{FinMap}
use Rattle.std.specs.List.{sum_by}
use Rattle.std.specs.Ordering.{nat_cmp}
use Rattle.slab.specs.Slab.{Slab, entries, values}
use Rattle.fp_row.proofs.Led.{are_distinct, sum_slots}
use Rattle.fp_row.proofs.Maps.{sum_over}
use Rattle.fp_row.specs.proof_only.Leads.{Leads, values_in}
use Rattle.fp_row.specs.declared.row.Row.{Row}
use Rattle.fp_row.specs.Rows.{entry_count}
use Rattle.fp_row.proofs.rows.Rows.entry_count.Goals as goal

abbrev accepted : ℕ × (ℕ × Row) → ℕ
accepted entry = length entry.1.1.accepted

total : (key_of : ℕ → Option ℕ) (slab : Slab (ℕ × Row)) (rows : FinMap nat_cmp Row) → Leads key_of slab → values_in slab ≡ rows → sum_by accepted (entries slab) ≡ entry_count rows
total key_of slab rows leads is =
    let one = λ (entry : ℕ × Row). length entry.1.accepted in
    sum_slots one 0 slab.slots 0 ∙ sum_over one (values slab) (are_distinct key_of slab leads) ∙ ap entry_count is

-- their sum is that over the map, so it fits
pub sum-requires-clause-fits : goal.sum-requires-clause-fits
sum-requires-clause-fits c =
    let slab = c.self.inside.rows in
    fits_by_from_yields_list accepted (entries slab) c.map.result (2 ^ 64)
    (YieldsList-from_map _ accepted (YieldsList-from_first (λ item. (item.0, item.1.now)) (λ rest. rest) (entries slab) cc) c.map.ensures.closure (λ x r q k. search rules))
    (subst (λ n. n < 2 ^ 64) (sym (total _ slab _ c.self.invariant c.self.view_is)) c.requires)

pub returns : goal.returns
returns c =
    let slab = c.self.inside.rows in
    sum_by_from_yields_List accepted (entries slab) c.map.result c.sum.result c.sum.ensures.ran
    (YieldsList-from_map _ accepted (YieldsList-from_first (λ item. (item.0, item.1.now)) (λ rest. rest) (entries slab) cc) c.map.ensures.closure (λ x r q k. search rules))
    ∙ total _ slab _ c.self.invariant c.self.view_is
