use Rattle.std.proofs.Common.{rules, tests, sym, ap, subst, ◌∙◌}
use Rattle.std.proofs.lemmas.Iterator.Adapters.{option_map_id}
use Rattle.std.proofs.lemmas.Iterator.Consumers.{YieldsList-from_copied, YieldsList-from_filter, YieldsList-from_rest, min_from_yields_List}
use Rattle.std.specs.FinMap as map
use Rattle.fp_row.specs.proof_only.Leads.{key_in}
use Rattle.fp_row.specs.Rows.{is_above}
use Rattle.fp_row.proofs.After.{IsNextOf, after_of, next_of}
use Rattle.fp_row.proofs.Led.{has_value}
use Rattle.fp_row.proofs.rows.Rows.after.Goals as goal

pub returns : goal.returns
returns c =
    let keys = c.keys.result in
    let above = is_above c.args.local in
    let least = min_from_yields_List _ c.min.result c.min.ensures.ran
    (YieldsList-from_filter _ above (YieldsList-from_copied (YieldsList-from_rest keys cc)) c.filter.ensures.closure (λ x r q k. search (rules, tests)))
    in
    after_of c.args.self.now c.args.local keys
    (λ q. sym (ap (λ m. map.contains_key m q) c.self.view_is) ∙ has_value (key_in c.self.inside.index) c.self.inside.rows c.self.invariant q ∙ c.keys.ensures.has q) c.min.result
    (subst (IsNextOf above keys) (sym (sym (option_map_id c.min.result) ∙ least)) (next_of above keys))
