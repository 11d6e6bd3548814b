use Rattle.std.proofs.Common.{None, inl, sym, ap, refl, ◌∙◌}
use Rattle.std.specs.FinMap as map
use Rattle.fp_row.proofs.Led.{changed_at, leads_put, leads_same, missing, taken_out, unchanged}
use Rattle.fp_row.proofs.Maps.{remove_absent}
use Rattle.fp_row.proofs.rows.Rows.forget.Goals as goal

-- the identifier leads to an entry, and goes with it
pub invariant_of-self-2 : goal.invariant_of-self-2
invariant_of-self-2 c =
    leads_put _ _ c.self.invariant _ _ _ _ None (changed_at c.self.inside.index c.remove.new.self c.args.local None c.remove.ensures.updates) c.remove-2.ensures.updates (inl (sym c.remove.ensures.value ∙ c.in-Some.is))

pub returns : goal.returns
returns c =
    taken_out _ _ c.self.invariant _ _ _ _ (changed_at c.self.inside.index c.remove.new.self c.args.local None c.remove.ensures.updates) c.remove-2.ensures.updates (sym c.remove.ensures.value ∙ c.in-Some.is)
    ∙ ap (λ m. map.remove m c.args.local) c.self.view_is

-- it leads nowhere, and all stays
pub invariant_of-self : goal.invariant_of-self
invariant_of-self c = leads_same _ _ c.self.invariant _ _ (unchanged c.self.inside.index c.remove.new.self c.in_default.ensures.unchanged) refl

pub returns-in_default : goal.returns-in_default
returns-in_default c = c.self.view_is ∙ remove_absent _ _ (sym (missing _ _ c.self.invariant _ (sym c.remove.ensures.value ∙ c.in_default.is) ∙ ap (λ m. map.get m c.args.local) c.self.view_is))
