use Rattle.std.proofs.Common.{inr, sym, ap, ◌∙◌}
use Rattle.std.specs.FinMap as map
use Rattle.fp_row.specs.declared.row.Row.{Row}
use Rattle.fp_row.proofs.Led.{found, lent, missing, leads_written, overwritten, written}
use Rattle.fp_row.proofs.rows.Rows.get_mut.Goals as goal

-- whatever is written, its identifier stays
pub invariant_of-self-lent : goal.invariant_of-self-lent
invariant_of-self-lent c = λ w.
    let there = sym c.key_in.ensures ∙ c.in-Some.is in
    leads_written _ _ c.self.invariant _ _ _ there w (overwritten _ _ c.self.invariant _ _ there _ c.index_mut.ensures.value w)

-- what is written goes under the identifier
pub returns : goal.returns
returns c =
    let there = sym c.key_in.ensures ∙ c.in-Some.is in
    let into = λ (w : Row). written _ _ c.self.invariant _ _ _ there w (overwritten _ _ c.self.invariant _ _ there _ c.index_mut.ensures.value w) ∙ ap (λ m. map.insert m c.args.local w) c.self.view_is in (
      lent into,
      record {
        writes_back = tt;
        value = found _ _ c.self.invariant _ _ _ there c.index_mut.ensures.value ∙ ap (λ m. map.get m c.args.local) c.self.view_is;
      },
    )

-- it leads nowhere
pub returns-in_default : goal.returns-in_default
returns-in_default c = (ap inr c.self.view_is, record { writes_back = tt; value = missing _ _ c.self.invariant _ (sym c.key_in.ensures ∙ c.in_default.is) ∙ ap (λ m. map.get m c.args.local) c.self.view_is })
