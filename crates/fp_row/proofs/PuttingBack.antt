-- Rows by their identifiers.
use Rattle.std.proofs.Common.{◌≡◌, ℕ, Bool, true, false, cond, eqb, Some, refl, sym, ap, ◌∙◌}
use Rattle.std.proofs.lemmas.Bool.{eqb-true}
use Rattle.std.specs.Ordering.{nat_cmp}
use Rattle.std.specs.FinMap as map
use Rattle.fp_row.proofs.Maps.{inserted, same}
use Rattle.fp_row.specs.declared.row.Row.{Row}
use Rattle.fp_row.specs.Rows.{PuttingBackChangesNothing}

-- what was there is what is there again
same_again : (rows : map.FinMap nat_cmp Row) (local : ℕ) (row : Row) → map.get rows local ≡ Some row → (q : ℕ) (b : Bool) → eqb q local ≡ b → cond b (Some row) (map.get rows q) ≡ map.get rows q
same_again rows local row is q true same = sym (ap (map.get rows) (eqb-true q local same) ∙ is)
same_again rows local row is q false other = refl

pub putting_back_changes_nothing : PuttingBackChangesNothing
putting_back_changes_nothing rows local row is = same _ _ (λ q. inserted rows local row q ∙ same_again rows local row is q (eqb q local) refl)
