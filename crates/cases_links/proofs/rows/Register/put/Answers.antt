use Rattle.std.proofs.Common.{◌≡◌, ℕ, true, None, arith, ap, cond, ◌∙◌}
use Rattle.std.proofs.lemmas.Bool.Decides.{nat_tests}
use Rattle.std.specs.Cmp.{nat_cmp_total}
use Rattle.std.specs.FinMap as map
use Rattle.std.specs.Ordering.{nat_cmp, eq_by_cmp}
use Rattle.cases_links.proofs.rows.Register.put.Goals as goal

eq_by_cmp-self : (k : ℕ) → eq_by_cmp nat_cmp k k ≡ true
eq_by_cmp-self k = grind (arith, nat_tests)

removed-self : {X : Type 0} (m : map.FinMap nat_cmp X) (k : ℕ) → map.get (map.remove m k) k ≡ None
removed-self m k =
    map.get-remove nat_cmp_total m k k ∙ ap (λ b. cond b None (map.get m k)) (eq_by_cmp-self k)

-- no dialogue is under an identifier whose dialogue was dropped
pub add-requires : goal.add-requires
add-requires c = ap (λ rows. map.get rows c.args.local) c.forget.ensures ∙ removed-self _ c.args.local
