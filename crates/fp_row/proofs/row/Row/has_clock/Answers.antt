use Rattle.std.proofs.Common.{rules, tests, ◌≡◌, Bool, nat_lt, List, [], ◌∷◌, count_by, refl, ◌∙◌, arith}
use Rattle.std.proofs.lemmas.Bool.Decides.{nat_tests}
use Rattle.std.proofs.lemmas.Grind.{common_steps}
use Rattle.std.proofs.lemmas.Iterator.{YieldsList-from_slice}
use Rattle.std.proofs.lemmas.Iterator.Search.{any_from_yields_List}
use Rattle.std.specs.List.{list_any}
use Rattle.fp_entry.specs.declared.entry.Entry.{Entry}
use Rattle.fp_entry.specs.Entries.{is_clock}
use Rattle.fp_row.specs.Row.{unserved}
use Rattle.fp_row.proofs.row.Row.has_clock.Goals as goal

-- one passes if some are counted
any_counted : {A : Type 0} (p : A → Bool) (xs : List A) → list_any p xs ≡ nat_lt 0 (count_by p xs)
any_counted p [] = refl
any_counted p (x ∷ xs) = let rest = any_counted p xs in grind (arith, nat_tests, common_steps)

pub returns : goal.returns
returns c =
    let clock = λ (entry : Entry). is_clock entry.kind in
    any_from_yields_List clock _ _ c.any.result c.any.ensures.ran (YieldsList-from_slice (unserved c.args.self.now) (cc)) (λ x b q k. search (rules, tests))
    ∙ any_counted clock (unserved c.args.self.now)
