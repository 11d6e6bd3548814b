use Rattle.std.proofs.Common.{◌≡◌, ℕ, Some, None, cond, eqb, inr, refl, rules, sym, ap, subst, ◌∙◌}
use Rattle.std.specs.HashMap.{UpdatesBy}
use Rattle.std.specs.FinMap as map
use Rattle.std.specs.Prelude.{nat_eq}
use Rattle.slab.specs.Slab.{Updates}
use Rattle.fp_row.specs.proof_only.Leads.{Leads, key_in, values_in}
use Rattle.fp_row.proofs.Led.{added, changed_at, leads_put, leads_same, nowhere, unchanged}
use Rattle.fp_row.proofs.rows.Rows.add.Goals as goal
use Rattle.fp_row.proofs.rows.Rows.add.Goals.{After-insert_reserved}

-- there is no memory for the slab
pub invariant_of-self : goal.invariant_of-self
invariant_of-self c = leads_same _ _ c.self.invariant _ _ (λ q. refl) (ap (λ s. s.slots) c.reserve.ensures.rest_kept)

-- or for the index
pub invariant_of-self-in_err-insert : goal.invariant_of-self-in_err-insert
invariant_of-self-in_err-insert c =
    let same : c.insert.new.self.entries ≡ c.self.inside.index.entries = search rules in
    leads_same _ _ c.self.invariant _ _ (unchanged c.self.inside.index c.insert.new.self same) (ap (λ s. s.slots) c.reserve.ensures.rest_kept)

module _ (c : After-insert_reserved) where
  absent : key_in c.self.inside.index c.args.local ≡ None
  absent = nowhere _ _ c.self.invariant _ c.self.view_is _ c.requires

  grown : Leads (key_in c.self.inside.index) c.reserve.new.self
  grown = leads_same _ _ c.self.invariant _ _ (λ q. refl) (ap (λ s. s.slots) c.reserve.ensures.rest_kept)

  -- the row is put where the index leads now
  now : (q : ℕ) → key_in c.insert.new.self q ≡ cond (eqb q c.args.local) (Some c.vacant_key-key.result) (key_in c.self.inside.index q)
  now =
      let updates : UpdatesBy nat_eq (nat_eq c.args.local) c.self.inside.index c.insert.new.self (Some c.vacant_key-key.result) = search rules in
      changed_at c.self.inside.index c.insert.new.self c.args.local _ updates

  put : Updates c.reserve.new.self c.insert_reserved.new.self c.vacant_key-key.result (Some (c.args.local, c.args.row))
  put = subst (λ key. Updates c.reserve.new.self c.insert_reserved.new.self key (Some (c.args.local, c.args.row))) (c.insert_reserved.ensures.key ∙ sym c.vacant_key-key.ensures.value) c.insert_reserved.ensures.updates

pub invariant_of-self-2 : goal.invariant_of-self-2
invariant_of-self-2 c = leads_put _ _ (grown c) _ _ _ _ (Some c.args.row) (now c) (put c) (inr (absent c, c.vacant_key-key.ensures.vacant))

pub returns-clause-ok : goal.returns-clause-ok
returns-clause-ok c =
    added _ _ (grown c) _ _ _ _ c.args.row (now c) (put c) (absent c) c.vacant_key-key.ensures.vacant
    ∙ ap (λ s. map.insert (values_in s) c.args.local c.args.row) c.reserve.ensures.rest_kept
    ∙ ap (λ m. map.insert m c.args.local c.args.row) c.self.view_is
