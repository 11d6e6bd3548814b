use Rattle.std.proofs.Common.{◌≡◌, ℕ, Option, rules, tests, refl, ap, subst, is_some}
use Rattle.std.proofs.lemmas.Map.Entries.{option_filter}
use Rattle.std.proofs.lemmas.Map.Made.{filter_same_pairs}
use Rattle.std.specs.FinMap as map
use Rattle.slab.specs.Slab.{get}
use Rattle.fp_row.specs.declared.row.Row.{Row}
use Rattle.fp_row.specs.proof_only.Leads.{key_in, values_in}
use Rattle.fp_row.specs.Rows.{ClosesAt, is_sent}
use Rattle.fp_row.proofs.Led.{LeavesOf, each_left, kept_keys, leads_left, slots_left}
use Rattle.fp_row.proofs.rows.Rows.close_all.Goals as goal

-- what becomes of the row of an identifier
abbrev Left : Option ℕ → ℕ → Option Row → Option Row → Type 0
Left sending local = ClosesAt (is_sent sending local)

leaves : (c : goal.After-retain-2) (k : ℕ) → LeavesOf (Left c.args.sending) (get c.self.inside.rows k) (get c.retain.new.self k)
leaves c k = slots_left (Left c.args.sending) _ _ (λ key v keep w next called. search rules) 0 _ _ c.retain.ensures.retained k

now : (c : goal.After-retain-2) (q : ℕ) → key_in c.retain-2.new.self q ≡ option_filter (λ k. is_some (get c.retain.new.self k)) (key_in c.self.inside.index q)
now c = kept_keys c.self.inside.index c.retain-2.new.self (λ k. is_some (get c.retain.new.self k)) c.retain-2.ensures.was_unique (filter_same_pairs _ _ _ (λ k v b w g called. search (rules, tests)) _ _ c.retain-2.ensures.filtered)

pub invariant_of-self : goal.invariant_of-self
invariant_of-self c = leads_left (Left c.args.sending) (λ q. refl) _ _ c.self.invariant _ c.retain.new.self (leaves c) (now c)

pub returns : goal.returns
returns c = λ local.
    let left = map.get (values_in c.retain.new.self) local in
    subst (λ before. ClosesAt (is_sent c.args.sending local) before left) (ap (λ m. map.get m local) c.self.view_is)
    (each_left (Left c.args.sending) (λ q. refl) _ _ c.self.invariant _ c.retain.new.self (leaves c) (now c) local)
