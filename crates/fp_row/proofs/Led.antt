-- A slab whose entries have their identifiers beside their values, and an index that leads to them: what each identifier
-- has, and what a change of both does to it.
use Rattle.std.proofs.Common.{◌≡◌, ◌≢◌, ◌⊎◌, inl, inr, ℕ, zero, suc, ◌+◌, Bool, MutBor, true, false, cond, eqb, get_or, is_some, fold, List, [], ◌∷◌, Option, Some, None, refl, sym, ap, subst, ◌∙◌, arith}
use Rattle.std.proofs.lemmas.Bool.{eqb-true, false≢true}
use Rattle.std.proofs.lemmas.Bool.Decides.{nat_tests}
use Rattle.std.proofs.lemmas.Map.Entries.{lookup-filter-values, option_filter}
use Rattle.std.proofs.lemmas.Option.{cond_some, same_Some}
use Rattle.std.specs.HashMap.{HashMap, IsUnique, UpdatesBy}
use Rattle.std.specs.Cmp.{nat_eq_equiv}
use Rattle.std.specs.FinMap as map
use Rattle.std.specs.List.{AllByRecursion, IsDistinct, filter}
use Rattle.std.specs.Map.{keys_of, lookup}
use Rattle.std.specs.Option.{option_map, option_map_or}
use Rattle.std.specs.Ordering.{nat_cmp}
use Rattle.std.specs.Prelude.{nat_eq}
use Rattle.slab.specs.Slab.{CalledAt, RetainsFrom, Slab, Updates, entries_from, get, values, with_value}
use Rattle.slab.proofs.SlabLemmas.{Updates-with_value}
use Rattle.fp_row.specs.proof_only.Leads.{Leads, key_in, values_in}
use Rattle.fp_row.proofs.Maps.{apart, get-map_of, inserted, removed, same}

-- two entries that are one have one identifier
same_identifier : {X : Type 0} (a b : ℕ × X) → Some a ≡ Some b → a.0 ≡ b.0
same_identifier a b e = ap (λ o. option_map_or (λ (entry : ℕ × _). entry.0) o 0) e

module _ {X : Type 0} where
  -- no slot has the identifier
  abbrev pub Lacks : ℕ → List (Option (ℕ × X)) → Type 0
  Lacks q slots = (k : ℕ) (v : X) → get_or slots k None ≡ Some (q, v) → ⊥

  -- no two slots have one identifier
  abbrev pub AreOnce : List (Option (ℕ × X)) → Type 0
  AreOnce slots = (q i j : ℕ) (v w : X) → get_or slots i None ≡ Some (q, v) → get_or slots j None ≡ Some (q, w) → i ≡ j

  once_later : (slot : Option (ℕ × X)) (slots : List (Option (ℕ × X))) → AreOnce (slot ∷ slots) → AreOnce slots
  once_later slot slots once q i j v w a b = omega (arith, once q (suc i) (suc j) v w a b)

  abbrev pub found_in : List (Option (ℕ × X)) → List (ℕ × X)
  found_in slots = values (record { slots = slots; vacant_key = 0; capacity = 0 })

  -- the first slot has another identifier
  other : (q : ℕ) (e : ℕ × X) → ((v : X) → Some e ≡ Some (q, v) → ⊥) → (b : Bool) → eqb q e.0 ≡ b → eqb q e.0 ≡ false
  other q e lacks true is = absurd (lacks e.1 (ap (λ n. Some (n, e.1)) (sym (eqb-true q e.0 is))))
  other q e lacks false is = is

  -- an identifier that no slot has is apart from theirs
  apart_from : (q : ℕ) (slots : List (Option (ℕ × X))) → Lacks q slots → AllByRecursion (λ y. eqb q y ≡ false) (keys_of (found_in slots))
  apart_from q [] lacks = tt
  apart_from q (None ∷ slots) lacks = apart_from q slots (λ k. lacks (suc k))
  apart_from q (Some e ∷ slots) lacks = (other q e (lacks 0) (eqb q e.0) refl, apart_from q slots (λ k. lacks (suc k)))

  distinct : (slots : List (Option (ℕ × X))) → AreOnce slots → IsDistinct eqb (keys_of (found_in slots))
  unfolding IsDistinct
  distinct [] once = tt
  distinct (None ∷ slots) once = distinct slots (once_later None slots once)
  distinct (Some e ∷ slots) once = (
    apart_from e.0 slots (λ k v is. absurd (let clash = once e.0 0 (suc k) e.1 v refl is in omega (arith, clash))),
    distinct slots (once_later (Some e) slots once),
  )

  -- the value of an identifier that a slot has
  lookup_at : (q : ℕ) (slots : List (Option (ℕ × X))) → AreOnce slots → (k : ℕ) (v : X) → get_or slots k None ≡ Some (q, v) → lookup (eqb q) (found_in slots) ≡ Some v
  lookup_at q [] once k v is = absurd (cc)
  lookup_at q (None ∷ slots) once zero v is = absurd (cc)
  lookup_at q (None ∷ slots) once (suc k) v is = lookup_at q slots (once_later None slots once) k v is
  lookup_at q (Some e ∷ slots) once zero v is =
      let here : eqb q e.0 ≡ true = grind (arith, nat_tests, same_identifier _ _ is) in
      ap (λ b. cond b (Some e.1) (lookup (eqb q) (found_in slots))) here ∙ ap (option_map (λ (entry : ℕ × X). entry.1)) is
  lookup_at q (Some e ∷ slots) once (suc k) v is =
      let there = other q e (λ w first. absurd (let clash = once q 0 (suc k) w v first is in omega (arith, clash))) (eqb q e.0) refl in
      ap (λ b. cond b (Some e.1) (lookup (eqb q) (found_in slots))) there ∙ lookup_at q slots (once_later (Some e) slots once) k v is

  -- the value that stands where an identifier leads
  abbrev pub value_at : Slab (ℕ × X) → Option ℕ → Option X
  value_at slab None = None
  value_at slab (Some key) = option_map (λ (entry : ℕ × X). entry.1) (get slab key)

  -- the value that a slot gets, beside its identifier
  abbrev pub beside : ℕ → Option X → Option (ℕ × X)
  beside local value = option_map (λ w. (local, w)) value

  -- a sum over the entries of slots is one over their values
  pub sum_slots : (h : ℕ × X → ℕ) (key : ℕ) (slots : List (Option (ℕ × X))) (n : ℕ) → fold (λ a (e : ℕ × (ℕ × X)). a + h e.1) n (entries_from key slots) ≡ fold (λ a x. a + h x) n (found_in slots)
  sum_slots h key [] n = refl
  sum_slots h key (None ∷ slots) n = sum_slots h (key + 1) slots n
  sum_slots h key (Some e ∷ slots) n = sum_slots h (key + 1) slots (n + h e)

  module _ (key_of : ℕ → Option ℕ) (slab : Slab (ℕ × X)) (leads : Leads key_of slab) where
    once : AreOnce slab.slots
    once q i j v w a b = same_Some _ _ (sym (leads.to_each i q v a) ∙ leads.to_each j q w b)

    pub are_distinct : IsDistinct eqb (keys_of (values slab))
    are_distinct = distinct slab.slots once

    -- an identifier has the value to which it leads
    pub get_led : (q : ℕ) → map.get (values_in slab) q ≡ value_at slab (key_of q)
    get_led q = get-map_of (values slab) q ∙ by (key_of q) refl
      where
        by : (o : Option ℕ) → key_of q ≡ o → lookup (eqb q) (values slab) ≡ value_at slab o
        by None is = apart q (values slab) (apart_from q slab.slots (λ k v there. absurd (let clash = sym is ∙ leads.to_each k q v there in cc)))
        by (Some key) is =
            let it = leads.to_its_entry q key is in
            lookup_at q slab.slots once key it.0 it.1 ∙ sym (ap (option_map (λ (entry : ℕ × X). entry.1)) it.1)

    -- and one that leads to it has a value
    pub has_value : (q : ℕ) → map.contains_key (values_in slab) q ≡ is_some (key_of q)
    has_value q = ap is_some (get_led q) ∙ by (key_of q) refl
      where
        by : (o : Option ℕ) → key_of q ≡ o → is_some (value_at slab o) ≡ is_some o
        by None is = refl
        by (Some key) is = ap (λ o. is_some (option_map (λ (e : ℕ × X). e.1) o)) (leads.to_its_entry q key is).1

    pub found : (q key : ℕ) (entry : ℕ × X) → key_of q ≡ Some key → get slab key ≡ Some entry → Some entry.1 ≡ map.get (values_in slab) q
    found q key entry is at = sym (get_led q ∙ ap (value_at slab) is ∙ ap (option_map (λ (e : ℕ × X). e.1)) at)

    pub missing : (q : ℕ) → key_of q ≡ None → None ≡ map.get (values_in slab) q
    missing q is = sym (get_led q ∙ ap (value_at slab) is)

    -- an identifier without a value leads nowhere
    pub nowhere : (rows : map.FinMap nat_cmp X) → values_in slab ≡ rows → (q : ℕ) → map.get rows q ≡ None → key_of q ≡ None
    nowhere rows is q none = by (key_of q) refl
      where
        by : (o : Option ℕ) → key_of q ≡ o → key_of q ≡ None
        by None there = there
        by (Some key) there =
            let it = leads.to_its_entry q key there in
            absurd (let clash = found q key (q, it.0) there it.1 ∙ ap (λ m. map.get m q) is ∙ none in cc)

    -- the entry to which an identifier leads is written over, and keeps the identifier
    pub overwritten : (local key : ℕ) → key_of local ≡ Some key → (entry : ℕ × X) → get slab key ≡ Some entry → (w : X) → Updates slab (with_value slab key (entry.0, w)) key (Some (local, w))
    overwritten local key there entry at w =
        subst (λ n. Updates slab (with_value slab key (entry.0, w)) key (Some (n, w))) (same_identifier _ _ (sym at ∙ (leads.to_its_entry local key there).1))
        (Updates-with_value slab key (entry.0, w) (ap is_some at))

    -- what stays in both stays led to
    pub leads_same : (key_of' : ℕ → Option ℕ) (slab' : Slab (ℕ × X)) → ((q : ℕ) → key_of' q ≡ key_of q) → slab'.slots ≡ slab.slots → Leads key_of' slab'
    leads_same key_of' slab' same_Somes same = record {
      to_its_entry = λ local key is. let it = leads.to_its_entry local key (sym (same_Somes local) ∙ is) in (it.0, ap (λ slots. get_or slots key None) same ∙ it.1);
      to_each = λ key local value is. same_Somes local ∙ leads.to_each key local value (ap (λ slots. get_or slots key None) (sym same) ∙ is);
    }

    -- a value that is put under an identifier or taken from there, at the key to which it leads or at a vacant one
    module _ (key_of' : ℕ → Option ℕ) (slab' : Slab (ℕ × X)) (local key : ℕ) (value : Option X)
        (leads_now : (q : ℕ) → key_of' q ≡ cond (eqb q local) (option_map (λ _. key) value) (key_of q))
        (updates : Updates slab slab' key (beside local value))
        (at : (key_of local ≡ Some key) ⊎ ((key_of local ≡ None) × (get slab key ≡ None))) where
      -- no other identifier leads there, and this one nowhere else
      only : (q : ℕ) → key_of q ≡ Some key → q ≡ local
      only q is = elim at [
        | inl there ↦ same_identifier _ _ (sym (leads.to_its_entry q key is).1 ∙ (leads.to_its_entry local key there).1)
        | inr none ↦ absurd (let clash = sym none.1 ∙ (leads.to_its_entry q key is).1 in cc)
      ]

      before : (k : ℕ) → key_of local ≡ Some k → k ≡ key
      before k is = elim at [
        | inl there ↦ same_Some _ _ (sym is ∙ there)
        | inr none ↦ absurd (let clash = sym none.0 ∙ is in cc)
      ]

      elsewhere : (q k : ℕ) → key_of q ≡ Some k → eqb q local ≡ false → k ≢ key
      elsewhere q k is apart e = absurd (let one : q ≡ local = only q (is ∙ ap Some e) in grind (arith, nat_tests, apart, one))

      put_at : (q : ℕ) (b : Bool) → eqb q local ≡ b → (o : Option ℕ) → key_of q ≡ o → value_at slab' (cond b (option_map (λ _. key) value) o) ≡ cond b value (value_at slab o)
      put_at q true is o there = here value updates.changed
        where
          here : (v : Option X) → get slab' key ≡ beside local v → value_at slab' (option_map (λ _. key) v) ≡ v
          here None at_key = refl
          here (Some w) at_key = ap (option_map (λ (entry : ℕ × X). entry.1)) at_key
      put_at q false is None there = refl
      put_at q false is (Some k) there = ap (option_map (λ (entry : ℕ × X). entry.1)) (updates.others k (elsewhere q k there is))

      -- the identifier leads to the entry that has it
      leads_here : (q k : ℕ) → q ≡ local → (v : Option X) → get slab' key ≡ beside local v → option_map (λ _. key) v ≡ Some k → (w : X) × (get slab' k ≡ Some (q, w))
      leads_here q k is None at_key e = absurd (cc)
      leads_here q k is (Some w) at_key e = (w, ap (get slab') (sym (same_Some _ _ e)) ∙ at_key ∙ ap (λ n. Some (n, w)) (sym is))

      leads_from : (q k : ℕ) (b : Bool) → eqb q local ≡ b → cond b (option_map (λ _. key) value) (key_of q) ≡ Some k → (w : X) × (get slab' k ≡ Some (q, w))
      leads_from q k true is e = leads_here q k (eqb-true q local is) value updates.changed e
      leads_from q k false is e =
          let old = leads.to_its_entry q k e in
          (old.0, updates.others k (elsewhere q k e is) ∙ old.1)

      -- and each entry is led to
      leads_to_it : (k l : ℕ) (v : X) → k ≡ key → (new : Option X) → new ≡ value → beside local new ≡ Some (l, v) → key_of' l ≡ Some k
      leads_to_it k l v is None new e = absurd (cc)
      leads_to_it k l v is (Some w) new e =
          let it : l ≡ local = sym (same_identifier _ _ e) in
          let test : eqb l local ≡ true = grind (arith, nat_tests, it) in
          leads_now l ∙ ap (λ b. cond b (option_map (λ _. key) value) (key_of l)) test ∙ ap (option_map (λ _. key)) (sym new) ∙ ap Some (sym is)

      leads_to : (k l : ℕ) (v : X) → get slab' k ≡ Some (l, v) → (b : Bool) → eqb k key ≡ b → key_of' l ≡ Some k
      leads_to k l v is true e =
          let it = eqb-true k key e in
          leads_to_it k l v it value refl (sym updates.changed ∙ sym (ap (get slab') it) ∙ is)
      leads_to k l v is false e =
          let ne : k ≢ key = λ it. absurd (grind (arith, nat_tests, e, it)) in
          let old = leads.to_each k l v (sym (updates.others k ne) ∙ is) in
          let test : eqb l local ≡ false = by old ne (eqb l local) refl in
          leads_now l ∙ ap (λ b. cond b (option_map (λ _. key) value) (key_of l)) test ∙ old
        where
          by : key_of l ≡ Some k → k ≢ key → (b : Bool) → eqb l local ≡ b → b ≡ false
          by old ne true one = absurd (ne (before k (ap key_of (sym (eqb-true l local one)) ∙ old)))
          by old ne false one = refl

      pub leads_put : Leads key_of' slab'
      leads_put = record {
        to_its_entry = λ q k is. leads_from q k (eqb q local) refl (sym (leads_now q) ∙ is);
        to_each = λ k l v is. leads_to k l v is (eqb k key) refl;
      }

  module _ (key_of : ℕ → Option ℕ) (slab : Slab (ℕ × X)) (leads : Leads key_of slab)
      (key_of' : ℕ → Option ℕ) (slab' : Slab (ℕ × X)) (local key : ℕ) (value : Option X)
      (leads_now : (q : ℕ) → key_of' q ≡ cond (eqb q local) (option_map (λ _. key) value) (key_of q))
      (updates : Updates slab slab' key (beside local value))
      (at : (key_of local ≡ Some key) ⊎ ((key_of local ≡ None) × (get slab key ≡ None))) where
    pub get_put : (q : ℕ) → map.get (values_in slab') q ≡ cond (eqb q local) value (map.get (values_in slab) q)
    get_put q =
        get_led key_of' slab' (leads_put key_of slab leads key_of' slab' local key value leads_now updates at) q
        ∙ ap (value_at slab') (leads_now q)
        ∙ put_at key_of slab leads key_of' slab' local key value leads_now updates at q (eqb q local) refl (key_of q) refl
        ∙ ap (cond (eqb q local) value) (sym (get_led key_of slab leads q))

  -- the value of an identifier is written over, added or taken out
  module _ (key_of : ℕ → Option ℕ) (slab : Slab (ℕ × X)) (leads : Leads key_of slab) (local key : ℕ) (slab' : Slab (ℕ × X)) where
    module _ (there : key_of local ≡ Some key) (w : X) (updates : Updates slab slab' key (Some (local, w))) where
      stays : (q : ℕ) (b : Bool) → eqb q local ≡ b → key_of q ≡ cond b (Some key) (key_of q)
      stays q true is = ap key_of (eqb-true q local is) ∙ there
      stays q false is = refl

      pub leads_written : Leads key_of slab'
      leads_written = leads_put key_of slab leads key_of slab' local key (Some w) (λ q. stays q (eqb q local) refl) updates (inl there)

      pub written : values_in slab' ≡ map.insert (values_in slab) local w
      written = same _ _ (λ q. get_put key_of slab leads key_of slab' local key (Some w) (λ q. stays q (eqb q local) refl) updates (inl there) q ∙ sym (inserted _ local w q))

    pub added : (key_of' : ℕ → Option ℕ) (w : X) → ((q : ℕ) → key_of' q ≡ cond (eqb q local) (Some key) (key_of q)) → Updates slab slab' key (Some (local, w)) → key_of local ≡ None → get slab key ≡ None
        → values_in slab' ≡ map.insert (values_in slab) local w
    added key_of' w now updates absent vacant = same _ _ (λ q. get_put key_of slab leads key_of' slab' local key (Some w) now updates (inr (absent, vacant)) q ∙ sym (inserted _ local w q))

    pub taken_out : (key_of' : ℕ → Option ℕ) → ((q : ℕ) → key_of' q ≡ cond (eqb q local) None (key_of q)) → Updates slab slab' key None → key_of local ≡ Some key
        → values_in slab' ≡ map.remove (values_in slab) local
    taken_out key_of' now updates there = same _ _ (λ q. get_put key_of slab leads key_of' slab' local key None now updates (inl there) q ∙ sym (removed _ local q))

  -- what becomes of the value of each identifier, and whether its slot has one after it
  module _ (P : ℕ → Option X → Option X → Type 0) where
    abbrev pub LeavesOf : Option (ℕ × X) → Option (ℕ × X) → Type 0
    LeavesOf None new = new ≡ None
    LeavesOf (Some e) new = (left : Option X) × P e.0 (Some e.1) left × (new ≡ beside e.0 left)

    kept_slot : (keep : Bool) (v w : ℕ × X) → P v.0 (Some v.1) (cond keep (Some w.1) None) → w.0 ≡ v.0 → LeavesOf (Some v) (cond keep (Some w) None)
    kept_slot true v w left same = (Some w.1, left, ap (λ n. Some (n, w.1)) same)
    kept_slot false v w left same = (None, left, refl)

    -- `retain` leaves that, where its closure stays as it was
    module _ {F : Type 0} (step : F → ℕ → MutBor (ℕ × X) → Bool → MutBor (ℕ × X) → F → Type 0) (f : F)
        (one : (key : ℕ) (v : ℕ × X) (keep : Bool) (w : ℕ × X) (next : F) → CalledAt step f key v keep w next → P v.0 (Some v.1) (cond keep (Some w.1) None) × (w.0 ≡ v.0) × (next ≡ f)) where
      pub slots_left : (key : ℕ) (old new : List (Option (ℕ × X))) → RetainsFrom step f key old new → (k : ℕ) → LeavesOf (get_or old k None) (get_or new k None)
      slots_left key [] new is k = ap (λ l. get_or l k None) is
      slots_left key (None ∷ old) new (later, is, more) zero = ap (λ l. get_or l 0 None) is
      slots_left key (None ∷ old) new (later, is, more) (suc k) = subst (λ l. LeavesOf (get_or old k None) (get_or l (suc k) None)) (sym is) (slots_left (key + 1) old later more k)
      slots_left key (Some v ∷ old) new (keep, w, next, called, later, is, more) zero =
          let o = one key v keep w next called in
          subst (λ l. LeavesOf (Some v) (get_or l 0 None)) (sym is) (kept_slot keep v w o.0 o.1)
      slots_left key (Some v ∷ old) new (keep, w, next, called, later, is, more) (suc k) =
          let rest = subst (λ g. RetainsFrom step g (key + 1) old later) (one key v keep w next called).2 more in
          subst (λ l. LeavesOf (get_or old k None) (get_or l (suc k) None)) (sym is) (slots_left (key + 1) old later rest k)

    module _ (none : (q : ℕ) → P q None None) (key_of : ℕ → Option ℕ) (slab : Slab (ℕ × X)) (leads : Leads key_of slab) (key_of' : ℕ → Option ℕ) (slab' : Slab (ℕ × X))
        (leaves : (k : ℕ) → LeavesOf (get slab k) (get slab' k))
        (now : (q : ℕ) → key_of' q ≡ option_filter (λ k. is_some (get slab' k)) (key_of q)) where
      -- the entry of an identifier
      module _ (q k : ℕ) (is : key_of q ≡ Some k) where
        left_of : (left : Option X) × P q (Some (leads.to_its_entry q k is).0) left × (get slab' k ≡ beside q left)
        left_of = subst (λ o. LeavesOf o (get slab' k)) (leads.to_its_entry q k is).1 (leaves k)

        now_at : key_of' q ≡ option_filter (λ k. is_some (get slab' k)) (Some k)
        now_at = now q ∙ ap (option_filter (λ k. is_some (get slab' k))) is

      filtered : (o : Option ℕ) (k : ℕ) → option_filter (λ k. is_some (get slab' k)) o ≡ Some k → (o ≡ Some k) × (is_some (get slab' k) ≡ true)
      filtered None k e = absurd (cc)
      filtered (Some n) k e = let both = cond_some _ n k e in (ap Some both.1, ap (λ m. is_some (get slab' m)) (sym both.1) ∙ both.0)

      to_entry : (q k : ℕ) (left : Option X) → get slab' k ≡ beside q left → is_some (get slab' k) ≡ true → (w : X) × (get slab' k ≡ Some (q, w))
      to_entry q k None is has = absurd (false≢true (sym (ap is_some is) ∙ has))
      to_entry q k (Some w) is has = (w, is)

      from_slot : (k q : ℕ) (w : X) (o : Option (ℕ × X)) → get slab k ≡ o → LeavesOf o (get slab' k) → get slab' k ≡ Some (q, w) → key_of q ≡ Some k
      from_slot k q w None was left is = absurd (let clash = sym left ∙ is in cc)
      from_slot k q w (Some e) was (None, p, left) is = absurd (let clash = sym left ∙ is in cc)
      from_slot k q w (Some e) was (Some v, p, left) is = leads.to_each k q e.1 (was ∙ ap (λ n. Some (n, e.1)) (same_identifier _ _ (sym left ∙ is)))

      pub leads_left : Leads key_of' slab'
      leads_left = record {
        to_its_entry = λ q k is.
            let f = filtered (key_of q) k (sym (now q) ∙ is) in
            let l = left_of q k f.0 in
            to_entry q k l.0 l.2 f.1;
        to_each = λ k q w is.
            let before = from_slot k q w (get slab k) refl (leaves k) is in
            now_at q k before ∙ ap (λ o. cond (is_some o) (Some k) None) is;
      }

      pub each_left : (q : ℕ) → P q (map.get (values_in slab) q) (map.get (values_in slab') q)
      each_left q =
          subst (λ o. P q o (map.get (values_in slab') q)) (sym (get_led key_of slab leads q))
          (subst (P q (value_at slab (key_of q))) (sym (get_led key_of' slab' leads_left q)) (by (key_of q) refl))
        where
          kept : (k : ℕ) (left : Option X) → get slab' k ≡ beside q left → value_at slab' (cond (is_some (get slab' k)) (Some k) None) ≡ left
          kept k None is = ap (λ o. value_at slab' (cond (is_some o) (Some k) None)) is
          kept k (Some w) is = ap (λ o. value_at slab' (cond (is_some o) (Some k) None)) is ∙ ap (option_map (λ (e : ℕ × X). e.1)) is

          by : (o : Option ℕ) → key_of q ≡ o → P q (value_at slab o) (value_at slab' (key_of' q))
          by None is = subst (λ o. P q None (value_at slab' o)) (sym (now q ∙ ap (option_filter (λ k. is_some (get slab' k))) is)) (none q)
          by (Some k) is =
              let l = left_of q k is in
              subst (λ o. P q o (value_at slab' (key_of' q))) (sym (ap (option_map (λ (e : ℕ × X). e.1)) (leads.to_its_entry q k is).1))
              (subst (P q (Some (leads.to_its_entry q k is).0)) (sym (ap (value_at slab') (now_at q k is) ∙ kept k l.0 l.2)) l.1)

-- an index with nothing in it
pub leads_empty : {X : Type 0} (key_of : ℕ → Option ℕ) (slab : Slab (ℕ × X)) → ((q : ℕ) → key_of q ≡ None) → slab.slots ≡ [] → Leads key_of slab
leads_empty key_of slab nowhere empty = record {
  to_its_entry = λ local key is. absurd (let clash = sym (nowhere local) ∙ is in cc);
  to_each = λ key local value is. absurd (let clash = ap (λ slots. get_or slots key None) (sym empty) ∙ is in cc);
}

module _ {S : Type 0} (before after : HashMap ℕ ℕ S) where
  -- what an index has for each identifier after a change at one
  pub changed_at : (local : ℕ) (key : Option ℕ) → UpdatesBy nat_eq (nat_eq local) before after key → (q : ℕ) → key_in after q ≡ cond (eqb q local) key (key_in before q)
  changed_at local key updates q = updates.0 q ∙ ap (λ b. cond b key (key_in before q)) (turned local q)
    where
      turned : (l q : ℕ) → nat_eq l q ≡ eqb q l
      turned l q = grind (arith, nat_tests)

  -- where the values that pass a test stay
  pub kept_keys : (p : ℕ → Bool) → IsUnique nat_eq before → after.entries ≡ filter (λ (e : ℕ × ℕ). p e.1) before.entries → (q : ℕ) → key_in after q ≡ option_filter p (key_in before q)
  kept_keys p unique is q = ap (lookup (nat_eq q)) is ∙ lookup-filter-values nat_eq_equiv p q before.entries unique

  -- and where its entries stay
  pub unchanged : after.entries ≡ before.entries → (q : ℕ) → key_in after q ≡ key_in before q
  unchanged same q = ap (lookup (nat_eq q)) same

-- two functions of what is written through a reference that is lent agree
pub lent : {N A B C : Type 0} {name : N} {f g : A → B} → ((w : A) → f w ≡ g w) → ◌≡◌ {A = (N × (A → B)) ⊎ C} (inl (name, f)) (inl (name, g))
lent {name = name} agree = λ i. inl (name, λ w. agree w i)
