-- A slab whose entries have their identifiers beside their values, and an index that leads to the entry of each
-- identifier.
use Rattle.std.specs.Prelude.{◌≡◌, ℕ, Option, Some, nat_eq}
use Rattle.std.specs.Ordering.{nat_cmp}
use Rattle.std.specs.FinMap as map
use Rattle.std.specs.HashMap as hash
use Rattle.slab.specs.Slab.{Slab, get, values}

-- the key that an index has for an identifier
abbrev pub key_in : {S : Type 0} → hash.HashMap ℕ ℕ S → ℕ → Option ℕ
key_in index local = hash.get nat_eq index local

-- the values of all entries, each under its identifier
abbrev pub values_in : {X : Type 0} → Slab (ℕ × X) → map.FinMap nat_cmp X
values_in slab = map.from_entries (values slab)

-- each identifier is led to the entry that has it, and to each entry the identifier that it has
pub record Leads {X : Type 0} (key_of : ℕ → Option ℕ) (slab : Slab (ℕ × X)) : Type 0 where
  pub to_its_entry : (local key : ℕ) → key_of local ≡ Some key → (value : X) × (get slab key ≡ Some (local, value))
  pub to_each : (key local : ℕ) (value : X) → get slab key ≡ Some (local, value) → key_of local ≡ Some key
