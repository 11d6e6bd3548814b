-- The dialogues that are kept are those that are open.
use Rattle.std.specs.Prelude.{◌≡◌, ◌↔◌, ℕ, List, Option, Some}
use Rattle.std.specs.BTreeMap as tree
use Rattle.std.specs.Cmp.Lexicographic.{slice_cmp}
use Rattle.std.specs.Ordering.{nat_cmp}
use Rattle.fp_adaptor.specs.declared.dialogues.Dialogues.{Dialogues}

-- two maps lead to each other: what the one has at a key has that key in the other
abbrev pub Paired : (List ℕ → Option (List ℕ)) → (List ℕ → Option (List ℕ)) → Type 0
Paired one other = (p q : List ℕ) → (other p ≡ Some q) ↔ (one q ≡ Some p)

-- a map from the link's identifiers has what is open, and an index from the exchange's leads there
pub record Follows (has index known : List ℕ → Option (List ℕ)) : Type 0 where
  pub each : (local : List ℕ) → has local ≡ known local
  pub leads : Paired known index

-- what the two maps have at an identifier
abbrev pub at_local : Dialogues → List ℕ → Option (List ℕ)
at_local kept local = tree.get (slice_cmp nat_cmp) kept.by_local local

abbrev pub at_exchange : Dialogues → List ℕ → Option (List ℕ)
at_exchange kept exchange = tree.get (slice_cmp nat_cmp) kept.by_exchange exchange

-- the dialogues that are kept are those that are open
abbrev pub Sees : Dialogues → (List ℕ → Option (List ℕ)) → Type 0
Sees kept known = Follows (at_local kept) (at_exchange kept) known
