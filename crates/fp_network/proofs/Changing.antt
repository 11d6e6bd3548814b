-- A loop that goes through all places changes the connections in them one after another.
use Rattle.std.proofs.Common.{◌≡◌, ℕ, ◌+◌, ◌<◌, ◌≤◌, None, arith, length, refl, sym, ap, ◌∙◌, below_more, inl, inr}
use Rattle.std.proofs.lemmas.Bool.{cases_lt}
use Rattle.std.proofs.lemmas.List.{get_or_past}
use Rattle.std.specs.Option.{option_map}
use Rattle.fp_network.specs.declared.connection.Connection.{Connection}
use Rattle.fp_network.specs.declared.node.Node.{Node}
use Rattle.fp_network.specs.Node.{ChangesEach, LeavesOthers, connection_in}

-- the connections in the places below this one were changed, and no others
pub record Changing (change : Connection → Connection) (upto : ℕ) (old new : Node) : Type 0 where
  pub done : (place : ℕ) → place < upto → connection_in new place ≡ option_map change (connection_in old place)
  pub left : (place : ℕ) → upto ≤ place → connection_in new place ≡ connection_in old place

pub changing_none : (change : Connection → Connection) (old : Node) → Changing change 0 old old
changing_none change old = record { done = λ place below. absurd (omega (arith, below)); left = λ place _. refl }

-- the next one is changed
pub changing_more : (change : Connection → Connection) (upto : ℕ) (old mid new : Node) → Changing change upto old mid
    → connection_in new upto ≡ option_map change (connection_in mid upto) → LeavesOthers upto mid new → Changing change (upto + 1) old new
changing_more change upto old mid new so here others = record {
  done = below_more (λ place. connection_in new place ≡ option_map change (connection_in old place)) upto
      (λ place below. others place (λ is. absurd (omega arith)) ∙ so.done place below)
      (here ∙ ap (option_map change) (so.left upto (omega arith)));
  left = λ place above. others place (λ is. absurd (omega arith)) ∙ so.left place (omega arith);
}

-- all are
pub changing_all : (change : Connection → Connection) (upto : ℕ) (old new : Node) → length old.places.items ≤ upto
    → Changing change upto old new → ChangesEach change old new
changing_all change upto old new le so place =
    let past : upto ≤ place → connection_in old place ≡ None
    = λ above. get_or_past old.places.items place None (omega arith)
    in elim (cases_lt place upto) [
      | inl below ↦ so.done place below
      | inr above ↦ so.left place above ∙ past above ∙ sym (ap (option_map change) (past above))
    ]
