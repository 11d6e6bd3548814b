-- Steps that are made one after another in one hold of the lock.
use Rattle.std.specs.Prelude.{◌≡◌, List, [], ◌∷◌}

-- one step and then the others, with what is between them
pub record Then {S : Type 0} (step others : S → Type 0) : Type 0 where
  pub between : S
  pub first : step between
  pub later : others between

-- each of these steps was made, in their order
abbrev pub Chain : {S X : Type 0} → (S → X → S → Type 0) → S → List X → S → Type 0
Chain step old [] new = new ≡ old
Chain step old (x ∷ xs) new = Then (step old x) (λ between. Chain step between xs new)
