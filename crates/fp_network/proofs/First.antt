-- A message goes by one connection.
use Rattle.std.proofs.Common.{◌≡◌, ℕ, ◌+◌, ◌<◌, ◌≤◌, cond, List, ◌∷◌, Option, None, Some, arith, inl, inr, refl, sym, ap, ◌∙◌}
use Rattle.std.proofs.lemmas.Bool.{cases_lt, eq-eqb}
use Rattle.std.proofs.lemmas.Option.{none-some}
use Rattle.fp_adaptor.specs.Connections.{IsFirst, connection_at, without}
use Rattle.fp_adaptor.specs.History.{Event, connection_after, ended}

abbrev value_of : Option ℕ → ℕ
value_of None = 0
value_of (Some value) = value

pub same_some : (one other : ℕ) → Some one ≡ Some other → one ≡ other
same_some one other is = ap value_of is

pub first_one : (has : ℕ → Option ℕ) (one other : Option ℕ) → IsFirst has one → IsFirst has other → one ≡ other
first_one has None None p q = refl
first_one has None (Some other) p q = absurd (none-some _ (sym (p q.0) ∙ q.1))
first_one has (Some one) None p q = absurd (none-some _ (sym (q p.0) ∙ p.1))
first_one has (Some one) (Some other) p q =
    elim (cases_lt p.0 q.0) [
      | inl below ↦ absurd (none-some _ (sym (q.2 p.0 below) ∙ p.1))
      | inr above ↦ elim (cases_lt q.0 p.0) [
        | inl over ↦ absurd (none-some _ (sym (p.2 q.0 over) ∙ q.1))
        | inr under ↦ sym p.1 ∙ ap has (omega (arith, above, under)) ∙ q.1
      ]
    ]

-- once the first connection is over, one more unit has none
pub none_so_far : (old new : List (Option ℕ)) (history : List Event) (place upto : ℕ)
    → ((unit : ℕ) → connection_at old unit ≡ connection_after history unit)
    → ((unit : ℕ) → connection_at new unit ≡ connection_after (ended place ∷ history) unit)
    → IsFirst (connection_after history) (Some place)
    → ((unit : ℕ) → unit < upto → connection_at old unit ≡ None)
    → (unit : ℕ) → unit < upto + 1 → connection_at new unit ≡ None
none_so_far old new history place upto before after first none unit below =
    after unit ∙ elim (cases_lt unit first.0) [
      | inl less ↦ ap (without place) (first.2 unit less)
      | inr above ↦ elim (cases_lt first.0 upto) [
        | inl less ↦ absurd (none-some _ (sym (none first.0 less) ∙ before first.0 ∙ first.1))
        | inr most ↦ ap (without place) (ap (connection_after history) (same above most) ∙ first.1) ∙ gone
      ]
    ]
  where
    same : first.0 ≤ unit → upto ≤ first.0 → unit ≡ first.0
    same above most = omega (arith, above, most, below)

    gone : without place (Some place) ≡ None
    gone = ap (λ t. cond t None (Some place)) (eq-eqb place place refl)
