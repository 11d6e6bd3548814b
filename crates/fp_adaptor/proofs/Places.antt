-- A list of what units have.
use Rattle.std.proofs.Common.{◌≡◌, ℕ, zero, suc, ◌<◌, ◌≤◌, List, [], ◌∷◌, length, Option, Some, None, arith, refl}
use Rattle.fp_adaptor.specs.Connections.{connection_at}

-- a unit that has a connection is one of the list
pub within : (places : List (Option ℕ)) (unit connection : ℕ) → connection_at places unit ≡ Some connection → unit < length places
within [] unit connection is = absurd (cc is)
within (place ∷ places) zero connection is = omega arith
within (place ∷ places) (suc unit) connection is = omega (arith, within places unit connection is)

-- a unit after the list has none
pub past : (places : List (Option ℕ)) (unit : ℕ) → length places ≤ unit → connection_at places unit ≡ None
past [] unit le = refl
past (place ∷ places) zero le = absurd (omega (arith, le))
past (place ∷ places) (suc unit) le = past places unit (omega (arith, le))
