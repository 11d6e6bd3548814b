-- The spelling of an Abort of the provider, and the front of octets.
use Rattle.std.proofs.Common.{◌≡◌, ℕ, ◌+◌, List, [], ◌∷◌, ◌++◌, length, refl, sym, subst, Option, arith}
use Rattle.fp_ber.specs.Canon.{canon}
use Rattle.fp_q773.specs.declared.kind.Kind.{Kind}
use Rattle.fp_q773.specs.Ids.{AreIds}
use Rattle.fp_q773.specs.ProviderAbort.{provider_abort}
use Rattle.fp_q773.specs.Tid.{IsTid}

-- by how many octets the identifier has
pub abort_of : (o : List ℕ) (cause : ℕ) → IsTid o →
    ((0x67 ∷ (length o + 5) ∷ 0x49 ∷ length o ∷ []) ++ o) ++ (0x4A ∷ 1 ∷ cause ∷ []) ≡ canon (provider_abort o cause)
abort_of [] cause h = absurd (omega (arith, h))
abort_of (a ∷ []) cause h = refl
abort_of (a ∷ b ∷ []) cause h = refl
abort_of (a ∷ b ∷ c ∷ []) cause h = refl
abort_of (a ∷ b ∷ c ∷ d ∷ []) cause h = refl
abort_of (a ∷ b ∷ c ∷ d ∷ e ∷ o) cause h = absurd (omega (arith, h))

-- what is known of octets by their first one and those behind it
pub ids_by : (o body : List ℕ) (first : ℕ) (kind : Kind) (originating destination : Option (List ℕ)) → o ≡ first ∷ body
    → AreIds (first ∷ body) kind originating destination → AreIds o kind originating destination
ids_by o body first kind originating destination is h = subst (λ z. AreIds z kind originating destination) (sym is) h
