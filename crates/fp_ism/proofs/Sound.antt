-- The invariant of invocations holds after some end.
use Rattle.std.proofs.Common.{◌≡◌, ℕ, ◌+◌, ◌≤◌, List, length, take, Bool, true, not, refl, subst, arith, ℤ}
use Rattle.std.specs.Prelude.{◌≢◌, All, Any, filter}
use Rattle.std.proofs.lemmas.Bool.Decides.{Decides-int_eq}
use Rattle.std.proofs.lemmas.List.{length-take-le}
use Rattle.std.proofs.lemmas.List.Elements.{All-filter}
use Rattle.std.proofs.lemmas.List.Filters.{length-filter_both}
use Rattle.std.proofs.lemmas.List.Folds.{Any-from_list_any}
use Rattle.std.proofs.lemmas.List.Kept.{AllPairs-filter}
use Rattle.fp_ism.specs.declared.invocation.Invocation.{Invocation}
use Rattle.fp_ism.specs.Due.{is_due, those_due, those_left}
use Rattle.fp_ism.specs.Identifier.{IsIdentifier}
use Rattle.fp_ism.specs.Invocation.{has_identifier, is_active}
use Rattle.fp_ism.specs.Invocations.{AreInvocations}

-- a filter leaves at most what there was
pub length-filter_le : {X : Type 0} (p : X → Bool) (xs : List X) → length (filter p xs) ≤ length xs
length-filter_le p xs = omega (arith, length-filter_both p (λ x. not (p x)) (λ x. refl) xs)

-- and of the first elements at most their number
pub length-filter-take : {X : Type 0} (p : X → Bool) (xs : List X) (index : ℕ) → index ≤ length xs → length (filter p (take index xs)) ≤ index
length-filter-take p xs index within = omega (arith, length-filter_le p (take index xs), length-take-le index xs within)

-- those that are due and the others are all
pub length-those_due : (moment : ℕ) (active : List Invocation) → length (those_due moment active) + length (those_left moment active) ≡ length active
length-those_due moment active =
    length-filter_both (is_due moment) (λ invocation. not (is_due moment invocation)) (λ invocation. refl) active

-- some end
pub AreInvocations-filter : (p : Invocation → Bool) (last : ℕ) (active : List Invocation) → AreInvocations (record { last_started = last; active = active }) → AreInvocations (record { last_started = last; active = filter p active })
AreInvocations-filter p last active before = record {
  last = before.last;
  most = omega (arith, length-filter_le p active, before.most);
  identifiers = All-filter p (λ invocation. IsIdentifier invocation.identifier) active before.identifiers;
  distinct = AllPairs-filter (λ a b. a.identifier ≢ b.identifier) p active before.distinct;
}

-- an active identifier is one of 1 to 127
pub IsIdentifier-is_active : (identifier : ℤ) (active : List Invocation) → All (λ invocation. IsIdentifier invocation.identifier) active → is_active identifier active ≡ true → IsIdentifier identifier
IsIdentifier-is_active identifier active each is =
    let found : Any (λ invocation. has_identifier identifier invocation ≡ true) active =
    Any-from_list_any (has_identifier identifier) active is in
    let same : found.1.identifier ≡ identifier = (Decides-int_eq found.1.identifier identifier).0 found.4 in
    subst IsIdentifier same (subst (λ (invocation : Invocation). IsIdentifier invocation.identifier) found.3 (each found.0 found.1 found.2))
