use Rattle.std.proofs.Common.{◌≡◌, subst, sym, ◌∙◌, true, arith, to_z, of_z, w8}
use Rattle.std.proofs.lemmas.Int.{ints}
use Rattle.fp_ism.specs.Invocation.{is_active}
use Rattle.fp_ism.proofs.Sound.{IsIdentifier-is_active}
use Rattle.fp_ism.proofs.invocations.Invocations.active.Goals as goal

pub returns-clause-range : goal.returns-clause-range
returns-clause-range c =
    λ is.
    let kept : to_z w8 (of_z w8 c.args.identifier) ≡ c.args.identifier = omega (arith, ints) in
    IsIdentifier-is_active c.args.identifier c.self.inside.active c.self.invariant.identifiers
    (subst (λ z. is_active z c.self.inside.active ≡ true) kept (sym c.contains.ensures ∙ is))
