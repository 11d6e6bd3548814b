use Rattle.std.proofs.Common.{◌≡◌, arith, subst, ◌∙◌, ap, sym, pos, false, to_z, of_z, w8}
use Rattle.std.proofs.lemmas.Int.{ints}
use Rattle.fp_ism.specs.Identifier.{identifier_after}
use Rattle.fp_ism.specs.Invocation.{is_active}
use Rattle.fp_ism.specs.Invocations.{AreInvocations}
use Rattle.fp_ism.proofs.Free.{next_identifier-is, none_free}
use Rattle.fp_ism.proofs.invocations.Invocations.next.Goals as goal

pub returns-then-not-contains-clause-value : goal.returns-then-not-contains-clause-value
returns-then-not-contains-clause-value c =
    let kept : to_z w8 (of_z w8 c.identifier_after-candidate.result) ≡ pos (identifier_after c.self.inside.last_started c.loop-step.step) =
    omega (arith, ints) in
    let free : is_active (pos (identifier_after c.self.inside.last_started c.loop-step.step)) c.self.inside.active ≡ false =
    subst (λ z. is_active z c.self.inside.active ≡ false) kept (sym c.contains.ensures ∙ c.if-not-contains.true) in
    rw (← c.self.view_is)
    (kept ∙ ap pos (sym (next_identifier-is c.self.inside.last_started c.self.inside.active c.loop-step.step c.loop-step-test.true (rw (← c.self.view_is) at c.loop-step.invariant) free)))

pub unreachable-requires : goal.unreachable-requires
unreachable-requires c =
    let sound : AreInvocations c.args.self.now = subst AreInvocations c.self.view_is c.self.invariant in
    none_free c.args.self.now.last_started c.args.self.now.active sound.last sound.most
    (λ k below. c.loop-step.invariant k (omega arith))
