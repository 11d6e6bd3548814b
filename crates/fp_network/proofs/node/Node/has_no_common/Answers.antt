use Rattle.std.proofs.Common.{ℕ, None, arith, below_more, length, refl, sym, ap, ◌∙◌, inl, inr}
use Rattle.std.proofs.lemmas.Bool.{cases_lt, false≢true}
use Rattle.std.proofs.lemmas.List.{get_or_past}
use Rattle.fp_network.specs.Node.{has_common_of}
use Rattle.fp_network.proofs.node.Node.has_no_common.Goals as goal

pub returns-then-has_common_at : goal.returns-then-has_common_at
returns-then-has_common_at c = (
  λ e. absurd (false≢true e),
  λ all. sym (all c.loop-place.place) ∙ sym c.has_common_at.ensures ∙ c.if-has_common_at.true,
)

pub loop-place-preserved : goal.loop-place-preserved
loop-place-preserved c = below_more _ _ c.loop-place.invariant (sym c.has_common_at.ensures ∙ c.if-has_common_at.false)

pub returns : goal.returns
returns c = (
  λ e (place : ℕ).
      let past = c.loop-place-test.false in
      elim (cases_lt place c.loop-place.place) [
        | inl below ↦ c.loop-place.invariant place below
        | inr above ↦ ap (has_common_of (length c.args.self.now.names.items))
            (get_or_past c.args.self.now.places.items place None (omega (arith, above, past)))
      ],
  λ all. refl,
)
