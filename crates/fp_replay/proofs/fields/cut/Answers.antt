use Rattle.std.proofs.Common.{refl, sym, ◌∙◌, subst}
use Rattle.std.proofs.lemmas.List.{take_all}
use Rattle.fp_replay.specs.proof_only.Fields.{IsField}
use Rattle.fp_replay.proofs.Cutting.{cut_at, no_field, one_cut}
use Rattle.fp_replay.proofs.fields.cut.Goals as goal

pub returns-then-octet-eq32-clause-found : goal.returns-then-octet-eq32-clause-found
returns-then-octet-eq32-clause-found c = cut_at c.args.text.now c.loop-place.place _ c.loop-place-test.true c.if-octet-eq32.true refl

pub returns-then-octet-eq32-clause-only : goal.returns-then-octet-eq32-clause-only
returns-then-octet-eq32-clause-only c = λ a b field e.
    let cut = cut_at c.args.text.now c.loop-place.place _ c.loop-place-test.true c.if-octet-eq32.true refl in
    one_cut 32 _ _ a b c.loop-place.invariant field (sym cut ∙ e)

pub returns-clause-only : goal.returns-clause-only
returns-clause-only c = λ a b field e.
    no_field a b (subst IsField (take_all c.loop-place.place c.args.text.now c.loop-place-test.false ∙ e) c.loop-place.invariant)
