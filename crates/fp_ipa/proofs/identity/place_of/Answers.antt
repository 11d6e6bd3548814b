use Rattle.std.proofs.Common.{length, arith, refl, sym, ap, ◌∙◌, below_more}
use Rattle.std.specs.Prelude.{Some}
use Rattle.std.specs.Cmp.Lexicographic.{bytes_decides}
use Rattle.std.proofs.lemmas.Option.{get_or_from_slice_get, slice_get_read, slice_get_within}
use Rattle.fp_ipa.proofs.identity.place_of.Goals as goal

pub returns-then-eq : goal.returns-then-eq
returns-then-eq c =
    let same = (bytes_decides c.as_slice.result.now c.args.name.now).0 (sym c.eq.ensures ∙ c.if-eq.true) in
    record {
      there =
          slice_get_read c.args.names.now (length c.args.names.now) c.loop-place.place c.index-names-place.result
          refl c.loop-place-test.true c.index-names-place.is
          ∙ ap Some (sym c.as_slice.ensures.value ∙ same);
      first = c.loop-place.invariant;
    }

pub loop-place-preserved : goal.loop-place-preserved
loop-place-preserved c =
    below_more _ _ c.loop-place.invariant
    (λ e.
    let named = get_or_from_slice_get c.args.names.now c.loop-place.place c.args.name.now c.index-names-place.result e in
    let same = (bytes_decides c.as_slice.result.now c.args.name.now).1
    (c.as_slice.ensures.value ∙ c.index-names-place.is ∙ named) in
    let contrary = sym c.if-eq.false ∙ c.eq.ensures ∙ same in
    absurd (cc contrary))

pub returns : goal.returns
returns c = λ place e.
    let within = slice_get_within c.args.names.now place c.args.name.now e in
    let past = c.loop-place-test.false in
    c.loop-place.invariant place (omega (arith, within, past)) e
