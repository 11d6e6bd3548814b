use Rattle.std.proofs.Common.{[], ◌∷◌, refl, sym, ◌∙◌}
use Rattle.std.proofs.lemmas.Bool.{false≢true}
use Rattle.std.proofs.lemmas.Result.{IfOk-weaker}
use Rattle.fp_adaptor.proofs.adaptor.Adaptor.received.Goals as goal

pub returns : goal.returns
returns c = record {
  received = λ setting history led. (
    [],
    (λ here. false≢true (sym c.if-is_here.false ∙ c.is_here.ensures.1 (here.0, led.connections here.0 ∙ here.1)), refl),
    led,
  );
}

pub returns-then-is_here : goal.returns-then-is_here
returns-then-is_here c = record {
  received =
      IfOk-weaker c.take.result _ _
      (λ outcome h setting history led.
      let here = c.is_here.ensures.0 c.if-is_here.true in
      let r = h setting history led in
      (r.0 ∷ [], ((here.0, sym (led.connections here.0) ∙ here.1), r.1, refl), r.2))
      c.take.ensures;
}
