-- The first component is an Invoke, and nothing follows it.
use Rattle.std.proofs.Common.{sym, ◌∙◌, refl, arith}
use Rattle.fp_counters.proofs.Sent.{one_invoke}
use Rattle.fp_counters.proofs.frame.is_one_invoke.Goals as goal

pub returns : goal.returns
returns c = λ acceptance all is yes.
    one_invoke c.args.portions.now c.after-component.result.now acceptance all
    (λ class number children rest small is. (
      c.if-not-is_short.ensures.contents class number children rest small is refl,
      c.if-not-is_short.ensures.alone class number children rest small is refl,
    ))
    (sym c.octet_at.ensures ∙ omega (arith, c.if-octet_at-ne-COMPONENTS.false)) c.after-component.ensures.is
    (λ class number children rest small is. (
      c.if-not-is_short-2.ensures.contents class number children rest small is refl,
      c.if-not-is_short-2.ensures.alone class number children rest small is refl,
    ))
    (sym c.octet_at-2.ensures ∙ omega (arith, c.if-octet_at.false)) is
