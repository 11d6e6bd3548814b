use Rattle.std.proofs.Common.{refl, sym, ◌∙◌}
use Rattle.fp_ask.proofs.Written.{handed_on, not_handed_on}
use Rattle.fp_ask.proofs.answering.AnsweringTakesLine.take_line.Goals as goal

pub returns-in-Ok : goal.returns-in-Ok
returns-in-Ok g c =
    handed_on _ _ _ c.args.line.now _ (record {
      contents = refl;
      contexts = refl;
      answerer = refl;
      writer = refl;
      held = c.in-Ok.ensures.octets;
    }) c.in-Ok.ensures.failure c.answer-answered.ensures

pub returns-in-Err : goal.returns-in-Err
returns-in-Err g c =
    not_handed_on _ _ _ c.args.line.now _ (sym c.is_write_fault.ensures ∙ c.if-is_write_fault.false) (record {
      contents = refl;
      contexts = refl;
      answerer = refl;
      writer = refl;
      held = c.in-Err.ensures.octets;
    }) c.in-Err.ensures.failure c.answer-answered.ensures
