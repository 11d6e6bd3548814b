use Rattle.std.proofs.Common.{[], ◌∷◌, ◌<◌, length, inr, ◌∙◌, append_assoc, arith}
use Rattle.fp_book.specs.declared.line.Line.TheVariants.{Step}
use Rattle.fp_replay.specs.Format.{text_of}
use Rattle.fp_logtext.proofs.Limits.{ends_below}
use Rattle.fp_logtext.proofs.StepsMade.{one_step_made}
use Rattle.fp_logtext.proofs.exchanged.add_steps.Goals as goal

pub loop-made-preserved : goal.loop-made-preserved
loop-made-preserved c =
    let before = c.loop-made.invariant in
    let text = c.loop-made.text.items in
    let new = c.write_step_line.new.text.items in
    let step = c.in-Some.step.now in
    let item = c.in-Some.ensures.item in
    let within : c.loop-made.made < length c.args.log.now = item.3.0 in
    let made = c.in_ok-write_step_line.ensures.written ∙ append_assoc text (text_of (Step c.args.link step)) (10 ∷ []) in
    record {
      within = omega (arith, within);
      forth = omega (arith, before.forth);
      limit = inr (ends_below c.args.most text new (Step c.args.link step) made (omega (arith, c.if-len-most.false, c.len.ensures)));
      in_order = one_step_made text new c.args.link c.args.log.now c.loop-made.made step within item.1 made ∙ before.in_order;
    }
