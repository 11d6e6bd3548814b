use Rattle.std.proofs.Common.{[], ◌∷◌, inr, ◌∙◌, append_assoc, arith}
use Rattle.fp_replay.specs.Format.{text_of}
use Rattle.fp_logtext.proofs.Limits.{ends_below, one_made}
use Rattle.fp_logtext.proofs.made.add_lines.Goals as goal

pub loop-made-preserved : goal.loop-made-preserved
loop-made-preserved c =
    let before = c.loop-made.invariant in
    let text = c.loop-made.text.items in
    let new = c.write_line.new.text.items in
    let line = c.index-lines-made.result in
    let made = c.in_ok-write_line.ensures.written ∙ append_assoc text (text_of line) (10 ∷ []) in
    record {
      within = omega (arith, c.loop-made-test.true);
      forth = omega (arith, before.forth);
      limit = inr (ends_below c.args.most text new line made (omega (arith, c.if-len-most.false, c.len.ensures)));
      in_order = one_made text new c.args.lines.now c.loop-made.made line c.loop-made-test.true c.index-lines-made.is made ∙ before.in_order;
    }
