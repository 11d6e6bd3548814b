use Rattle.std.proofs.Common.{◌++◌, length, decimal, ap, ◌∙◌, arith, length-drop, length-append}
use Rattle.fp_replay.proofs.LineTexts.{decimal_short}
use Rattle.fp_replay.proofs.line_part.LinePart.put_number.Goals as goal

pub write_digits-self-inside-requires : goal.write_digits-self-inside-requires
write_digits-self-inside-requires c =
    let short = decimal_short c.args.number c.ranges.number.fits in
    let left = length-drop c.self.inside.start c.self.inside.octets in
    (omega (arith, short, left, ap length c.self.view_is, c.self.told, c.requires), omega (arith, c.self.told, c.self.invariant))

pub returns : goal.returns
returns c =
    let written = c.write_digits-self-inside.ensures.written ∙ ap (λ rest. decimal c.args.number ++ rest) c.self.view_is in
    let short = decimal_short c.args.number c.ranges.number.fits in
    (written, omega (arith, ap length written, length-append (decimal c.args.number) c.args.self.now, short))
