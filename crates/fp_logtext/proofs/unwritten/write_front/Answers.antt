use Rattle.std.proofs.Common.{length, take, drop, arith, ap, length-drop, rules}
use Rattle.std.proofs.KnownBytes.{Appends-trans}
use Rattle.std.proofs.lemmas.List.{take_rest}
use Rattle.std.proofs.Math.Seq.{take-add}
use Rattle.fp_logtext.proofs.unwritten.write_front.Goals as goal

pub loop-at-preserved : goal.loop-at-preserved
loop-at-preserved g c =
    let at = c.loop-at.at in
    let count = c.in-Ok.count in
    let text = c.args.text.now in
    let rest = take_rest text at in
    let bound = c.in-Ok.ensures.bound in
    let size = ap length rest in
    let left = length-drop at text in
    let joined = Appends-trans _ _ _ (take at text) (take count (drop at text)) c.loop-at.invariant.wrote (rw rest at c.in-Ok.ensures.octets) in
    record {
      within = omega (arith, bound, size, left, c.loop-at-test.true);
      wrote = rw (take-add at count text) joined;
      fine = search rules;
    }
