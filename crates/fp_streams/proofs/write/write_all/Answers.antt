use Rattle.std.proofs.Common.{length, take, drop, arith, ap, length-drop, rules}
use Rattle.std.proofs.KnownBytes.{Appends-kept, Appends-trans}
use Rattle.std.proofs.lemmas.List.{take-append-drop, take_rest}
use Rattle.std.proofs.Math.Seq.{take-add}
use Rattle.fp_streams.proofs.write.write_all.Goals as goal

pub returns-in_default-clause-front : goal.returns-in_default-clause-front
returns-in_default-clause-front g c =
    let at = c.loop-at.at in
    let octets = c.args.octets.now in
    record {
      front = take at octets;
      rest = drop at octets;
      wrote = Appends-kept _ _ _ (take at octets) c.loop-at.invariant.wrote c.in_default.ensures.octets;
      whole = take-append-drop at octets;
    }

pub returns-in_default-clause-part : goal.returns-in_default-clause-part
returns-in_default-clause-part g c =
    let at = c.loop-at.at in
    let octets = c.args.octets.now in
    let left = length-drop at octets in
    let more = c.loop-at-test.true in
    record {
      front = take at octets;
      rest = drop at octets;
      wrote = Appends-kept _ _ _ (take at octets) c.loop-at.invariant.wrote c.in_default.ensures.octets;
      whole = take-append-drop at octets;
      missing = omega (arith, left, more);
    }

pub loop-at-preserved : goal.loop-at-preserved
loop-at-preserved g c =
    let at = c.loop-at.at in
    let count = c.in-Ok.count in
    let octets = c.args.octets.now in
    let rest = take_rest octets at in
    let bound = c.in-Ok.ensures.bound in
    let size = ap length rest in
    let left = length-drop at octets in
    let joined = Appends-trans _ _ _ (take at octets) (take count (drop at octets)) c.loop-at.invariant.wrote (rw rest at c.in-Ok.ensures.octets) in
    record {
      within = omega (arith, bound, size, left, c.loop-at-test.true);
      wrote = rw (take-add at count octets) joined;
      fine = search rules;
    }
