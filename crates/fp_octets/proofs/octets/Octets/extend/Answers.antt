-- There is room for each octet that is still to come.
use Rattle.std.proofs.Common.{arith, ap, length, length-append}
use Rattle.fp_octets.proofs.octets.Octets.extend.Goals as goal

pub push-requires : goal.push-requires
push-requires g c =
    let held = length-append c.loop-rest.self c.loop-rest.rest.now in
    let all = length-append c.args.self.now c.args.octets.now in
    (omega (arith, c.requires.most), omega (arith, held, all, ap length c.loop-rest.invariant, c.requires.room, c.in-len1-up.len_at_least))
