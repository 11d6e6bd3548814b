use Rattle.fp_replay.proofs.Keeping.{kept_at, kept_by, kept_self}
use Rattle.fp_replay.proofs.posting.write_answered.Goals as goal

pub returns-clause-front : goal.returns-clause-front
returns-clause-front c =
    let old = c.args.text.now.items in
    let k1 = kept_by old _ _ _ (kept_self old) c.in_ok-push.ensures.items in
    let k2 = kept_by old _ _ _ k1 c.in_ok-write_octets.ensures.written in
    kept_at _ old _ _ k2 c.add_to.ensures.front
