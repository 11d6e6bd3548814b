use Rattle.std.proofs.Common.{◌∷◌, ◌++◌, [], ◌∙◌, ap}
use Rattle.fp_ask.proofs.OneSent.{one_more, picked_and_sent}
use Rattle.fp_ask.proofs.engine.send_waiting.Goals as goal

pub loop-parcel-preserved : goal.loop-parcel-preserved
loop-parcel-preserved c =
    let s = c.loop-parcel.book in
    let mid = c.pick.new.self in
    let new = c.sent.new.self in
    let was = c.loop-parcel.invariant in
    let one = picked_and_sent s mid new c.in-Parcel.parcel.content was.served c.in-Parcel.ensures.hands.1 c.in_default-sent.ensures.ok c.in_default-sent.ensures.sound in
    record {
      served = one.served;
      keeps = record {
        lives = λ k. one.keeps.lives k ∙ was.keeps.lives k;
        counts = record {
          bases = one.keeps.counts.bases ∙ was.keeps.counts.bases;
          births = one.keeps.counts.births ∙ was.keeps.counts.births;
          entries = one.keeps.counts.entries ∙ was.keeps.counts.entries;
        };
        free = λ who concerned.
            let before = was.keeps.free who concerned in
            let now = one.keeps.free who before.0 in
            (now.0, now.1 ∙ before.1);
      };
      frames =
          one_more c.push_copy.new.frames.items c.loop-parcel.frames.items _ s new
          (c.in_default.ensures ∙ ap (λ o. c.loop-parcel.frames.items ++ o ∷ []) c.octets.ensures) one
          ∙ was.frames;
    }
