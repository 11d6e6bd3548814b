use Rattle.std.proofs.Common.{◌+◌, [], ◌++◌, length, drop, inl, inr, refl, sym, ◌∙◌, ap, arith, length-append, length-drop}
use Rattle.std.proofs.lemmas.List.{length-take}
use Rattle.fp_linkio.proofs.Going.{goes_fed, goes_handed, goes_none, receives, receives_end}
use Rattle.fp_linkio.proofs.HandedOn.{none_left, some_left}
use Rattle.fp_linkio.proofs.receiving.receive.Goals as goal

pub returns-in_default-clause-receives : goal.returns-in_default-clause-receives
returns-in_default-clause-receives g c = receives _ c.args.turns 0 _ _ _ _ _ _ [] (goes_none _ _ _) (refl, omega arith)

pub loop-turn-init : goal.loop-turn-init
loop-turn-init g c =
    let len = c.in-Ok.ensures.len in
    let ok = c.resize.new.self.ok in
    record {
      goes = rw c.new-frames.ensures (goes_none _ _ _);
      incomplete = rw c.new-frames.ensures (inl (omega arith));
      fine = refl;
      room = omega (arith, len, ok);
    }

pub returns-then-is_empty-clause-receives : goal.returns-then-is_empty-clause-receives
returns-then-is_empty-clause-receives g c =
    let octets = rw c.if-count-eq0.true at c.in-Ok-read.ensures.octets in
    let piece = rw c.if-count-eq0.true at c.in-Ok-read.ensures.piece in
    let size = c.read.auto.octets in
    let value = ap length c.as_mut_slice.ensures.value in
    let room = c.loop-turn.invariant.room in
    let end = octets.1 refl (omega (arith, size, value, room)) in
    let within = c.loop-turn-test.true in
    let none = none_left c.loop-turn.frames (sym c.is_empty.ensures ∙ c.if-is_empty.true) in
    receives_end _ c.args.turns c.loop-turn._turn _ _ _ _ _ _ _ _ c.loop-turn.frames c.loop-turn.invariant.goes octets.0 piece
    (record { end = end; nothing = refl; within = within }, none)

pub returns-then-count-eq0-clause-receives : goal.returns-then-count-eq0-clause-receives
returns-then-count-eq0-clause-receives g c =
    let octets = rw c.if-count-eq0.true at c.in-Ok-read.ensures.octets in
    let piece = rw c.if-count-eq0.true at c.in-Ok-read.ensures.piece in
    let size = c.read.auto.octets in
    let value = ap length c.as_mut_slice.ensures.value in
    let room = c.loop-turn.invariant.room in
    let end = octets.1 refl (omega (arith, size, value, room)) in
    let within = c.loop-turn-test.true in
    let some = some_left c.loop-turn.frames (sym c.is_empty.ensures ∙ c.if-is_empty.false) in
    receives_end _ c.args.turns c.loop-turn._turn _ _ _ _ _ _ _ _ c.loop-turn.frames c.loop-turn.invariant.goes octets.0 piece
    (inr (record { end = end; nothing = refl; within = within }, c.loop-turn.invariant.incomplete, some))

pub returns-in_default-feed-clause-receives : goal.returns-in_default-feed-clause-receives
returns-in_default-feed-clause-receives g c =
    let size = c.read.auto.octets in
    let value = ap length c.as_mut_slice.ensures.value in
    let room = c.loop-turn.invariant.room in
    let len = c.as_mut_slice.ensures.len in
    let goes = goes_fed _ c.in-Ok-read.count c.loop-turn.room.len _ _ _ _ _ _ _ _ c.loop-turn.frames c.read.new.octets _ c.deref.result.now _
    c.loop-turn.invariant.goes c.in-Ok-read.ensures.octets.0 c.in-Ok-read.ensures.piece c.in-Ok-read.ensures.bound c.if-count-eq0.false
    (omega (arith, size, len)) (omega (arith, value, room, len)) c.deref.ensures.value refl in
    receives _ c.args.turns (c.loop-turn._turn + 1) _ _ _ _ _ _ _ goes (refl, omega arith)

pub returns-in-Err-BadFrameLength-clause-receives : goal.returns-in-Err-BadFrameLength-clause-receives
returns-in-Err-BadFrameLength-clause-receives g c =
    let size = c.read.auto.octets in
    let value = ap length c.as_mut_slice.ensures.value in
    let room = c.loop-turn.invariant.room in
    let len = c.as_mut_slice.ensures.len in
    let goes = goes_fed _ c.in-Ok-read.count c.loop-turn.room.len _ _ _ _ _ _ _ _ c.loop-turn.frames c.read.new.octets _ c.deref.result.now c.feed.new.self
    c.loop-turn.invariant.goes c.in-Ok-read.ensures.octets.0 c.in-Ok-read.ensures.piece c.in-Ok-read.ensures.bound c.if-count-eq0.false
    (omega (arith, size, len)) (omega (arith, value, room, len)) c.deref.ensures.value c.in-Ok-feed.ensures.ok in
    let handed = goes_handed c.hand_on.result _ _ _ _ _ _ _ _ _ _ goes c.hand_on.ensures in
    let why = rw c.in-Err-BadFrameLength.field-0-is at c.in-Err-BadFrameLength.ensures in
    receives _ c.args.turns (c.loop-turn._turn + 1) _ _ _ _ _ _ c.hand_on.new.frames handed (inl (why.end, refl, omega arith))

pub returns-in-Err-Memory-clause-receives : goal.returns-in-Err-Memory-clause-receives
returns-in-Err-Memory-clause-receives g c =
    let size = c.read.auto.octets in
    let value = ap length c.as_mut_slice.ensures.value in
    let room = c.loop-turn.invariant.room in
    let len = c.as_mut_slice.ensures.len in
    let goes = goes_fed _ c.in-Ok-read.count c.loop-turn.room.len _ _ _ _ _ _ _ _ c.loop-turn.frames c.read.new.octets _ c.deref.result.now c.feed.new.self
    c.loop-turn.invariant.goes c.in-Ok-read.ensures.octets.0 c.in-Ok-read.ensures.piece c.in-Ok-read.ensures.bound c.if-count-eq0.false
    (omega (arith, size, len)) (omega (arith, value, room, len)) c.deref.ensures.value c.in-Ok-feed.ensures.ok in
    let handed = goes_handed c.hand_on.result _ _ _ _ _ _ _ _ _ _ goes c.hand_on.ensures in
    receives _ c.args.turns (c.loop-turn._turn + 1) _ _ _ _ _ _ c.hand_on.new.frames handed (refl, omega arith)

pub loop-turn-preserved : goal.loop-turn-preserved
loop-turn-preserved g c =
    let size = c.read.auto.octets in
    let value = ap length c.as_mut_slice.ensures.value in
    let room = c.loop-turn.invariant.room in
    let len = c.as_mut_slice.ensures.len in
    let goes = goes_fed _ c.in-Ok-read.count c.loop-turn.room.len _ _ _ _ _ _ _ _ c.loop-turn.frames c.read.new.octets _ c.deref.result.now c.feed.new.self
    c.loop-turn.invariant.goes c.in-Ok-read.ensures.octets.0 c.in-Ok-read.ensures.piece c.in-Ok-read.ensures.bound c.if-count-eq0.false
    (omega (arith, size, len)) (omega (arith, value, room, len)) c.deref.ensures.value c.in-Ok-feed.ensures.ok in
    let handed = goes_handed c.hand_on.result _ _ _ _ _ _ _ _ _ _ goes c.hand_on.ensures in
    let behind = drop (length c.read.new.octets) c.loop-turn.room.items in
    let taken = length-take c.loop-turn.room.len (c.read.new.octets ++ behind) in
    let parts = length-append c.read.new.octets behind in
    let left = length-drop (length c.read.new.octets) c.loop-turn.room.items in
    record {
      goes = handed;
      incomplete = c.in-Ok-hand_on.ensures.end;
      fine = c.in-Ok-read.ensures.failure ∙ c.loop-turn.invariant.fine;
      room = omega (arith, taken, parts, left, size, value, room, len);
    }
