use Rattle.std.proofs.Common.{take, refl, ◌∙◌, arith}
use Rattle.fp_streams.proofs.Reading.{all_taken, last_refused, no_room, read_more, reading_fed, reading_none, stopped}
use Rattle.fp_streams.proofs.following.follow_lines.Goals as goal
use Rattle.fp_streams.proofs.following.follow_lines.Goals.{in-Ok-end, in-Err}

pub loop-read-init : goal.loop-read-init
loop-read-init g c = record {
  reading = rw c.in-Ok.ensures.items (reading_none _ _ _ _ _);
  most = refl;
  fine = refl;
  few = omega arith;
}

pub returns-in_default-clause-follows : goal.returns-in_default-clause-follows
returns-in_default-clause-follows g c = no_room _ _ _ _ _ _ _

pub returns-then-count-eq0-clause-follows : goal.returns-then-count-eq0-clause-follows
returns-then-count-eq0-clause-follows g c =
    let octets = rw c.if-count-eq0.true at c.in-Ok-read.ensures.octets in
    let piece = rw c.if-count-eq0.true at c.in-Ok-read.ensures.piece in
    let end = octets.1 refl (omega arith) in
    let reading = c.loop-read.invariant.reading in
    let within = c.loop-read-test.true in
    elim c.match-end.branch [
      | in-Ok-end w ↦ rw w.result-is (all_taken _ _ _ _ _ _ _ _ _ _ _ _ _ _ _ _ _ reading octets.0 piece end within w.in-Ok-end.ensures)
      | in-Err w ↦ rw w.result-is (last_refused _ _ _ _ _ _ _ _ _ _ _ _ _ _ _ _ _ reading octets.0 piece end within w.in-Err.ensures)
    ]

pub returns-in-Err-feed-clause-follows : goal.returns-in-Err-feed-clause-follows
returns-in-Err-feed-clause-follows g c =
    let bound = c.in-Ok-read.ensures.bound in
    let some = c.if-count-eq0.false in
    let size = c.read.auto.octets in
    let within = c.loop-read-test.true in
    let read = read_more _ _ _ _ _ _ _ _ _ _ _ _ _ (take c.in-Ok-read.count c.read.new.octets) c.loop-read.invariant.reading c.in-Ok-read.ensures.octets.0
    c.in-Ok-read.ensures.piece (omega (arith, bound.0, bound.1, some), omega (arith, bound.0, bound.1, size)) in
    stopped _ _ _ _ _ _ _ _ _ _ _ _ _ _ _ c.in-Err-feed.stop _ read (rw c.loop-read.invariant.most at c.in-Err-feed.ensures.fed) (omega (arith, within)) c.at.ensures

pub loop-read-preserved : goal.loop-read-preserved
loop-read-preserved g c =
    let bound = c.in-Ok-read.ensures.bound in
    let some = c.if-count-eq0.false in
    let size = c.read.auto.octets in
    let few = c.loop-read.invariant.few in
    let grown = c.feed.ensures.grown in
    let read = read_more _ _ _ _ _ _ _ _ _ _ _ _ _ (take c.in-Ok-read.count c.read.new.octets) c.loop-read.invariant.reading c.in-Ok-read.ensures.octets.0
    c.in-Ok-read.ensures.piece (omega (arith, bound.0, bound.1, some), omega (arith, bound.0, bound.1, size)) in
    record {
      reading = reading_fed _ _ _ _ _ _ _ _ _ _ _ _ _ _ read (rw c.loop-read.invariant.most at c.in_default-feed.ensures.fed);
      most = c.feed.ensures.most ∙ c.loop-read.invariant.most;
      fine = c.in-Ok-read.ensures.failure ∙ c.loop-read.invariant.fine;
      few = omega (arith, few, grown, bound.0, bound.1, size);
    }
