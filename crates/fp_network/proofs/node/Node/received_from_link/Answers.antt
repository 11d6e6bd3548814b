use Rattle.std.proofs.Common.{[], inl, inr, refl}
use Rattle.std.proofs.lemmas.Result.{err_from_is_err_and}
use Rattle.fp_network.proofs.Following.{followed_more, forwards_as, frames_none}
use Rattle.fp_network.proofs.Waits.{stays_more, stays_same, waits_same}
use Rattle.fp_network.proofs.Tallied.{counts_more, counts_none}
use Rattle.fp_network.proofs.Keeping.{keeps_forwards}
use Rattle.fp_network.proofs.node.Node.received_from_link.Goals as goal

pub loop-frame-init : goal.loop-frame-init
loop-frame-init c = record {
  forwards = ([], frames_none _ _ c.in_ok-feed.ensures.ok, λ setting history led. (refl, refl, refl, led));
  rest = stays_same _;
  link = refl;
  names = refl;
  draining = refl;
  count = refl;
  counted = counts_none _ _ refl refl refl;
  skipped = refl;
}

-- a frame is dropped in two ways
pub loop-frame-preserved : goal.loop-frame-preserved
loop-frame-preserved c =
    let next = c.next_frame.ensures in
    let forward = c.in_ok-forward.ensures in
    followed_more c.args.self.now c.loop-frame.self c.next_frame.new.self c.forward.new.self c.args.octets.now c.in-Some.frame
    c.loop-frame.invariant (rw c.in-Some.is at c.in_ok-frame.ensures.next) next.places next.adaptor next.link next.names next.draining
    next.tally next.news forward.link forward.rest forward.counted forward.skipped forward.forwards

pub loop-frame-preserved-in_ok-forward : goal.loop-frame-preserved-in_ok-forward
loop-frame-preserved-in_ok-forward c =
    let next = c.next_frame.ensures in
    let forward = c.in_ok-forward.ensures in
    followed_more c.args.self.now c.loop-frame.self c.next_frame.new.self c.forward.new.self c.args.octets.now c.in-Some.frame
    c.loop-frame.invariant (rw c.in-Some.is at c.in_ok-frame.ensures.next) next.places next.adaptor next.link next.names next.draining
    next.tally next.news forward.link forward.rest forward.counted forward.skipped forward.forwards

pub returns-in_default-clause-forwards : goal.returns-in_default-clause-forwards
returns-in_default-clause-forwards c =
    let so = c.loop-frame.invariant.forwards in
    let next = c.next_frame.ensures in
    let end = rw c.in_default.is at c.in_ok-frame.ensures.next in (
      so.0,
      (rw end.1 so.1),
      (rw end.1 end.0),
      λ setting history led.
          forwards_as setting history so.0 _ c.loop-frame.self _ (so.2 setting history led) next.places next.names next.draining
          next.adaptor,
    )

pub returns-in_err-feed-clause-fault : goal.returns-in_err-feed-clause-fault
returns-in_err-feed-clause-fault c =
    let p = err_from_is_err_and c.from_residual.result c.from_residual.ensures.1 in
    rw (p.1, p.2) ([], _, frames_none _ _ refl, tt)

pub returns-in_err-frame-clause-fault : goal.returns-in_err-frame-clause-fault
returns-in_err-frame-clause-fault c =
    let so = c.loop-frame.invariant.forwards in
    let p = err_from_is_err_and c.from_residual-in_err-frame.result c.from_residual-in_err-frame.ensures.1 in
    rw (p.1, p.2) (so.0, c.loop-frame.self.from_link, so.1, c.in_err-frame.ensures.fault)

pub returns-in_err-forward-clause-fault : goal.returns-in_err-forward-clause-fault
returns-in_err-forward-clause-fault c =
    let p = err_from_is_err_and c.from_residual-in_err-forward.result c.from_residual-in_err-forward.ensures.1 in
    rw (p.1, p.2) ([], _, frames_none _ _ refl, tt)

-- the octets are the frames of one list of messages, and have one rest
pub returns-in_default-clause-good : goal.returns-in_default-clause-good
returns-in_default-clause-good c bad =
    let laws = c.streams_have_one_list_of_frames.ensures in
    let so = returns-in_default-clause-forwards c in
    let same = laws.one _ so.0 bad.0 c.next_frame.new.self.from_link bad.1 (record { frames = so.1; end = inl so.2 })
    (record { frames = bad.2; end = inr bad.3 }) in
    (laws.no_frame bad.1 [] [] bad.3).0 (rw same.1 at so.2)

pub returns-in_default-clause-rest : goal.returns-in_default-clause-rest
returns-in_default-clause-rest c =
    stays_more _ _ _ c.loop-frame.invariant.rest
    (waits_same c.loop-frame.self c.next_frame.new.self (λ place. rw c.next_frame.ensures.places))

pub returns-in_default-clause-counted : goal.returns-in_default-clause-counted
returns-in_default-clause-counted c =
    let inv = c.loop-frame.invariant in
    let next = c.next_frame.ensures in
    counts_more c.args.self.now c.loop-frame.self c.next_frame.new.self inv.count inv.counted (counts_none _ _ next.places next.tally next.news)

pub returns-in_default-clause-tied : goal.returns-in_default-clause-tied
returns-in_default-clause-tied c =
    keeps_forwards c.args.octets.now c.args.self.now c.next_frame.new.self (returns-in_default-clause-forwards c)
