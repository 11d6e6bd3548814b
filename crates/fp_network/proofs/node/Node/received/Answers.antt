use Rattle.std.proofs.Common.{[], ap, ◌∙◌}
use Rattle.fp_network.proofs.Cutting.{hears_cut}
use Rattle.fp_network.proofs.Growing.{grows_more, grows_none}
use Rattle.fp_network.proofs.Hearing.{HearingOn, heard_all, heard_more, hears_each, same_led}
use Rattle.fp_network.proofs.Leaves.{keeps_left, keeps_more}
use Rattle.fp_network.proofs.Waits.{stays_more, waits_same_at}
use Rattle.fp_network.proofs.Tallied.{counts_at, counts_on, courses_fed, progress_of}
use Rattle.fp_network.proofs.Keeping.{keeps_hearing}
use Rattle.fp_network.proofs.node.Node.received.Goals as goal

pub loop-message-init : goal.loop-message-init
loop-message-init c =
    let feed = c.in_ok-feed.ensures in
    record {
      so = λ setting history led. record {
        fed = c.feed.new.self;
        is_fed = feed.fed;
        only = record { others = feed.others; link = feed.link; adaptor = feed.adaptor; tally = feed.tally; news = feed.news };
        messages = [];
        later = history;
        led = same_led _ _ setting history feed.adaptor led;
        then = λ new rest each. each;
      };
      grows = rw feed.link.for_link (grows_none _);
      rest = waits_same_at c.args.place c.args.self.now c.feed.new.self feed.here feed.others;
      keeps = keeps_left c.args.self.now c.feed.new.self feed.link;
      counted = (
        [],
        tt,
        counts_at c.args.place c.args.self.now c.feed.new.self (ap progress_of feed.fed ∙ courses_fed _ _) feed.others feed.tally feed.news,
      );
    }

-- a message is dropped in two ways
pub loop-message-preserved : goal.loop-message-preserved
loop-message-preserved c =
    let inv = c.loop-message.invariant in
    let next = c.next_or_close.ensures in
    let is = rw c.in-Some.is at c.in_ok-message.ensures.next in
    let take = c.in_ok-take.ensures in
    record {
      so = λ setting history led.
          heard_more c.args.place c.args.octets.now setting history c.args.self.now c.loop-message.self c.next_or_close.new.self
          c.take.new.self c.in-Some.message (inv.so setting history led) is (λ before led. take.steps setting before led);
      grows = grows_more _ _ _ inv.grows (rw next.link.for_link at take.grows);
      rest = stays_more _ _ _ inv.rest (stays_more _ _ _ next.rest take.rest);
      keeps = keeps_more c.args.self.now c.loop-message.self c.take.new.self inv.keeps
          (keeps_more c.loop-message.self c.next_or_close.new.self c.take.new.self (keeps_left _ _ next.link) c.take.ensures.keeps);
      counted = counts_on c.args.self.now c.loop-message.self c.take.new.self inv.keeps.count inv.counted
          (counts_on c.loop-message.self c.next_or_close.new.self c.take.new.self next.link.count
          ([], tt, c.in_ok-message.ensures.counted) take.counted);
    }

pub loop-message-preserved-in_ok-take : goal.loop-message-preserved-in_ok-take
loop-message-preserved-in_ok-take c =
    let inv = c.loop-message.invariant in
    let next = c.next_or_close.ensures in
    let is = rw c.in-Some.is at c.in_ok-message.ensures.next in
    let take = c.in_ok-take.ensures in
    record {
      so = λ setting history led.
          heard_more c.args.place c.args.octets.now setting history c.args.self.now c.loop-message.self c.next_or_close.new.self
          c.take.new.self c.in-Some.message (inv.so setting history led) is (λ before led. take.steps setting before led);
      grows = grows_more _ _ _ inv.grows (rw next.link.for_link at take.grows);
      rest = stays_more _ _ _ inv.rest (stays_more _ _ _ next.rest take.rest);
      keeps = keeps_more c.args.self.now c.loop-message.self c.take.new.self inv.keeps
          (keeps_more c.loop-message.self c.next_or_close.new.self c.take.new.self (keeps_left _ _ next.link) c.take.ensures.keeps);
      counted = counts_on c.args.self.now c.loop-message.self c.take.new.self inv.keeps.count inv.counted
          (counts_on c.loop-message.self c.next_or_close.new.self c.take.new.self next.link.count
          ([], tt, c.in_ok-message.ensures.counted) take.counted);
    }

hears_on : (c : goal.In_default) → HearingOn c.args.place c.args.octets.now c.args.self.now c.next_or_close.new.self
hears_on c setting history led =
    heard_all c.args.place c.args.octets.now setting history c.args.self.now c.loop-message.self c.next_or_close.new.self
    (c.loop-message.invariant.so setting history led) (rw c.in_default.is at c.in_ok-message.ensures.next)

pub returns-in_default-clause-hears : goal.returns-in_default-clause-hears
returns-in_default-clause-hears c setting history led =
    let so = hears_on c setting history led in (
      so.0,
      so.1,
      so.2,
      so.3,
      hears_cut setting history c.args.place so.3 so.0 c.next_or_close.new.self so.4,
      hears_each setting history c.args.place so.3 so.0 c.next_or_close.new.self so.4,
    )

pub returns-in_default-clause-grows : goal.returns-in_default-clause-grows
returns-in_default-clause-grows c = rw c.next_or_close.ensures.link.for_link c.loop-message.invariant.grows

pub returns-in_default-clause-rest : goal.returns-in_default-clause-rest
returns-in_default-clause-rest c = stays_more _ _ _ c.loop-message.invariant.rest c.next_or_close.ensures.rest

pub returns-in_default-clause-keeps : goal.returns-in_default-clause-keeps
returns-in_default-clause-keeps c =
    keeps_more c.args.self.now c.loop-message.self c.next_or_close.new.self c.loop-message.invariant.keeps
    (keeps_left _ _ c.next_or_close.ensures.link)

pub returns-in_default-clause-counted : goal.returns-in_default-clause-counted
returns-in_default-clause-counted c =
    let inv = c.loop-message.invariant in
    counts_on c.args.self.now c.loop-message.self c.next_or_close.new.self inv.keeps.count inv.counted
    ([], tt, c.in_ok-message.ensures.counted)

pub returns-in_default-clause-tied : goal.returns-in_default-clause-tied
returns-in_default-clause-tied c =
    keeps_hearing c.args.place c.args.octets.now c.args.self.now c.next_or_close.new.self (hears_on c)
