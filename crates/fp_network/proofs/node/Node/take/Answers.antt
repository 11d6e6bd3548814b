use Rattle.std.proofs.Common.{◌∙◌}
use Rattle.fp_network.specs.Counting.{active_by}
use Rattle.fp_network.specs.Node.{connection_in}
use Rattle.fp_network.proofs.Hearing.{reads_arrived, same_led}
use Rattle.fp_network.proofs.Leaves.{keeps_left, keeps_more}
use Rattle.fp_network.proofs.Waits.{stays_more, waits_longer_at}
use Rattle.fp_network.proofs.Tallied.{are_active_by, counts_at, counts_more, courses_arrived}
use Rattle.fp_network.proofs.node.Node.take.Goals as goal

pub returns-clause-grows : goal.returns-clause-grows
returns-clause-grows c = rw c.in_ok-arrival.ensures.link.for_link at c.in_ok-arrive.ensures.grows

pub returns-clause-rest : goal.returns-clause-rest
returns-clause-rest c =
    let step = c.in_ok-arrival.ensures in
    stays_more _ _ _ (waits_longer_at c.args.place c.args.self.now c.step.new.self step.here step.others) c.in_ok-arrive.ensures.rest

pub returns-clause-steps : goal.returns-clause-steps
returns-clause-steps c setting history led =
    let step = c.in_ok-arrival.ensures in
    let comes = rw c.as_slice.ensures at c.in_ok-arrive.ensures.comes_to in
    let so = comes setting history (same_led _ _ setting history step.adaptor led) in
    record {
      between = c.step.new.self;
      arrival = c.in_ok-arrival.arrival;
      arrives = step.arrives;
      only = record { others = step.others; link = step.link; adaptor = step.adaptor; tally = step.tally; news = step.news };
      more = so.0;
      comes_to = so.1;
      counts = c.in_ok-arrive.ensures.counted;
      keeps = keeps_more _ _ _ (keeps_left _ _ step.link) c.in_ok-arrive.ensures.keeps;
      led = so.2;
    }

pub returns-clause-reads : goal.returns-clause-reads
returns-clause-reads c = c.in_ok-arrive.ensures.reads ∙ reads_arrived _ _ _ _ _ _ _ c.in_ok-arrival.ensures.arrives

pub returns-clause-counted : goal.returns-clause-counted
returns-clause-counted c =
    let step = c.in_ok-arrival.ensures in
    let own = connection_in c.step.new.self c.args.place in (
      active_by c.in_ok-arrival.arrival c.step.new.self.names.items own,
      are_active_by c.in_ok-arrival.arrival c.step.new.self.names.items own,
      counts_more c.args.self.now c.step.new.self c.arrive.new.self step.link.count
          (counts_at c.args.place c.args.self.now c.step.new.self (courses_arrived _ _ _ _ _ _ _ step.arrives) step.others step.tally step.news)
          c.in_ok-arrive.ensures.counted,
    )
