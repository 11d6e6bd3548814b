use Rattle.std.proofs.Common.{◌∷◌, ◌++◌, ◌∙◌, ap, refl, sym, subst}
use Rattle.fp_adaptor.specs.declared.adaptor.Adaptor.{Adaptor}
use Rattle.fp_adaptor.specs.declared.adaptor.Sending.TheVariants as sendings
use Rattle.fp_adaptor.specs.Adaptor.{Led, what_became}
use Rattle.fp_adaptor.specs.History.{said}
use Rattle.fp_network.specs.Node.{connection_in}
use Rattle.fp_network.proofs.Tied.{tied_closes}
use Rattle.fp_network.proofs.Waits.{sending_adds, stays_more, waits_change}
use Rattle.fp_network.proofs.Tallied.{counts_at, counts_more, counts_none, courses_sent, progress_of}
use Rattle.fp_network.proofs.node.Node.forward.Goals as goal

pub returns-in_ok-send-in-By-clause-forwards : goal.returns-in_ok-send-in-By-clause-forwards
returns-in_ok-send-in-By-clause-forwards c setting history led =
    let way = c.make_way_for.ensures.ended.0 in
    let sent = c.in_ok-unit_data.ensures.sent setting (way.0 ++ history) (way.2 setting history led) in
    let send = c.in_ok-send-in-By.ensures in
    record {
      closed = way.0;
      between = c.make_way_for.new.self;
      closes = way.1;
      way = way.3 setting history led;
      too_long = c.make_way_for.ensures.ended.1;
      refused = c.make_way_for.ensures.refused;
      rest = c.make_way_for.ensures.rest;
      sent = sendings.By c.in-By.unit_data;
      sends = (rw c.in-By.is at sent.0);
      takes = λ units tied.
          let first = (rw c.in-By.is at sent.0) in (
            tied_closes c.args.self.now c.make_way_for.new.self history way.0 way.1 tied first.1.0 c.in-By.unit_data.connection first.1.1,
            c.make_way_for.ensures.way setting history (way.0 ++ history) first.0 led units tied (way.2 setting history led)
                c.in-By.unit_data.connection first.1,
          );
      puts = ((rw c.as_slice.ensures.value at send.here), send.others);
      read = sent.1.0;
      is_read = sent.1.1;
      led = subst (λ (own : Adaptor). Led own setting (said sent.1.0 (what_became (sendings.By c.in-By.unit_data)) ∷ (way.0 ++ history)))
          (sym send.adaptor) (rw c.in-By.is at sent.1.2);
      names = send.link.names ∙ c.make_way_for.ensures.link.names;
      draining = send.link.draining ∙ c.make_way_for.ensures.link.draining;
    }

pub returns-in_ok-send-in-By-clause-rest : goal.returns-in_ok-send-in-By-clause-rest
returns-in_ok-send-in-By-clause-rest c =
    let send = c.in_ok-send-in-By.ensures in
    stays_more _ _ _ c.make_way_for.ensures.rest
    (waits_change _ (sending_adds _) _ c.make_way_for.new.self c.send-in-By.new.self send.here send.others)

pub returns-in-NoConnection-clause-forwards : goal.returns-in-NoConnection-clause-forwards
returns-in-NoConnection-clause-forwards c setting history led =
    let way = c.make_way_for.ensures.ended.0 in
    let sent = c.in_ok-unit_data.ensures.sent setting (way.0 ++ history) (way.2 setting history led) in
    record {
      closed = way.0;
      between = c.make_way_for.new.self;
      closes = way.1;
      way = way.3 setting history led;
      too_long = c.make_way_for.ensures.ended.1;
      refused = c.make_way_for.ensures.refused;
      rest = c.make_way_for.ensures.rest;
      sent = sendings.NoConnection;
      sends = (rw c.in-NoConnection.is at sent.0);
      takes = λ units tied. tt;
      puts = λ place. refl;
      read = sent.1.0;
      is_read = sent.1.1;
      led = (rw c.in-NoConnection.is at sent.1.2);
      names = c.make_way_for.ensures.link.names;
      draining = c.make_way_for.ensures.link.draining;
    }

pub returns-in-TooLong-clause-forwards : goal.returns-in-TooLong-clause-forwards
returns-in-TooLong-clause-forwards c setting history led =
    let way = c.make_way_for.ensures.ended.0 in
    let sent = c.in_ok-unit_data.ensures.sent setting (way.0 ++ history) (way.2 setting history led) in
    record {
      closed = way.0;
      between = c.make_way_for.new.self;
      closes = way.1;
      way = way.3 setting history led;
      too_long = c.make_way_for.ensures.ended.1;
      refused = c.make_way_for.ensures.refused;
      rest = c.make_way_for.ensures.rest;
      sent = sendings.TooLong;
      sends = (rw c.in-TooLong.is at sent.0);
      takes = λ units tied. tt;
      puts = λ place. refl;
      read = sent.1.0;
      is_read = sent.1.1;
      led = (rw c.in-TooLong.is at sent.1.2);
      names = c.make_way_for.ensures.link.names;
      draining = c.make_way_for.ensures.link.draining;
    }

pub returns-in_ok-send-in-By-clause-counted : goal.returns-in_ok-send-in-By-clause-counted
returns-in_ok-send-in-By-clause-counted c =
    let send = c.in_ok-send-in-By.ensures in
    let place = c.in-By.unit_data.connection in
    counts_more c.args.self.now c.make_way_for.new.self c.send-in-By.new.self c.make_way_for.ensures.link.count c.make_way_for.ensures.counted
    (counts_at place c.make_way_for.new.self c.send-in-By.new.self
    (ap progress_of send.here ∙ courses_sent _ (connection_in c.make_way_for.new.self place)) send.others send.tally send.news)

pub returns-in-NoConnection-clause-counted : goal.returns-in-NoConnection-clause-counted
returns-in-NoConnection-clause-counted c =
    counts_more c.args.self.now c.make_way_for.new.self _ c.make_way_for.ensures.link.count c.make_way_for.ensures.counted
    (counts_none c.make_way_for.new.self _ refl refl refl)

pub returns-in-TooLong-clause-counted : goal.returns-in-TooLong-clause-counted
returns-in-TooLong-clause-counted c =
    counts_more c.args.self.now c.make_way_for.new.self _ c.make_way_for.ensures.link.count c.make_way_for.ensures.counted
    (counts_none c.make_way_for.new.self _ refl refl refl)
