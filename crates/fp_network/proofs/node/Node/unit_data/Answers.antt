use Rattle.std.proofs.Common.{◌++◌, ap, refl, sym, subst, append-nil, ◌∙◌}
use Rattle.std.proofs.lemmas.Result.{on_ok_weaker}
use Rattle.fp_adaptor.specs.declared.adaptor.Adaptor.{Adaptor}
use Rattle.fp_adaptor.specs.declared.adaptor.Outcome.TheVariants as outcomes
use Rattle.fp_adaptor.specs.Adaptor.{Led}
use Rattle.fp_network.specs.Node.{connection_in}
use Rattle.fp_network.specs.Receiving.{reader_of}
use Rattle.fp_network.proofs.Hearing.{reads_sent}
use Rattle.fp_network.proofs.Growing.{grown_by, on_ok}
use Rattle.fp_network.proofs.Waits.{sending_adds, stays_same, waits_change}
use Rattle.fp_network.proofs.Tallied.{counts_at, counts_none, courses_sent, progress_of}
use Rattle.fp_network.proofs.node.Node.unit_data.Goals as goal

pub returns-in-HandedOn-clause-handed_on : goal.returns-in-HandedOn-clause-handed_on
returns-in-HandedOn-clause-handed_on c =
    on_ok_weaker c.push_frames.result (λ grown setting history led.
    let r = c.in_ok-frames.ensures.received setting history led in
    (outcomes.HandedOn c.in-HandedOn.frames, r.0, (rw c.in-HandedOn.is at r.1), grown, r.2, refl)) c.push_frames.ensures

pub returns-in-HandedOn-clause-grows : goal.returns-in-HandedOn-clause-grows
returns-in-HandedOn-clause-grows c =
    on_ok_weaker c.push_frames.result (λ grown. grown_by _ _ c.in-HandedOn.frames grown) c.push_frames.ensures

pub returns-in-HandedOn-clause-rest : goal.returns-in-HandedOn-clause-rest
returns-in-HandedOn-clause-rest c = on_ok c.push_frames.result _ (stays_same _)

pub returns-in-Answered-clause-handed_on : goal.returns-in-Answered-clause-handed_on
returns-in-Answered-clause-handed_on c =
    on_ok_weaker c.send.result (λ here setting history led.
    let r = c.in_ok-frames.ensures.received setting history led in (
      outcomes.Answered c.in-Answered.answer,
      r.0,
      (rw c.in-Answered.is at r.1),
      (rw c.send.ensures.link.for_link (sym (append-nil _))),
      subst (λ (own : Adaptor). Led own setting (r.0 ++ history)) (sym c.send.ensures.adaptor) r.2,
      (rw c.as_slice.ensures.value at here),
    )) c.send.ensures.here

pub returns-in-Answered-clause-rest : goal.returns-in-Answered-clause-rest
returns-in-Answered-clause-rest c =
    on_ok_weaker c.send.result (λ here.
    waits_change _ (sending_adds _) c.args.place c.args.self.now c.send.new.self here c.send.ensures.others) c.send.ensures.here

pub returns-in-Nothing-clause-handed_on : goal.returns-in-Nothing-clause-handed_on
returns-in-Nothing-clause-handed_on c setting history led =
    let r = c.in_ok-frames.ensures.received setting history led in
    (outcomes.Nothing, r.0, (rw c.in-Nothing.is at r.1), sym (append-nil _), r.2, refl)

pub returns-in-Nothing-clause-rest : goal.returns-in-Nothing-clause-rest
returns-in-Nothing-clause-rest c = stays_same _

pub returns-in-HandedOn-clause-reads : goal.returns-in-HandedOn-clause-reads
returns-in-HandedOn-clause-reads c = on_ok c.push_frames.result _ refl

pub returns-in-Answered-clause-reads : goal.returns-in-Answered-clause-reads
returns-in-Answered-clause-reads c =
    on_ok_weaker c.send.result (λ here. ap reader_of here ∙ reads_sent _ (connection_in c.args.self.now c.args.place)) c.send.ensures.here

pub returns-in-HandedOn-clause-counted : goal.returns-in-HandedOn-clause-counted
returns-in-HandedOn-clause-counted c = on_ok c.push_frames.result _ (counts_none _ _ refl refl refl)

pub returns-in-Answered-clause-counted : goal.returns-in-Answered-clause-counted
returns-in-Answered-clause-counted c =
    let send = c.send.ensures in
    on_ok_weaker c.send.result (λ here.
    counts_at c.args.place c.args.self.now c.send.new.self (ap progress_of here ∙ courses_sent _ (connection_in c.args.self.now c.args.place))
    send.others send.tally send.news) send.here

pub returns-in-Nothing-clause-counted : goal.returns-in-Nothing-clause-counted
returns-in-Nothing-clause-counted c = counts_none _ _ refl refl refl
