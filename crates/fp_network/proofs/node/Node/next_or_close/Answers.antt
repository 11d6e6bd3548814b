use Rattle.fp_network.specs.declared.event.Closing.TheVariants.{TooLong}
use Rattle.fp_network.specs.declared.tally.Tally.{Tally}
use Rattle.std.proofs.Common.{Bool, ◌++◌, inr, refl, subst, ap, ◌∙◌}
use Rattle.std.specs.Option.{option_map}
use Rattle.fp_adaptor.specs.Adaptor.{Led}
use Rattle.fp_network.specs.Changes.{closing}
use Rattle.fp_network.specs.Node.{ended_unless, is_over_at, is_over_of}
use Rattle.fp_network.proofs.Hearing.{closed_event, next_or_end, same_led}
use Rattle.fp_network.proofs.Leaves.{leaves_more}
use Rattle.fp_network.proofs.Waits.{stays_more, waits_closed, waits_same_at}
use Rattle.fp_network.proofs.Tallied.{counts_at, counts_more, counts_one, courses_next, progress_of}
use Rattle.fp_network.proofs.node.Node.next_or_close.Goals as goal

pub returns-in-Ok-clause-rest : goal.returns-in-Ok-clause-rest
returns-in-Ok-clause-rest c =
    waits_same_at c.args.place c.args.self.now c.next_message.new.self c.next_message.ensures.here c.next_message.ensures.others

pub returns-in-Err-TooLong-clause-rest : goal.returns-in-Err-TooLong-clause-rest
returns-in-Err-TooLong-clause-rest c =
    stays_more _ _ _
    (waits_same_at c.args.place c.args.self.now c.next_message.new.self c.next_message.ensures.here c.next_message.ensures.others)
    (waits_closed TooLong c.args.place c.next_message.new.self c.close.new.self c.close.ensures.here c.close.ensures.others)

pub returns-in-Err-Memory-clause-rest : goal.returns-in-Err-Memory-clause-rest
returns-in-Err-Memory-clause-rest c =
    waits_same_at c.args.place c.args.self.now c.next_message.new.self c.next_message.ensures.here c.next_message.ensures.others

pub returns-in-Ok-clause-next : goal.returns-in-Ok-clause-next
returns-in-Ok-clause-next c =
    let next = c.next_message.ensures in
    next_or_end c.args.place c.args.self.now c.next_message.new.self c.in-Ok.message c.in-Ok.ensures.next
    (record { others = next.others; link = next.link; adaptor = next.adaptor; tally = next.tally; news = next.news })

pub returns-in-Ok-clause-counted : goal.returns-in-Ok-clause-counted
returns-in-Ok-clause-counted c =
    let next = c.next_message.ensures in
    counts_at c.args.place c.args.self.now c.next_message.new.self (courses_next _ _ c.in-Ok.message c.in-Ok.ensures.next) next.others next.tally next.news

pub returns-in-Err-TooLong-clause-counted : goal.returns-in-Err-TooLong-clause-counted
returns-in-Err-TooLong-clause-counted c =
    let next = c.next_message.ensures in
    let close = c.close.ensures in
    counts_more c.args.self.now c.next_message.new.self c.close.new.self next.link.count
    (counts_at c.args.place c.args.self.now c.next_message.new.self (ap progress_of c.in-Err-TooLong.ensures.kept) next.others next.tally next.news)
    (counts_one TooLong c.args.place c.next_message.new.self c.close.new.self close.here close.others close.uncounted close.counted close.silent
    close.reported close.connections)

pub returns-in-Err-TooLong-clause-next : goal.returns-in-Err-TooLong-clause-next
returns-in-Err-TooLong-clause-next c setting history led =
    let next = c.next_message.ensures in
    let kept = c.in-Err-TooLong.ensures.kept in
    let close = c.close.ensures in (
      ended_unless (is_over_at c.args.self.now c.args.place) c.args.place,
      inr (
        (rw c.in-Err-TooLong.field-0-is at c.in-Err-TooLong.ensures.fault),
        refl,
        leaves_more _ _ _ next.link close.link,
        (close.here ∙ ap (option_map (closing TooLong)) kept, λ other apart. close.others other apart ∙ next.others other apart),
        close.skipped ∙ ap (λ (t : Tally). t.skipped) next.tally,
        returns-in-Err-TooLong-clause-counted c,
      ),
      subst (λ (over : Bool). Led c.close.new.self.adaptor setting (ended_unless over c.args.place ++ history)) (ap is_over_of kept)
          (closed_event c.args.place c.next_message.new.self c.close.new.self setting history close.stays close.ended
          (same_led _ _ setting history next.adaptor led)),
    )
