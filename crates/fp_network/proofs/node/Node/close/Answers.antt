use Rattle.std.proofs.Common.{◌∷◌, ap, sym, subst, ◌∙◌}
use Rattle.std.proofs.lemmas.Bool.{false≢true}
use Rattle.fp_adaptor.specs.declared.adaptor.Adaptor.{Adaptor}
use Rattle.fp_adaptor.specs.Adaptor.{Led}
use Rattle.fp_adaptor.specs.History.{ended}
use Rattle.fp_network.specs.declared.tally.Tally.{Tally}
use Rattle.fp_network.specs.Tally.{closed_once_more, closings_of}
use Rattle.fp_network.specs.Node.{connection_at}
use Rattle.fp_network.proofs.Ending.{closes_one}
use Rattle.fp_network.proofs.Keeping.{keeps_away, keeps_closed}
use Rattle.fp_network.proofs.News.{notes_from}
use Rattle.fp_network.proofs.node.Node.close.Goals as goal

pub returns-in_default-clause-ended : goal.returns-in_default-clause-ended
returns-in_default-clause-ended c lives = absurd (false≢true (sym lives ∙ c.in_default.ensures.number))

pub returns-clause-ended : goal.returns-clause-ended
returns-clause-ended c lives setting history led =
    subst (λ (own : Adaptor). Led own setting (ended c.args.place ∷ history)) (sym c.count_closing.ensures.adaptor)
    (c.ended.ensures.ended setting history
    (subst (λ (own : Adaptor). Led own setting history) (sym c.finish.ensures.adaptor) led))

pub returns-in_default-clause-counted : goal.returns-in_default-clause-counted
returns-in_default-clause-counted c lives = absurd (false≢true (sym lives ∙ c.in_default.ensures.number))

pub returns-clause-counted : goal.returns-clause-counted
returns-clause-counted c lives other =
    c.count_closing.ensures.counted other
    ∙ ap (λ (tally : Tally). closed_once_more c.args.why other (closings_of tally other)) c.finish.ensures.tally

pub returns-in_default-clause-reported : goal.returns-in_default-clause-reported
returns-in_default-clause-reported c lives = absurd (false≢true (sym lives ∙ c.in_default.ensures.number))

pub returns-clause-reported : goal.returns-clause-reported
returns-clause-reported c lives =
    (c.in-Some.number, c.in-Some.ensures.is, notes_from _ c.args.self.now _ _ c.finish.ensures.news c.count_closing.ensures.news)

pub returns-clause-silent : goal.returns-clause-silent
returns-clause-silent c over = absurd (false≢true (sym c.in-Some.ensures.number ∙ over))

pub returns-clause-uncounted : goal.returns-clause-uncounted
returns-clause-uncounted c over = absurd (false≢true (sym c.in-Some.ensures.number ∙ over))

pub returns-clause-stays : goal.returns-clause-stays
returns-clause-stays c over = absurd (false≢true (sym c.in-Some.ensures.number ∙ over))

pub returns-in_default-clause-tied : goal.returns-in_default-clause-tied
returns-in_default-clause-tied c =
    keeps_away c.args.place c.args.self.now c.finish.new.self c.finish.ensures.adaptor c.in_default.ensures.number c.finish.ensures.others

pub returns-clause-tied : goal.returns-clause-tied
returns-clause-tied c =
    let same = c.count_closing.ensures.places in
    let finish = c.finish.ensures in
    keeps_closed c.args.self.now c.count_closing.new.self
    (closes_one c.args.why c.args.place c.args.self.now c.count_closing.new.self
    (ap (λ places. connection_at places.items c.args.place) same ∙ finish.here)
    (λ other apart. ap (λ places. connection_at places.items other) same ∙ finish.others other apart)
    (returns-clause-stays c) (returns-clause-ended c))
