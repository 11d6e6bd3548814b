use Rattle.std.proofs.Common.{ap, refl, sym, ◌∙◌}
use Rattle.std.proofs.lemmas.Bool.{false≢true}
use Rattle.fp_network.specs.Changes.{counting_read}
use Rattle.fp_network.proofs.Ending.{closes_courses, closes_one}
use Rattle.fp_network.proofs.Keeping.{keeps_closed}
use Rattle.fp_network.proofs.Ticking.{read_out_lives, reading_ends, reading_goes_on}
use Rattle.fp_network.proofs.Tallied.{counts_at, counts_one, courses_at, courses_map, progress_of}
use Rattle.fp_network.proofs.node.Node.read_late.Goals as goal

pub returns-then-is_read_out-clause-here : goal.returns-then-is_read_out-clause-here
returns-then-is_read_out-clause-here c =
    c.close.ensures.here ∙ reading_ends _ _ _ (sym c.is_read_out.ensures ∙ c.if-is_read_out.true)

pub returns-then-is_read_out-clause-ended : goal.returns-then-is_read_out-clause-ended
returns-then-is_read_out-clause-ended c =
    let close = c.close.ensures in
    closes_one _ _ _ _ close.here close.others close.stays close.ended

pub returns-then-is_read_out-clause-counted : goal.returns-then-is_read_out-clause-counted
returns-then-is_read_out-clause-counted c =
    let close = c.close.ensures in
    counts_one _ _ _ _ close.here close.others close.uncounted close.counted close.silent close.reported close.connections

pub returns-clause-here : goal.returns-clause-here
returns-clause-here c = c.count_read.ensures.here ∙ reading_goes_on _ _ _ (sym c.is_read_out.ensures ∙ c.if-is_read_out.false)

pub returns-clause-ended : goal.returns-clause-ended
returns-clause-ended c =
    let count = c.count_read.ensures in
    closes_courses _ _ count.adaptor
    (courses_at c.args.place c.args.self.now c.count_read.new.self
    (ap progress_of count.here ∙ courses_map (counting_read c.args.at) (λ own. refl) _) count.others)

pub returns-clause-counted : goal.returns-clause-counted
returns-clause-counted c =
    let count = c.count_read.ensures in
    counts_at c.args.place c.args.self.now c.count_read.new.self
    (ap progress_of count.here ∙ courses_map (counting_read c.args.at) (λ own. refl) _) count.others count.tally count.news

pub returns-clause-tied : goal.returns-clause-tied
returns-clause-tied c = keeps_closed _ _ (returns-clause-ended c)

pub returns-then-is_read_out-clause-reported : goal.returns-then-is_read_out-clause-reported
returns-then-is_read_out-clause-reported c out = c.close.ensures.reported (read_out_lives _ _ _ out)

pub returns-then-is_read_out-clause-silent : goal.returns-then-is_read_out-clause-silent
returns-then-is_read_out-clause-silent c stays = absurd (false≢true (sym stays ∙ sym c.is_read_out.ensures ∙ c.if-is_read_out.true))

pub returns-clause-reported : goal.returns-clause-reported
returns-clause-reported c out = absurd (false≢true (sym c.if-is_read_out.false ∙ c.is_read_out.ensures ∙ out))
