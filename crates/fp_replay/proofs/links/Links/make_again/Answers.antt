use Rattle.std.proofs.Common.{refl, sym, ◌∙◌, arith}
use Rattle.fp_replay.proofs.Retelling.{disagreed, made_again, no_link, no_turn, place_has}
use Rattle.fp_replay.proofs.links.Links.make_again.Goals as goal

pub returns : goal.returns
returns c = λ lines kept is.
    made_again _ _ lines c.args.link c.from-index.result c.args.line.now c.in-Some.step c.in_ok-made.made _ c.args.self.now c.index_mut-run.result.now c.step.new.self
    kept c.from-index.ensures (omega (arith, c.if-index-len.false, c.len.ensures)) c.handed_in-tables.ensures (c.if-not-has_table.ensures.0 refl) c.index_mut-run.ensures.value c.in_ok-made.ensures.link c.in_ok-made.ensures.tag
    (λ h after. sym c.in-Some.is ∙ c.in_ok-step.ensures _ _ h after) c.in_ok-made.ensures.follows _ refl refl is (c.if-not-is_told.ensures.0 refl)

pub returns-then-not-is_told : goal.returns-then-not-is_told
returns-then-not-is_told c = λ lines kept is.
    disagreed _ _ lines c.args.link c.from-index.result c.args.line.now c.in-Some.step c.in_ok-made.made _ c.args.self.now c.index_mut-run.result.now c.step.new.self
    kept c.from-index.ensures (omega (arith, c.if-index-len.false, c.len.ensures)) c.handed_in-tables.ensures (c.if-not-has_table.ensures.0 refl) c.index_mut-run.ensures.value c.in_ok-made.ensures.link c.in_ok-made.ensures.tag
    (λ h after. sym c.in-Some.is ∙ c.in_ok-step.ensures _ _ h after) c.in_ok-made.ensures.follows (λ e. let h = c.if-not-is_told.ensures.1 e in (cc)) (sym c.if-is_gap.ensures)

pub returns-in_default : goal.returns-in_default
returns-in_default c = λ lines kept is.
    no_turn _ _ lines c.args.link c.from-index.result c.args.line.now _ c.args.self.now c.index_mut-run.result.now
    kept c.from-index.ensures (omega (arith, c.if-index-len.false, c.len.ensures)) c.handed_in-tables.ensures (c.if-not-has_table.ensures.0 refl) c.index_mut-run.ensures.value
    (λ h after. sym c.in_default.is ∙ c.in_ok-step.ensures _ _ h after) (sym c.if-is_gap.ensures)

pub returns-then-index-len : goal.returns-then-index-len
returns-then-index-len c = λ lines kept is.
    no_link _ _ lines c.args.link c.from-index.result c.args.line.now c.args.self.now kept c.from-index.ensures (omega (arith, c.if-index-len.true, c.len.ensures))

pub returns-then-not-has_table : goal.returns-then-not-has_table
returns-then-not-has_table c = λ lines kept is place.
    let h = c.if-not-has_table.ensures.1 (place_has c.args.tables.now _ _ lines c.args.link c.args.line.now c.args.self.now kept c.handed_in-tables.ensures place) in absurd (cc)
