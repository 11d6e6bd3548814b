use Rattle.fp_book.proofs.Names.{Rule, Some, ap, cond, sym, ◌∙◌}
use Rattle.fp_q773.specs.declared.provider_abort.AbortCause.TheVariants as cause
use Rattle.fp_book.proofs.rules.Facts.of_more.Goals as goal

pub returns-then-lacks_room : goal.returns-then-lacks_room
returns-then-lacks_room c arrival =
    c.refused.ensures
    ∙ ap (λ b. cond b (Rule.Refuse (Some cause.ResourceLimitation)) (Rule.Extend c.args.ends)) (sym c.if-lacks_room.true ∙ c.lacks_room.ensures arrival)

pub returns : goal.returns
returns c arrival = ap (λ b. cond b (Rule.Refuse (Some cause.ResourceLimitation)) (Rule.Extend c.args.ends)) (sym c.if-lacks_room.false ∙ c.lacks_room.ensures arrival)
