use Rattle.std.proofs.Common.{◌∷◌, ◌++◌}
use Rattle.fp_replay.proofs.fields.four_fields.Goals as goal

pub returns-in_err-third-clause-only : goal.returns-in_err-third-clause-only
returns-in_err-third-clause-only c = λ a b d e first second third is.
    let parts = c.in_ok-first.ensures.only a b (d ++ 32 ∷ e) first second is in
    absurd (c.in_err-third.ensures.only d e third parts.2)

pub returns-clause-only : goal.returns-clause-only
returns-clause-only c = λ a b d e first second third is.
    let parts = c.in_ok-first.ensures.only a b (d ++ 32 ∷ e) first second is in
    let more = c.in_ok-third.ensures.only d e third parts.2 in
    (parts.0, parts.1, more.0, more.1)
