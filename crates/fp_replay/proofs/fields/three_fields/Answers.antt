use Rattle.std.proofs.Common.{◌∷◌, ◌++◌}
use Rattle.fp_replay.proofs.fields.three_fields.Goals as goal

pub returns-in_err-second-clause-only : goal.returns-in_err-second-clause-only
returns-in_err-second-clause-only c = λ a b d first second e.
    let parts = c.in_ok-first.ensures.only a (b ++ 32 ∷ d) first e in
    absurd (c.in_err-second.ensures.only b d second parts.1)

pub returns-clause-only : goal.returns-clause-only
returns-clause-only c = λ a b d first second e.
    let parts = c.in_ok-first.ensures.only a (b ++ 32 ∷ d) first e in
    let more = c.in_ok-second.ensures.only b d second parts.1 in
    (parts.0, more.0, more.1)
