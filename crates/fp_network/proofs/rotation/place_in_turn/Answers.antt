use Rattle.std.proofs.Common.{arith, sym}
use Rattle.fp_network.proofs.Turns.{before_end, past_end}
use Rattle.fp_network.proofs.rotation.place_in_turn.Goals as goal

pub returns-then-place-lt-PLACES-clause-value : goal.returns-then-place-lt-PLACES-clause-value
returns-then-place-lt-PLACES-clause-value c = sym (before_end _ c.if-place-lt-PLACES.true)

pub returns-clause-value : goal.returns-clause-value
returns-clause-value c =
    let past = c.if-place-lt-PLACES.false in
    sym (past_end _ (omega (arith, past)) (omega (arith, c.requires.place, c.requires.step)))
