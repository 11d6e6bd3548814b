use Rattle.fp_book.proofs.Names.{len, ◌+◌, ◌-◌}
use Rattle.std.specs.Prelude.{◌*◌}
use Rattle.fp_book.proofs.Ticks.{Trying}
use Rattle.fp_book.proofs.ticking.clock_each.Given as goal

-- this number was given a Clock so far
abbrev pub invariant-loop-refusals : goal.invariant-loop-refusals
invariant-loop-refusals l = Trying l.last l.moment l.initial.rows l.initial.ready l.rows l.deadlines l.ready l.added

-- a Clock takes a deadline away, and a refusal counts one of eight
abbrev pub decreases-loop-refusals : goal.decreases-loop-refusals
decreases-loop-refusals l = 9 * len l.deadlines + (8 - l.refusals)
