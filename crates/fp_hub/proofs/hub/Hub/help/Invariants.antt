use Rattle.std.proofs.Common.{◌≡◌, ◌≤◌}
use Rattle.fp_hub.proofs.hub.Hub.help.Given as goal

-- no amount of the seat changes but that of the served entries, which grows
abbrev pub invariant-loop : goal.invariant-loop
invariant-loop g l = (l.seat ≡ record l.initial.seat { served = l.seat.served }) × (l.initial.seat.served ≤ l.seat.served)
