use Rattle.std.proofs.Common.{◌≡◌, ◌+◌, ◌-◌, ◌≤◌, ◌^◌, drop, min}
use Rattle.fp_logtext.specs.Waiting.{messages_len}
use Rattle.fp_logtext.proofs.waiting.plus_messages_len.Given as goal

-- the sum so far and the messages that are left are all
abbrev pub invariant-loop-line : goal.invariant-loop-line
invariant-loop-line l = record {
  most : l.sum ≤ 2 ^ 64 - 1;
  all : min (l.sum + messages_len (drop l.line-index l.lines)) (2 ^ 64 - 1)
      ≡ min (l.octets + messages_len l.lines) (2 ^ 64 - 1);
}
