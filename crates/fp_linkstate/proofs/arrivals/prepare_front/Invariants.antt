use Rattle.std.proofs.Common.{◌≡◌, ◌+◌, ◌≤◌, ◌++◌, max}
use Rattle.std.specs.VecDeque.{deque_capacity, deque_len}
use Rattle.fp_linkstate.specs.Arrivals.{Adds, IsReadBy, frames_of}
use Rattle.fp_linkstate.proofs.arrivals.prepare_front.Given as goal

-- the frames of the messages, and those that are left, are all; messages that came are read
abbrev pub invariant-loop-count : goal.invariant-loop-count
invariant-loop-count l = record {
  order : frames_of l.messages.items ++ l.frames.items ≡ frames_of l.fn.messages.items ++ l.fn.frames.items;
  read : Adds (IsReadBy l.fn.reading) l.fn.messages.items l.messages.items;
  same : l.reading ≡ l.fn.reading;
  count : deque_len l.messages ≡ l._count;
  few : deque_len l.messages ≤ max l.portion (deque_len l.fn.messages);
  room : deque_len l.fn.messages + l.portion ≤ deque_capacity l.messages;
}
