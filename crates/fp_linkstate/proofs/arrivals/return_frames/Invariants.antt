use Rattle.std.proofs.Common.{◌≡◌, ◌+◌, ◌≤◌, ◌++◌}
use Rattle.std.specs.VecDeque.{deque_capacity, deque_len}
use Rattle.fp_linkstate.specs.Arrivals.{frames_of}
use Rattle.fp_linkstate.proofs.arrivals.return_frames.Given as goal

-- the frames of the messages that are left, and those that are there, are all
abbrev pub invariant-loop-last : goal.invariant-loop-last
invariant-loop-last l = record {
  order : frames_of l.messages.items ++ l.frames.items ≡ frames_of l.fn.messages.items ++ l.fn.frames.items;
  room : deque_len l.frames + deque_len l.messages ≤ deque_capacity l.frames;
}

abbrev pub decreases-loop-last : goal.decreases-loop-last
decreases-loop-last l = deque_len l.messages
