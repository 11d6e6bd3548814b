use Rattle.std.proofs.Common.{◌≡◌, length}
use Rattle.fp_frames.specs.Stream.{IsIncomplete}
use Rattle.fp_linkio.proofs.Going.{Goes}
use Rattle.fp_linkio.proofs.receiving.receive.Given as goal

abbrev pub invariant-loop-turn : goal.invariant-loop-turn
invariant-loop-turn g l = record {
  goes : Goes l._turn
      (g.R.LinkRead.remaining l.fn.reader) (g.R.LinkRead.remaining l.reader)
      (g.R.LinkRead.pieces l.fn.reader) (g.R.LinkRead.pieces l.reader)
      (g.I.Inbox.messages l.fn.inbox) (g.I.Inbox.messages l.inbox) l.frames;
  incomplete : IsIncomplete l.frames;
  fine : g.R.LinkRead.failures l.reader ≡ g.R.LinkRead.failures l.fn.reader;
  room : length l.room.items ≡ 65536;
}
