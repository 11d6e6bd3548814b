use Rattle.std.proofs.Common.{◌≡◌, ◌≤◌, ◌*◌}
use Rattle.fp_streams.proofs.Reading.{Reading}
use Rattle.fp_streams.proofs.following.follow_lines.Given as goal

abbrev pub invariant-loop-read : goal.invariant-loop-read
invariant-loop-read g l = record {
  reading : Reading g.T.TakesLine.takes l.most_octets l._read
      (g.R.LinkRead.remaining l.fn.reader) (g.R.LinkRead.remaining l.reader)
      (g.R.LinkRead.pieces l.fn.reader) (g.R.LinkRead.pieces l.reader)
      l.fn.taker l.taker l.following.taken l.following.begun.items;
  most : l.following.most_octets ≡ l.most_octets;
  fine : g.R.LinkRead.failures l.reader ≡ g.R.LinkRead.failures l.fn.reader;
  few : l.following.taken ≤ 4096 * l._read;
}
