use Rattle.std.proofs.Common.{◌≡◌, take}
use Rattle.std.specs.Io.KnownBytes.{Appends}
use Rattle.fp_ask.specs.Line.{text_of}
use Rattle.fp_ask.proofs.output.write_frames.Given as goal

abbrev pub invariant-loop-frame : goal.invariant-loop-frame
invariant-loop-frame g l = record {
  wrote : Appends (g.W.LinkWrite.contents l.fn.writer) (g.W.LinkWrite.contents l.writer) (text_of (take l.frame-index l.frames));
  fine : g.W.LinkWrite.failures l.writer ≡ g.W.LinkWrite.failures l.fn.writer;
}
