use Rattle.std.proofs.Common.{◌≡◌, ◌++◌, length}
use Rattle.fp_ask.specs.proof_only.Serving.{IsServed, KeepsDialogues, frames_in}
use Rattle.fp_ask.proofs.engine.send_waiting.Given as goal

abbrev pub invariant-loop-parcel : goal.invariant-loop-parcel
invariant-loop-parcel l = record {
  served : IsServed l.book;
  keeps : KeepsDialogues l.fn.book l.book;
  frames : l.frames.items ++ frames_in l.book.outbox ≡ frames_in l.fn.book.outbox;
}

abbrev pub decreases-loop-parcel : goal.decreases-loop-parcel
decreases-loop-parcel l = length (frames_in l.book.outbox)
