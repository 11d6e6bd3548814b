use Rattle.std.proofs.Common.{refl}
use Rattle.std.proofs.KnownBytes.{Keeps-refl}
use Rattle.fp_ask.proofs.Written.{line_written}
use Rattle.fp_ask.proofs.answering.Answering.answer.Goals as goal

pub returns-in_default : goal.returns-in_default
returns-in_default g c = record { writer = refl; why = (rw c.in_default.is at c.in_ok-taken.ensures, Keeps-refl _); failures = refl }

pub returns : goal.returns
returns g c =
    let sent = c.as_slice.ensures.value in
    line_written _ _ _ _ c.write_frames.result refl refl refl (rw c.in-Some.is at c.in_ok-taken.ensures)
    (rw sent at c.write_frames.ensures.written) (rw sent at c.write_frames.ensures.front)
    c.write_frames.ensures.good c.write_frames.ensures.failure
