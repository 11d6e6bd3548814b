use Rattle.std.proofs.Common.{length, ◌∙◌, ap, arith, length-append}
use Rattle.fp_row.proofs.Keeping.{frames_under_count}
use Rattle.fp_row.specs.Turn.{requests_in, served_in}
use Rattle.fp_row.proofs.laws.turns_are_served_by_the_step.Goals as goal

pub returns : goal.returns
returns c = λ done.
    let turn = done.turn in
    let front = c.cut_is_a_front.ensures.front turn.before turn.entries in
    let few = c.entries_ask_once_at_most.ensures turn.before (served_in turn) in
    let frames = ap length done.frames_are ∙ frames_under_count turn.local turn.peer (requests_in turn) in
    record {
      count = done.served_is;
      core = done.after_is;
      frames = done.frames_are;
      within = omega (arith, done.served_is, ap length front.1, length-append (served_in turn) front.0);
      few_frames = omega (arith, done.served_is, few, frames);
    }
