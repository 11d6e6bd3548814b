use Rattle.std.proofs.Common.{◌≡◌, ◌⊎◌, ◌≤◌, ◌-◌, ◌++◌, length, drop}
use Rattle.fp_book.specs.Log.{lines_of}
use Rattle.fp_logtext.specs.Logged.{EndsBelow, lines_text}
use Rattle.fp_logtext.proofs.exchanged.add_steps.Given as goal

-- the text so far, and that of the steps from the place on, is all text
abbrev pub invariant-loop-made : goal.invariant-loop-made
invariant-loop-made l = record {
  within : l.made ≤ length l.log;
  forth : l.fn.made ≤ l.made;
  limit : (l.text.items ≡ l.fn.text.items) ⊎ EndsBelow l.most l.text.items;
  in_order : l.text.items ++ lines_text (lines_of l.link (drop l.made l.log)) ≡ l.fn.text.items ++ lines_text (lines_of l.link (drop l.fn.made l.log));
}

abbrev pub decreases-loop-made : goal.decreases-loop-made
decreases-loop-made l = length l.log - l.made
