use Rattle.std.proofs.Common.{◌≡◌, ◌⊎◌, ◌≤◌, ◌-◌, ◌++◌, length, drop}
use Rattle.fp_logtext.specs.Logged.{EndsBelow, lines_text}
use Rattle.fp_logtext.proofs.made.add_lines.Given as goal

-- the text so far, and that of the lines from the place on, is all text
abbrev pub invariant-loop-made : goal.invariant-loop-made
invariant-loop-made l = record {
  within : l.made ≤ length l.lines;
  forth : l.fn.made ≤ l.made;
  limit : (l.text.items ≡ l.fn.text.items) ⊎ EndsBelow l.most l.text.items;
  in_order : l.text.items ++ lines_text (drop l.made l.lines) ≡ l.fn.text.items ++ lines_text (drop l.fn.made l.lines);
}

abbrev pub decreases-loop-made : goal.decreases-loop-made
decreases-loop-made l = length l.lines - l.made
