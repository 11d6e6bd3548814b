use Rattle.std.proofs.Common.{sym, ◌∙◌}
use Rattle.csv.specs.Records.{fields_of}
use Rattle.fp_lint.proofs.Known.{window-none}
use Rattle.fp_lint.proofs.faults.has_window.Goals as goal

pub returns-then-not-branch-2 : goal.returns-then-not-branch-2
returns-then-not-branch-2 c =
    let there = rw c.in-Some-get.is at c.get-2.ensures.value in
    window-none (fields_of c.args.row.now) c.in-Some-get.to.now there (sym c.in_ok-is_to.ensures ∙ c.if-not-branch-2.true)
