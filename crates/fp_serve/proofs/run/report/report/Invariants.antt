use Rattle.std.proofs.Common.{◌≡◌, ◌++◌, string_bytes}
use Rattle.std.proofs.Math.ListN.{drop}
use Rattle.fp_replay.specs.Replayed.{report_line}
use Rattle.fp_watch.specs.Links.{lines_by}
use Rattle.fp_serve.proofs.run.report.report.Given as goal

-- with the lines of those links that are left, the text is that of all
abbrev pub invariant-loop-link : goal.invariant-loop-link
invariant-loop-link l = string_bytes l.text ++ lines_by report_line l.link (drop l.link l.totals) ≡ lines_by report_line 0 l.totals
