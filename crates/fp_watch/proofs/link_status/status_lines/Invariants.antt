use Rattle.std.proofs.Common.{◌≡◌, ◌+◌, ◌++◌, string_bytes}
use Rattle.std.proofs.Math.ListN.{drop}
use Rattle.fp_watch.specs.Links.{lines_by, status_line}
use Rattle.fp_watch.proofs.link_status.status_lines.Given as goal

-- with the lines of those links that are left, the text is that of all
abbrev pub invariant-loop-place : goal.invariant-loop-place
invariant-loop-place l =
    string_bytes l.text ++ lines_by (λ place. status_line (l.first_link + place)) l.place (drop l.place l.links)
    ≡ lines_by (λ place. status_line (l.first_link + place)) 0 l.links
