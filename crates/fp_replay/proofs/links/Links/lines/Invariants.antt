use Rattle.std.proofs.Common.{◌≡◌, ℕ, List, string_bytes}
use Rattle.fp_records.specs.Table.{Contents}
use Rattle.fp_replay.specs.proof_only.Making.{AreAfter}
use Rattle.fp_replay.specs.Replayed.{report_of, totals_along}
use Rattle.fp_steps.specs.History.{Event}
use Rattle.fp_replay.proofs.links.Links.lines.Given as goal

abbrev pub invariant-loop-link : goal.invariant-loop-link
invariant-loop-link l =
    (tables : List Contents) (contexts : List (List ℕ)) (tag : ℕ) (history : ℕ → List Event) → AreAfter tables contexts tag history l.self.runs.items
    → string_bytes l.lines ≡ report_of l.link (totals_along history)
