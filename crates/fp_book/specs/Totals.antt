-- What a link counts: the components that it accepted, the entries that it served, the frames that it sent.
use Rattle.std.specs.Prelude.{ℕ, ◌+◌}
use Rattle.std.specs.List.{sum_by}
use Rattle.std.specs.Ordering.{nat_cmp}
use Rattle.std.specs.FinMap.{FinMap, entries}
use Rattle.fp_book.specs.declared.totals.Totals.{Totals}
use Rattle.fp_entry.specs.Entries.{component_count}
use Rattle.fp_row.specs.declared.row.Row.{Row}

-- a number of each dialogue, added up
abbrev pub sum_of : (Row → ℕ) → FinMap nat_cmp Row → ℕ
sum_of count rows = sum_by (λ (entry : ℕ × Row). count entry.1) (entries rows)

-- how many of the entries that a dialogue accepted come from components
abbrev pub accepted_by : Row → ℕ
accepted_by row = component_count row.accepted

-- how many were served
abbrev pub served_by : Row → ℕ
served_by row = row.served

-- how many of its frames were sent
abbrev pub sent_by : Row → ℕ
sent_by row = row.sent

-- with those of one more dialogue
abbrev pub with_row : Totals → Row → Totals
with_row totals row = record {
  accepted = totals.accepted + accepted_by row;
  served = totals.served + served_by row;
  sent = totals.sent + sent_by row;
}
