-- The limit of the deadlines of a link.
use Rattle.std.specs.Prelude.{ℕ}

-- how many identifiers may have a deadline
abbrev pub most_deadlines : ℕ
most_deadlines = 4096
