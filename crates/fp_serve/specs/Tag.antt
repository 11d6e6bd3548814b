-- The tag that a run takes from the time of day.
use Rattle.std.specs.Prelude.{ℕ, ◌+◌, ◌/◌, ◌%◌}
use Rattle.fp_tids.specs.Identifiers.{last_tag}

-- that of the second of a moment in milliseconds since 1970-01-01T00:00:00Z: 1 to 4,094, round and round
abbrev pub tag_by : ℕ → ℕ
tag_by moment = moment / 1000 % last_tag + 1
