-- The places of the tables that are handed in to a run, from 0 on. The log of a run names tables by these.
use Rattle.std.specs.Prelude.{ℕ, ◌+◌, ◌==◌, List, Option, None, nat_le, slice_get, take, if◌then◌else◌}
use Rattle.fp_records.specs.Table.{Contents}

-- the last place, whatever the tag of the run
abbrev pub greatest_place : ℕ
greatest_place = 65535

-- the last place in a run with this tag; a run without one has the tag 0
abbrev pub last_place : ℕ → ℕ
last_place tag = if tag == 0 then 999 else greatest_place

-- the tables that a run with this tag has, of those that are handed in
abbrev pub handed_in : ℕ → List Contents → List Contents
handed_in tag tables = take (last_place tag + 1) tables

-- the records in a place of the tables that a run has
abbrev pub table_at : List Contents → ℕ → Option Contents
table_at tables place = if nat_le place greatest_place then slice_get tables place else None
