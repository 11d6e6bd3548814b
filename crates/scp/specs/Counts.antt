-- The line that says how much a file of records holds.
use Rattle.std.specs.Prelude.{ℕ, List, [], ◌∷◌, ◌++◌, codes, length, nat_eq, if◌then◌else◌}
use Rattle.std.specs.Fmt.{decimal}
use Rattle.fp_records.specs.Table.{Contents}

-- the number of closed days, if there are any
abbrev pub closed_part : ℕ → List ℕ
closed_part count = if nat_eq count 0 then [] else codes " closed " ++ decimal count

-- its numbers, its rules and its closed days, in decimal digits, and a line feed
abbrev pub counts_line : Contents → List ℕ
counts_line table =
    codes "numbers " ++ (decimal (length table.records) ++ (codes " rules " ++ (decimal table.rule_count
    ++ (closed_part table.closed_count ++ 10 ∷ []))))
