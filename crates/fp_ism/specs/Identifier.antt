-- Invoke identifiers (own rule, which ITU-T Q.774, 3.2, leaves open): they run 1, 2, .. 127 and then 1 again, and an
-- active one is skipped.
use Rattle.std.specs.Prelude.{ℕ, ◌+◌, ◌%◌, ℤ, pos, ◌≤ℤ◌, Bool, not, List, map, find}
use Rattle.std.specs.List.{range_with_len}
use Rattle.std.specs.Option.{unwrap_or}
use Rattle.fp_ism.specs.declared.invocation.Invocation.{Invocation}
use Rattle.fp_ism.specs.Invocation.{is_active}

-- one of 1 to 127
pub record IsIdentifier (identifier : ℤ) : Type 0 where
  pub least : pos 1 ≤ℤ identifier
  pub most : identifier ≤ℤ pos 127

-- this number of steps after the successor of this one, 127 being followed by 1
abbrev pub identifier_after : ℕ → ℕ → ℕ
identifier_after last step = (last + step) % 127 + 1

-- all 127, from the successor of this one on; 0 comes before the first
abbrev pub identifiers_after : ℕ → List ℕ
identifiers_after last = map (identifier_after last) (range_with_len 0 127)

abbrev pub is_free : List Invocation → ℕ → Bool
is_free active identifier = not (is_active (pos identifier) active)

-- the first one that isn't active, after the one that was started last
unfoldable pub next_identifier : ℕ → List Invocation → ℕ
next_identifier last active = unwrap_or (find (is_free active) (identifiers_after last)) 0
