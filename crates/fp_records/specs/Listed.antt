-- Lists by numbers, as a map keeps them.
use Rattle.std.specs.Prelude.{ℕ, List, [], ◌∷◌, ◌++◌, bytes_eq, map}
use Rattle.std.specs.BTreeMap.{insert_entry}
use Rattle.std.specs.Cmp.Lexicographic.{slice_cmp}
use Rattle.std.specs.Map.{lookup}
use Rattle.std.specs.Option.{unwrap_or}
use Rattle.std.specs.Ordering.{nat_cmp}
use Rattle.std.specs.declared.vec.Vec.{Vec}

-- the entries of a map, each its number and its list
abbrev pub listed : {T A : Type 0} → List (List ℕ × Vec T A) → List (List ℕ × List T)
listed entries = map (λ entry. (entry.0, entry.1.items)) entries

-- the entries with a value after those at a number
abbrev pub with_value : {T : Type 0} → List (List ℕ × List T) → List ℕ → T → List (List ℕ × List T)
with_value entries number value =
    insert_entry (slice_cmp nat_cmp) entries number (unwrap_or (lookup (bytes_eq number) entries) [] ++ value ∷ [])
