-- A look-up by digits in a map's entries, and in what contracts see of them.
use Rattle.std.proofs.Common.{◌≡◌, ℕ, List, [], ◌∷◌, Bool, true, false, cond, Option, Some, None, map, option_map, Bor, refl}
use Rattle.std.specs.Prelude.{bytes_eq}
use Rattle.std.specs.Cmp.Lexicographic.{slice_cmp, texts_ties}
use Rattle.std.specs.Map.{lookup}
use Rattle.std.specs.Ordering.{is_eq, nat_cmp}

-- what contracts see of entries
abbrev pub seen : {X Y : Type 0} → (X → Y) → List (List ℕ × X) → List (List ℕ × Y)
seen shown entries = map (λ entry. (entry.0, shown entry.1)) entries

pub lookup-seen : {X Y : Type 0} (shown : X → Y) (digits : List ℕ) (entries : List (List ℕ × X))
    → lookup (bytes_eq digits) (seen shown entries) ≡ option_map shown (lookup (λ key. is_eq (slice_cmp nat_cmp digits key)) entries)
lookup-seen shown digits [] = refl
lookup-seen shown digits (entry ∷ entries) =
    rw (texts_ties digits entry.0, lookup-seen shown digits entries) (by (is_eq (slice_cmp nat_cmp digits entry.0)) _)
  where
    by : (b : Bool) (rest : Option _) → cond b (Some (shown entry.1)) (option_map shown rest) ≡ option_map shown (cond b (Some entry.1) rest)
    by true rest = refl
    by false rest = refl

-- what a look-up lends is what contracts see at the digits
pub seen-found : {X Y : Type 0} (shown : X → Y) (digits : List ℕ) (entries : List (List ℕ × X)) (found : Option (Bor X))
    → option_map (λ lent. lent.now) found ≡ lookup (λ key. is_eq (slice_cmp nat_cmp digits key)) entries
    → option_map (λ lent. shown lent.now) found ≡ lookup (bytes_eq digits) (seen shown entries)
seen-found shown digits entries None same = rw (lookup-seen shown digits entries, ← same) refl
seen-found shown digits entries (Some lent) same = rw (lookup-seen shown digits entries, ← same) refl
