-- Entries in the order of their keys, as contracts see them.
use Rattle.std.proofs.Common.{◌≡◌, ℕ, List, [], ◌∷◌, refl, ap}
use Rattle.std.specs.Map.{keys_of}
use Rattle.fp_records.proofs.Lookups.{seen}

pub keys-seen : {X Y : Type 0} (shown : X → Y) (entries : List (List ℕ × X)) → keys_of (seen shown entries) ≡ keys_of entries
keys-seen shown [] = refl
keys-seen shown (entry ∷ entries) = ap (λ keys. entry.0 ∷ keys) (keys-seen shown entries)
