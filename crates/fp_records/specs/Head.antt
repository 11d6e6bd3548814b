-- The head of a file: `key`, the service key, and the minutes that local time is east of UTC.
use Rattle.std.specs.Prelude.{ℕ, ℤ, pos, neg_ℤ, List, [], ◌∷◌, Option, Some, None, drop, codes, option_map, slice_index, ◌==◌, if◌then◌else◌, bytes_eq}
use Rattle.fp_records.specs.Number.{number_up_to}
use Rattle.fp_records.specs.declared.head.Head.{Head}

-- minutes east of UTC: digits after a `-` are minutes west
abbrev pub offset_of : List ℕ → Option ℤ
offset_of text =
    if slice_index text 0 == 45 then option_map (λ west. neg_ℤ (pos west)) (number_up_to 720 (drop 1 text))
    else option_map pos (number_up_to 840 text)

abbrev pub head_from : Option ℕ → Option ℤ → Option Head
head_from None offset = None
head_from (Some key) None = None
head_from (Some key) (Some offset) = Some (record { key = key; offset = offset })

-- the head that a record is, if it is one
abbrev pub head_of : List (List ℕ) → Option Head
head_of [] = None
head_of (name ∷ []) = None
head_of (name ∷ key ∷ []) = None
head_of (name ∷ key ∷ offset ∷ []) =
    if bytes_eq name (codes "key") then head_from (number_up_to 2147483647 key) (offset_of offset) else None
head_of (name ∷ key ∷ offset ∷ more ∷ rest) = None
