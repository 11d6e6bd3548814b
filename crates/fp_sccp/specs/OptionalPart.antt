-- The optional part of an XUDT (Q.713, 1.6, 1.7 and 3.17): parameters, each with a name, a length and contents, and an
-- octet 00 after the last of them.
use Rattle.std.specs.Prelude.{◌≡◌, ◌≢◌, ℕ, ◌/◌, ◌%◌, ◌≤◌, ◌⊎◌, Bool, true, not, ◌&&◌, ◌||◌, ◌==◌, List, [], ◌∷◌, ◌++◌, length, drop, slice_index}
use Rattle.std.specs.List.{list_all}
use Rattle.fp_sccp.specs.Parts.{place_of}

pub record Parameter : Type 0 where
  pub name : ℕ
  pub contents : List ℕ

abbrev pub parameter_of : ℕ → List ℕ → Parameter
parameter_of name contents = record { name = name; contents = contents }

abbrev pub parameter_octets : Parameter → List ℕ
parameter_octets parameter = parameter.name ∷ length parameter.contents ∷ parameter.contents

-- octets begin with these parameters and the octet that ends them; the octets after that belong to no parameter
abbrev pub HasParameters : List ℕ → List Parameter → Type 0
HasParameters octets [] = (rest : List ℕ) × (octets ≡ 0 ∷ rest)
HasParameters octets (parameter ∷ parameters) =
    (parameter.name ≢ 0)
    × ((rest : List ℕ) × (octets ≡ parameter_octets parameter ++ rest) × HasParameters rest parameters)

-- segmentation (name 10): four octets, whose first one has the mark of a first segment in its eighth bit, and in its
-- lower half the number of segments that follow. A message of one segment is whole
abbrev pub is_only_segment : List ℕ → Bool
is_only_segment contents = (length contents == 4) && (slice_index contents 0 / 128 == 1) && (slice_index contents 0 % 16 == 0)

-- a parameter says nothing of further segments
abbrev pub allows_whole : Parameter → Bool
allows_whole parameter = not (parameter.name == 16) || is_only_segment parameter.contents

-- octets begin with parameters, and the message is whole if each of them allows it
abbrev pub SaysWhole : List ℕ → Bool → Type 0
SaysWhole octets whole =
    (parameters : List Parameter) × HasParameters octets parameters × (whole ≡ list_all allows_whole parameters)

-- the pointer of an XUDT to its optional part: 0 if there is none, and the message is whole then
abbrev pub OptionalPartSays : List ℕ → Bool → Type 0
OptionalPartSays octets whole =
    ((slice_index octets 6 ≡ 0) × (whole ≡ true))
    ⊎ ((1 ≤ slice_index octets 6) × SaysWhole (drop (place_of octets 6) octets) whole)
