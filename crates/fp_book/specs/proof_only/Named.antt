-- The dialogue that a message names, as the book found it.
use Rattle.std.specs.Prelude.{◌≡◌, ℕ, Option}
use Rattle.std.specs.FinMap.{get}
use Rattle.std.specs.Option.{option_map, option_map_or}
use Rattle.fp_book.specs.declared.posting.Named.{Named}
use Rattle.fp_book.specs.Shelf.{Shelf}
use Rattle.fp_row.specs.Row.{places_taken}

-- its identifier, if there is one
abbrev pub local_in : Option Named → Option ℕ
local_in dialogue = option_map (λ (d : Named). d.local) dialogue

-- its number of places is that of the dialogue
abbrev pub HasItsPlaces : Shelf → Named → Type 0
HasItsPlaces s dialogue = dialogue.places ≡ option_map_or places_taken (get s.rows dialogue.local) 0
