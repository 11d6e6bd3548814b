-- What the sender of a link finds, by what a pick hands out.
use Rattle.std.specs.Prelude.{◌≡◌, true, false, ◌⊎◌}
use Rattle.fp_book.specs.declared.parcel.Picked.TheVariants as answers
use Rattle.fp_book.specs.Calls.{Hands}
use Rattle.fp_book.specs.Shelf.{Shelf}
use Rattle.fp_hub.specs.declared.next.Next.{Next}
use Rattle.fp_hub.specs.declared.next.Next.TheVariants.{Parcel, Down, Nothing}

-- if the link is up, what a pick hands out; if it is down, nothing is picked
abbrev pub Finds : Shelf → Next → Shelf → Type 0
Finds old (Parcel parcel) new = (old.is_down ≡ false) × Hands old (answers.Parcel parcel) new
Finds old Nothing new = (old.is_down ≡ false) × (Hands old answers.Busy new ⊎ Hands old answers.Nothing new)
Finds old Down new = (old.is_down ≡ true) × (new ≡ old)
