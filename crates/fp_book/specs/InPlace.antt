-- What serving in place brings.
use Rattle.std.specs.Prelude.{ℕ}
use Rattle.fp_book.specs.declared.in_place.InPlace.{InPlace}
use Rattle.fp_book.specs.declared.in_place.InPlace.TheVariants.{Served, Nothing, NoRoom, Memory}

-- how many entries were served
abbrev pub count_in : InPlace → ℕ
count_in (Served count given) = count
count_in Nothing = 0
count_in NoRoom = 0
count_in Memory = 0
