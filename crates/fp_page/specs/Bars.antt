-- How long a bar is, in proportion to the greatest number of its table, whose bar fills the room.
use Rattle.std.specs.Prelude.{ℕ, ◌*◌, ◌/◌, ◌==◌, min, if◌then◌else◌}

-- a number above the greatest one fills the room, too
abbrev pub bar_length : ℕ → ℕ → ℕ → ℕ
bar_length number most room = if most == 0 then 0 else min number most * room / most
