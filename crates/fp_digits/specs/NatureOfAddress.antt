-- The nature of address indicator: ITU-T Q.763, 3.9 b).
use Rattle.std.specs.Prelude.{ℕ}

-- a national (significant) number
abbrev pub national : ℕ
national = 3
