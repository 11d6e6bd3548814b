-- Texts put at the front of a part of a line, and the text so far if memory runs out during a write.
use Rattle.std.specs.Prelude.{◌≡◌, ◌+◌, ◌++◌, ◌≤◌, ℕ, List, length, take}
use Rattle.fp_replay.specs.declared.line_part.TheConstants.LinePart.{ROOM}

-- a part of a line has room for this many more octets; a number is counted with 20 digits
abbrev pub HasRoom : ℕ → List ℕ → Type 0
HasRoom most part = length part + most ≤ ROOM

-- this text, of at most this many octets, was put at the front of a part of a line
abbrev pub Puts : ℕ → List ℕ → List ℕ → List ℕ → Type 0
Puts most text old new = (new ≡ text ++ old) × (length new ≤ length old + most)

-- what was there before is still at the front
abbrev pub KeepsFront : List ℕ → List ℕ → Type 0
KeepsFront old new = take (length old) new ≡ old
