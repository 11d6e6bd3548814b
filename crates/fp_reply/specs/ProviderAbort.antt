-- The octets of a frame with an Abort of the provider (Q.773, 4.2.1).
use Rattle.std.specs.Prelude.{ℕ, List}

-- such a frame is its octets
abbrev pub AbortFrame : Type 0
AbortFrame = List ℕ

abbrev pub frame_octets : AbortFrame → List ℕ
frame_octets frame = frame
