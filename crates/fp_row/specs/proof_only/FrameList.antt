-- The frames of a turn's requests, in the form in which they are held.
use Rattle.std.specs.Prelude.{ℕ, ◌<◌, List, [], ◌∷◌, length}
use Rattle.fp_row.specs.declared.request_frames.FrameList.{FrameList}
use Rattle.fp_row.specs.declared.request_frames.FrameList.TheVariants.{None, One, Many}

-- the frames, the first one first
abbrev pub frames_at : FrameList → List (List ℕ)
frames_at None = []
frames_at (One frame) = frame ∷ []
frames_at (Many frames) = frames.items

-- the shortest form that holds the frames: a vector has two or more
abbrev pub IsShortest : FrameList → Type 0
IsShortest None = Unit {0}
IsShortest (One frame) = Unit {0}
IsShortest (Many frames) = 1 < length frames.items
