-- The octets for the link of what its adaptor hands on.
use Rattle.std.specs.Prelude.{ℕ, List, [], ◌++◌, Option, None, Some}
use Rattle.fp_adaptor.specs.declared.adaptor.HandedOn.{HandedOn}
use Rattle.fp_frames.specs.Frame.{framed}

-- the frame of a message that may be there
abbrev pub framed_if : Option (List ℕ) → List ℕ
framed_if None = []
framed_if (Some message) = framed message

-- the frame of the Abort, if there is one, and then that of the message
abbrev pub frames_of : HandedOn → List ℕ
frames_of handed_on = framed_if handed_on.abort ++ framed handed_on.message
