-- What is sent on a link.
use Rattle.std.specs.Prelude.{ℕ, ◌==◌, Bool, false, List, Option, Some, None}
use Rattle.fp_reply.specs.ProviderAbort.{frame_octets}
use Rattle.fp_book.specs.declared.parcel.Content.{Content}
use Rattle.fp_book.specs.declared.parcel.Content.TheVariants as contents
use Rattle.fp_book.specs.declared.parcel.Parcel.{Parcel}

-- the dialogue whose frame it is
abbrev pub dialogue_of : Content → Option ℕ
dialogue_of (contents.Abort frame) = None
dialogue_of (contents.Frame waiting) = Some waiting.local

-- the local transaction identifier of its dialogue, 0 for an Abort of the provider
abbrev pub local_of : Content → ℕ
local_of (contents.Abort frame) = 0
local_of (contents.Frame waiting) = waiting.local

-- the birth of its dialogue, 0 for an Abort of the provider
abbrev pub birth_of : Content → ℕ
birth_of (contents.Abort frame) = 0
birth_of (contents.Frame waiting) = waiting.birth

-- a frame of this dialogue is being sent
abbrev pub is_frame_of : ℕ → Option Content → Bool
is_frame_of local None = false
is_frame_of local (Some (contents.Abort frame)) = false
is_frame_of local (Some (contents.Frame waiting)) = waiting.local == local

-- its octets, the head of the frame included
abbrev pub octets_of : Content → List ℕ
octets_of (contents.Abort frame) = frame_octets frame
octets_of (contents.Frame waiting) = waiting.frame

-- of a parcel its local transaction identifier, 0 for an Abort of the provider, and its octets
abbrev pub local_in : Parcel → ℕ
local_in parcel = local_of parcel.content

abbrev pub octets_in : Parcel → List ℕ
octets_in parcel = octets_of parcel.content
