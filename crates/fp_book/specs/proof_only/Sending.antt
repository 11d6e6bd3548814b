-- What is being sent on a link.
use Rattle.std.specs.Prelude.{ℕ, List, Bool, true, false, ◌==◌, ◌&&◌, Option, Some, None}
use Rattle.fp_book.specs.declared.parcel.Content.{Content}
use Rattle.fp_book.specs.declared.parcel.Content.TheVariants as contents
use Rattle.fp_book.specs.Parcel.{dialogue_of}
use Rattle.fp_book.specs.declared.sending.Kind.{Kind}
use Rattle.fp_book.specs.declared.sending.Kind.TheVariants as kinds

-- what is being sent, from its kind and its octets
abbrev pub content_of : Option Kind → List ℕ → Option Content
content_of None octets = None
content_of (Some (kinds.Abort frame)) octets = Some (contents.Abort frame)
content_of (Some (kinds.Frame local birth)) octets =
    Some (contents.Frame (record { local = local; birth = birth; frame = octets }))

-- the frame of a dialogue is being sent
abbrev pub is_frame : Option Content → Bool
is_frame None = false
is_frame (Some (contents.Abort frame)) = false
is_frame (Some (contents.Frame waiting)) = true

-- the dialogue of which a frame is being sent, if one is
abbrev pub dialogue_out : Option Content → Option ℕ
dialogue_out None = None
dialogue_out (Some content) = dialogue_of content

-- a frame of the dialogue with this identifier and this birth is being sent
abbrev pub is_frame_under : ℕ → ℕ → Option Content → Bool
is_frame_under local birth None = false
is_frame_under local birth (Some (contents.Abort frame)) = false
is_frame_under local birth (Some (contents.Frame waiting)) =
    waiting.local == local && waiting.birth == birth
