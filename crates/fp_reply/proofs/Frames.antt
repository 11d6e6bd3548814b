-- Frames of elements in their canonical spelling.
use Rattle.std.proofs.Common.{◌≡◌, ℕ, ◌≤◌, Bool, true, false, List, ◌++◌, length, length-append, arith, nat_lt, if◌then◌else◌}
use Rattle.fp_ber.specs.declared.element.Class.{Class}
use Rattle.fp_ber.specs.Canon.{HasLengths, canon, canon_of_all, length_octets, tag_octets, with_header}
use Rattle.fp_ber.specs.Laws.{CanonSpells}
use Rattle.fp_ber.specs.Tree.{InRange, Tree, primitive, constructed}
use Rattle.fp_frames.specs.Frame.{IsMessageLength, framed}
use Rattle.fp_q773.specs.Grammar.{IsMessage}
use Rattle.fp_q773.specs.Value.{MessageValue}
use Rattle.fp_reply.specs.Reply.{IsFrameOf}

-- either of two lists that aren't empty
if_some : (b : Bool) (x y : List ℕ) → 1 ≤ length x → 1 ≤ length y → 1 ≤ length (if b then x else y)
if_some true x y h k = h
if_some false x y h k = k

-- a tag takes at least an octet
tag_some : (class : Class) (form : Bool) (number : ℕ) → 1 ≤ length (tag_octets class form number)
tag_some class form number =
    if_some (nat_lt number 31) _ _ (omega arith) (if_some (nat_lt number 128) _ _ (omega arith) (omega arith))

header_some : (class : Class) (form : Bool) (number : ℕ) (contents : List ℕ) → 1 ≤ length (with_header class form number contents)
header_some class form number contents =
    let both = length-append (tag_octets class form number) (length_octets (length contents) ++ contents) in
    let tag = tag_some class form number in omega arith

-- a spelling takes at least an octet
pub canon_some : (t : Tree) → 1 ≤ length (canon t)
canon_some (primitive class number octets) = header_some class false number octets
canon_some (constructed class number children) = header_some class true number (canon_of_all children)

-- the frame of an element that is a message is a frame of that message
pub frame_says : CanonSpells → (frame : List ℕ) (t : Tree) (value : MessageValue) → frame ≡ framed (canon t) → IsMessageLength (length (canon t))
    → InRange t → HasLengths t → IsMessage t value → IsFrameOf frame value
frame_says canon_spells frame t value whole fits in_range lengths says = record {
  message = canon t;
  element = t;
  whole = whole;
  fits = fits;
  spelled = canon_spells t in_range.tags lengths;
  in_range = in_range;
  says = says;
}
