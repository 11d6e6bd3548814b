-- How a stream of octets parts into frames.
use Rattle.std.proofs.Common.{◌≡◌, ℕ, ◌+◌, ◌<◌, List, [], ◌∷◌, ◌++◌, length, take, drop, refl, sym, ◌∙◌, ap, subst, inr, arith, append_assoc, length-append}
use Rattle.std.specs.Prelude.{◌⊎◌}
use Rattle.std.specs.Int.{w32, from_be_bytes}
use Rattle.std.specs.List.{flat_map}
use Rattle.std.proofs.lemmas.List.{drop_at, take_at, take-append-le}
use Rattle.std.proofs.lemmas.List.Concat.{flat_map-append}
use Rattle.std.proofs.lemmas.List.Elements.{All-append, All-head, All-tail}
use Rattle.std.proofs.lemmas.Nat.{from_be_bytes-to_be_bytes_4}
use Rattle.fp_frames.specs.Frame.{IsMessageLength, framed}
use Rattle.fp_frames.specs.Laws.{BadIsNoFrame, BadStaysBad, FramesGoOn, StreamsAreOne}
use Rattle.fp_frames.specs.Stream.{Begins, Frames, IsBad, IsIncomplete, IsStream, length_told}

-- the head of a frame tells the length of its message
pub length_told_framed : (message rest : List ℕ) → IsMessageLength (length message) → length_told (framed message ++ rest) ≡ length message
length_told_framed message rest size = from_be_bytes-to_be_bytes_4 (length message) (omega (arith, size))

-- how long a frame and what is behind it are
pub length-framed : (message rest : List ℕ) → length (framed message ++ rest) ≡ 4 + (length message + length rest)
length-framed message rest = let long = length-append message rest in omega (arith, long)

-- where a whole frame stands, no part of one stands, and no bad head
pub not_whole : (octets message rest : List ℕ) → Begins octets message rest → IsIncomplete octets ⊎ IsBad octets → ⊥
not_whole octets message rest begins end =
    let size = begins.size in
    let says = ap length_told begins.whole ∙ length_told_framed message rest size in
    let long = ap length begins.whole ∙ length-framed message rest in
    omega (arith, size, says, long, end)

-- a frame is that of one message
pub same_message : (one other rest others : List ℕ) → IsMessageLength (length one) → IsMessageLength (length other)
    → framed one ++ rest ≡ framed other ++ others → (one ≡ other) × (rest ≡ others)
same_message one other rest others size sizes same =
    let long : length one ≡ length other =
    sym (length_told_framed one rest size) ∙ ap length_told same ∙ length_told_framed other others sizes in
    let behind : one ++ rest ≡ other ++ others = ap (drop 4) same in (
      sym (take_at one rest (length one) refl) ∙ ap (take (length one)) behind ∙ take_at other others (length one) (sym long),
      sym (drop_at one rest (length one) refl) ∙ ap (drop (length one)) behind ∙ drop_at other others (length one) (sym long),
    )

-- the first frame of a stream, and the rest
first_frame : (octets message rest : List ℕ) (messages : List (List ℕ)) → Frames octets (message ∷ messages) rest
    → Begins octets message (flat_map framed messages ++ rest)
first_frame octets message rest messages frames = record {
  size = All-head (λ (m : List ℕ). IsMessageLength (length m)) message messages frames.sizes;
  whole = frames.whole ∙ append_assoc (framed message) (flat_map framed messages) rest;
}

-- octets are the frames of at most one list of messages, and have at most one rest
pub streams_are_one : StreamsAreOne
streams_are_one octets [] [] one other a b = (refl, sym a.frames.whole ∙ b.frames.whole)
streams_are_one octets [] (message ∷ messages) one other a b =
    absurd (not_whole octets message (flat_map framed messages ++ other) (first_frame octets message other messages b.frames)
    (subst (λ o. IsIncomplete o ⊎ IsBad o) (sym a.frames.whole) a.end))
streams_are_one octets (message ∷ messages) [] one other a b =
    absurd (not_whole octets message (flat_map framed messages ++ one) (first_frame octets message one messages a.frames)
    (subst (λ o. IsIncomplete o ⊎ IsBad o) (sym b.frames.whole) b.end))
streams_are_one octets (message ∷ messages) (another ∷ others) one other a b =
    let P : List ℕ → Type 0 = λ m. IsMessageLength (length m) in
    let first = first_frame octets message one messages a.frames in
    let second = first_frame octets another other others b.frames in
    let same = same_message message another (flat_map framed messages ++ one) (flat_map framed others ++ other) first.size second.size (sym first.whole ∙ second.whole) in
    let left : IsStream (flat_map framed messages ++ one) messages one =
    record { frames = record { sizes = All-tail P message messages a.frames.sizes; whole = refl }; end = a.end } in
    let right : IsStream (flat_map framed messages ++ one) others other =
    record { frames = record { sizes = All-tail P another others b.frames.sizes; whole = same.1 }; end = b.end } in
    let rest = streams_are_one (flat_map framed messages ++ one) messages others one other left right in
    (ap (λ m. m ∷ messages) same.0 ∙ ap (λ ms. another ∷ ms) rest.0, rest.1)

-- where a stream goes on, its frames go on with those of its rest and what comes
pub frames_go_on : FramesGoOn
frames_go_on octets more rest behind first later front back = record {
  sizes = All-append (λ (m : List ℕ). IsMessageLength (length m)) first later front.sizes back.sizes;
  whole =
      ap (λ o. o ++ more) front.whole
      ∙ append_assoc (flat_map framed first) rest more
      ∙ ap (λ o. flat_map framed first ++ o) back.whole
      ∙ sym (append_assoc (flat_map framed first) (flat_map framed later) behind)
      ∙ ap (λ o. o ++ behind) (sym (flat_map-append framed first later));
}

-- whatever comes behind a head that is no frame's, it stays so
pub bad_stays_bad : BadStaysBad
bad_stays_bad octets more bad =
    let same : length_told octets ≡ length_told (octets ++ more) = ap (λ o. from_be_bytes w32 o) (sym (take-append-le 4 octets more bad.0)) in
    let long = length-append octets more in
    (omega (arith, bad, long), subst (λ n. (n ≡ 0) ⊎ (4096 < n)) same bad.1)

-- where a head stands that is no frame's, no part of a frame stands, and no whole one
pub bad_is_no_frame : BadIsNoFrame
bad_is_no_frame octets message rest bad = (
  λ part. omega (arith, part, bad),
  λ begins. not_whole octets message rest begins (inr bad),
)

pub ruleset stream_laws = (frames_go_on, bad_stays_bad, bad_is_no_frame)
