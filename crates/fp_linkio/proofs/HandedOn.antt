-- What was handed on of octets.
use Rattle.std.proofs.Common.{◌≡◌, ℕ, ◌<◌, ◌≤◌, true, false, List, [], ◌∷◌, ◌++◌, length, take, Option, refl, sym, ◌∙◌, ap, arith, append_assoc, append-nil}
use Rattle.std.specs.Prelude.{◌==◌}
use Rattle.std.specs.List.{flat_map}
use Rattle.std.proofs.lemmas.Bool.{eqb-false, eqb-true}
use Rattle.std.proofs.lemmas.List.{take-append-le, take-take}
use Rattle.std.proofs.lemmas.List.Concat.{flat_map-append}
use Rattle.std.proofs.lemmas.List.Elements.{All-append, All-cons, All-nil}
use Rattle.fp_frames.specs.Frame.{IsMessageLength, framed}
use Rattle.fp_frames.specs.Stream.{Begins, Frames}
use Rattle.fp_streams.specs.Grows.{Grows}
use Rattle.fp_linkio.proofs.Told.{told_more, told_none}

-- this number of frames was handed on
pub record Handing (old new : Option (List (List ℕ))) (octets rest : List ℕ) : Type 0 where
  pub messages : List (List ℕ)
  pub handed_on : Grows old new messages
  pub frames : Frames octets messages rest

-- no frames are all octets
pub frames_none : (octets : List ℕ) → Frames octets [] octets
frames_none octets = record { sizes = All-nil (λ (m : List ℕ). IsMessageLength (length m)); whole = refl }

-- frames, and then those of their rest
pub frames_then : (octets rest behind : List ℕ) (first later : List (List ℕ)) → Frames octets first rest → Frames rest later behind
    → Frames octets (first ++ later) behind
frames_then octets rest behind first later front back = record {
  sizes = All-append (λ (m : List ℕ). IsMessageLength (length m)) first later front.sizes back.sizes;
  whole =
      front.whole ∙ ap (λ o. flat_map framed first ++ o) back.whole
      ∙ sym (append_assoc (flat_map framed first) (flat_map framed later) behind)
      ∙ ap (λ o. o ++ behind) (sym (flat_map-append framed first later));
}

-- the frames of octets that go on are those that they were, and the rest goes on
pub frames_longer : (octets rest more : List ℕ) (messages : List (List ℕ)) → Frames octets messages rest → Frames (octets ++ more) messages (rest ++ more)
frames_longer octets rest more messages frames = record {
  sizes = frames.sizes;
  whole = ap (λ o. o ++ more) frames.whole ∙ append_assoc (flat_map framed messages) rest more;
}

-- one frame
frames_one : (octets message rest : List ℕ) → Begins octets message rest → Frames octets (message ∷ []) rest
frames_one octets message rest begins = record {
  sizes = All-cons (λ (m : List ℕ). IsMessageLength (length m)) message [] begins.size (All-nil (λ (m : List ℕ). IsMessageLength (length m)));
  whole = begins.whole ∙ ap (λ o. o ++ rest) (sym (append-nil (framed message)));
}

-- nothing was handed on yet
pub handing_none : (told : Option (List (List ℕ))) (octets : List ℕ) → Handing told told octets octets
handing_none told octets = record { messages = []; handed_on = told_none told; frames = frames_none octets }

-- one more frame was handed on
pub handing_more : (old new later : Option (List (List ℕ))) (octets rest message behind : List ℕ) → Handing old new octets rest
    → Begins rest message behind → Grows new later (message ∷ []) → Handing old later octets behind
handing_more old new later octets rest message behind handing begins grows = record {
  messages = handing.messages ++ message ∷ [];
  handed_on = told_more old new later handing.messages (message ∷ []) handing.handed_on grows;
  frames = frames_then octets rest behind handing.messages (message ∷ []) handing.frames (frames_one rest message behind begins);
}

-- nothing is left
pub none_left : (rest : List ℕ) → (length rest == 0) ≡ true → rest ≡ []
none_left [] none = refl
none_left (octet ∷ rest) none = absurd (omega (arith, eqb-true (length (octet ∷ rest)) 0 none))

-- something is left
pub some_left : (rest : List ℕ) → (length rest == 0) ≡ false → 0 < length rest
some_left rest some = let no = eqb-false (length rest) 0 some in omega (arith, no)

-- the front of what a read wrote into a room
pub front_of : (octets more : List ℕ) (count size : ℕ) → count ≤ length octets → length octets ≤ size → take count (take size (octets ++ more)) ≡ take count octets
front_of octets more count size within fits =
    take-take count size (octets ++ more) (omega (arith, within, fits)) ∙ take-append-le count octets more within
