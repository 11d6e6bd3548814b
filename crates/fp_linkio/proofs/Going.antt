-- The reads of a link so far, and what was handed on.
use Rattle.std.proofs.Common.{◌≡◌, ◌≢◌, ℕ, ◌+◌, ◌≤◌, List, [], ◌∷◌, ◌++◌, length, take, Option, Result, refl, sym, ◌∙◌, ap, subst, arith, append-nil, length-append}
use Rattle.std.specs.List.{All}
use Rattle.std.specs.Io.KnownBytes.{Consumes}
use Rattle.std.proofs.KnownBytes.{Consumes-nil, Consumes-trans}
use Rattle.std.proofs.lemmas.List.Concat.{flat_map-append}
use Rattle.std.proofs.lemmas.List.Elements.{All-append, All-cons, All-nil}
use Rattle.fp_frames.specs.declared.fault.FrameFault.{FrameFault}
use Rattle.fp_frames.specs.Stream.{Frames}
use Rattle.fp_streams.specs.Grows.{Grows}
use Rattle.fp_streams.specs.Reads.{IsPiece, joined}
use Rattle.fp_linkio.specs.Receiving.{HandsOn, ReceiveEnds, Receives}
use Rattle.fp_linkio.specs.declared.ended.Ended.{Ended}
use Rattle.fp_linkio.proofs.HandedOn.{frames_longer, frames_none, frames_then, front_of}
use Rattle.fp_linkio.proofs.Told.{told_more, told_none}

-- this number of reads gave octets, and this is left of them after the frames that were handed on
pub record Goes (made : ℕ) (had left : Option (List ℕ)) (before after old new : Option (List (List ℕ))) (rest : List ℕ) : Type 0 where
  pub pieces : List (List ℕ)
  pub count : length pieces ≡ made
  pub sizes : All (IsPiece 65536) pieces
  pub read : Grows before after pieces
  pub consumed : Consumes had left (joined pieces)
  pub messages : List (List ℕ)
  pub handed_on : Grows old new messages
  pub frames : Frames (joined pieces) messages rest

-- one piece after the others
joined_more : (pieces : List (List ℕ)) (piece : List ℕ) → joined (pieces ++ piece ∷ []) ≡ joined pieces ++ piece
joined_more pieces piece =
    flat_map-append (λ (p : List ℕ). p) pieces (piece ∷ []) ∙ ap (λ l. joined pieces ++ l) (append-nil piece)

-- nothing was read yet
pub goes_none : (had : Option (List ℕ)) (before old : Option (List (List ℕ))) → Goes 0 had had before before old old []
goes_none had before old = record {
  pieces = [];
  count = refl;
  sizes = All-nil (IsPiece 65536);
  read = told_none before;
  consumed = Consumes-nil had;
  messages = [];
  handed_on = told_none old;
  frames = frames_none [];
}

-- one more piece was read
pub goes_read : (made : ℕ) (had left next : Option (List ℕ)) (before after later old new : Option (List (List ℕ))) (rest piece : List ℕ)
    → Goes made had left before after old new rest → Consumes left next piece → Grows after later (piece ∷ []) → IsPiece 65536 piece
    → Goes (made + 1) had next before later old new (rest ++ piece)
goes_read made had left next before after later old new rest piece goes consumed read size =
    let more = joined_more goes.pieces piece in
    let count = goes.count in
    let long = length-append goes.pieces (piece ∷ []) in
    record {
      pieces = goes.pieces ++ piece ∷ [];
      count = omega (arith, count, long);
      sizes = All-append (IsPiece 65536) goes.pieces (piece ∷ []) goes.sizes (All-cons (IsPiece 65536) piece [] size (All-nil (IsPiece 65536)));
      read = told_more before after later goes.pieces (piece ∷ []) goes.read read;
      consumed = subst (Consumes had next) (sym more) (Consumes-trans had left next (joined goes.pieces) piece goes.consumed consumed);
      messages = goes.messages;
      handed_on = goes.handed_on;
      frames = subst (λ o. Frames o goes.messages (rest ++ piece)) (sym more) (frames_longer (joined goes.pieces) rest piece goes.messages goes.frames);
    }

-- and then the inbox was told that these were all
pub hands_quietly : {A : Type 0} (result : Result A FrameFault) (old new later : Option (List (List ℕ))) (octets rest : List ℕ)
    → HandsOn old new octets rest result → Grows new later [] → HandsOn old later octets rest result
hands_quietly result old new later octets rest hands quiet = record {
  messages = hands.messages;
  handed_on = subst (Grows old later) (append-nil hands.messages) (told_more old new later hands.messages [] hands.handed_on quiet);
  frames = hands.frames;
  end = hands.end;
}

-- frames were handed on
pub goes_handed : {A : Type 0} (result : Result A FrameFault) (made : ℕ) (had left : Option (List ℕ)) (before after old new later : Option (List (List ℕ))) (octets rest : List ℕ)
    → Goes made had left before after old new octets → HandsOn new later octets rest result
    → Goes made had left before after old later rest
goes_handed result made had left before after old new later octets rest goes hands = record {
  pieces = goes.pieces;
  count = goes.count;
  sizes = goes.sizes;
  read = goes.read;
  consumed = goes.consumed;
  messages = goes.messages ++ hands.messages;
  handed_on = told_more old new later goes.messages hands.messages goes.handed_on hands.handed_on;
  frames = frames_then (joined goes.pieces) octets rest goes.messages hands.messages goes.frames hands.frames;
}

-- it went no further, and no read was made after those that gave octets, or one that failed
pub receives : (ended : Ended) (turns made : ℕ) (had left : Option (List ℕ)) (before after old new : Option (List (List ℕ))) (rest : List ℕ)
    → Goes made had left before after old new rest → ReceiveEnds ended turns made left [] rest
    → Receives turns had left before after old new ended
receives ended turns made had left before after old new rest goes end = record {
  pieces = goes.pieces;
  sizes = goes.sizes;
  last = [];
  read = subst (Grows before after) (sym (append-nil goes.pieces)) goes.read;
  consumed = goes.consumed;
  messages = goes.messages;
  handed_on = goes.handed_on;
  rest = rest;
  frames = goes.frames;
  end = subst (λ n. ReceiveEnds ended turns n left [] rest) (sym goes.count) end;
}

-- the last read gave none
pub receives_end : (ended : Ended) (turns made : ℕ) (had left next : Option (List ℕ)) (before after later old new : Option (List (List ℕ))) (rest : List ℕ)
    → Goes made had left before after old new rest → Consumes left next [] → Grows after later ([] ∷ []) → ReceiveEnds ended turns made next ([] ∷ []) rest
    → Receives turns had next before later old new ended
receives_end ended turns made had left next before after later old new rest goes consumed read end = record {
  pieces = goes.pieces;
  sizes = goes.sizes;
  last = [] ∷ [];
  read = told_more before after later goes.pieces ([] ∷ []) goes.read read;
  consumed = subst (Consumes had next) (append-nil (joined goes.pieces)) (Consumes-trans had left next (joined goes.pieces) [] goes.consumed consumed);
  messages = goes.messages;
  handed_on = goes.handed_on;
  rest = rest;
  frames = goes.frames;
  end = subst (λ n. ReceiveEnds ended turns n next ([] ∷ []) rest) (sym goes.count) end;
}

-- one more read gave octets at the front of its room, and these were fed
pub goes_fed : (made count room : ℕ) (had left next : Option (List ℕ)) (before after later old new : Option (List (List ℕ))) (rest octets behind slice fed : List ℕ)
    → Goes made had left before after old new rest → Consumes left next (take count octets) → Grows after later (take count octets ∷ [])
    → (count ≤ length octets) × (count ≡ length (take count octets)) → count ≢ 0 → length octets ≡ room → room ≡ 65536
    → slice ≡ take room (octets ++ behind) → fed ≡ rest ++ take count slice
    → Goes (made + 1) had next before later old new fed
goes_fed made count room had left next before after later old new rest octets behind slice fed goes consumed read bound some size most is is_fed =
    let within = bound.0 in
    let long = bound.1 in
    let front = ap (take count) is ∙ front_of octets behind count room within (omega (arith, size)) in
    subst (Goes (made + 1) had next before later old new) (sym (is_fed ∙ ap (λ l. rest ++ l) front))
    (goes_read made had left next before after later old new rest (take count octets) goes consumed read
    (omega (arith, within, long, some), omega (arith, within, long, size, most)))
