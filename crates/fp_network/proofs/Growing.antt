-- What waits for a link grows by whole frames.
use Rattle.std.proofs.Common.{◌≡◌, ℕ, List, [], ◌∷◌, ◌++◌, Ok, Err, OnOk, Result, sym, ◌∙◌, ap, append-nil, append_assoc}
use Rattle.std.proofs.lemmas.List.Concat.{flat_map-append}
use Rattle.std.specs.List.{flat_map}
use Rattle.fp_adaptor.specs.declared.adaptor.HandedOn.{HandedOn}
use Rattle.fp_network.specs.Frames.{frames_of}
use Rattle.fp_network.specs.Node.{Grows}

-- nothing was added
pub grows_none : (octets : List ℕ) → Grows octets octets
grows_none octets = ([], sym (append-nil octets))

-- some were, and then others
pub grows_more : (old mid new : List ℕ) → Grows old mid → Grows mid new → Grows old new
grows_more old mid new (first, is_first) (then, is_then) = (
  first ++ then,
  is_then ∙ ap (λ l. l ++ flat_map frames_of then) is_first
      ∙ append_assoc old (flat_map frames_of first) (flat_map frames_of then)
      ∙ ap (λ l. old ++ l) (sym (flat_map-append frames_of first then)),
)

-- these octets are those that were there and such frames
pub grown_by : (old new : List ℕ) (frames : HandedOn) → new ≡ old ++ frames_of frames → Grows old new
grown_by old new frames is = (frames ∷ [], is ∙ ap (λ l. old ++ l) (sym (append-nil (frames_of frames))))

-- what always holds
pub on_ok : {T E : Type 0} (r : Result T E) (P : Type 0) → P → OnOk r P
on_ok (Ok _) P p = p
on_ok (Err _) P p = tt
