-- How what waits in a book stands to the history of its run.
use Rattle.std.specs.Prelude.{◌≡◌, ℕ, ◌≤◌, false, List, [], ◌∷◌, Some, length, map, ⊤}
use Rattle.std.specs.List.{AllByRecursion}
use Rattle.fp_book.specs.declared.parcel.Waiting.{Waiting}
use Rattle.fp_book.specs.Shelf.{Shelf}
use Rattle.fp_steps.specs.Births.{local_of, named}
use Rattle.fp_steps.specs.History.{Event}
use Rattle.fp_steps.specs.Serials.{free}
use Rattle.fp_steps.specs.Sending.{queued}
use Rattle.fp_steps.specs.Turns.{IsReadyBefore}
use Rattle.fp_steps.specs.Waiting.{QueuedFrame, is_down, picked, waiting}

-- a frame, as it waits in a book
abbrev pub as_waiting : List Event → QueuedFrame → Waiting
as_waiting h a = record { local = local_of h a.dialogue; birth = a.dialogue; frame = a.frame }

-- each stands before those after it
abbrev pub Sorted : (ℕ → ℕ → Type 0) → List ℕ → Type 0
Sorted R [] = ⊤
Sorted R (x ∷ xs) = AllByRecursion (R x) xs × Sorted R xs

-- so the dialogues with these identifiers were ready, one before the other
abbrev pub ByAge : List Event → ℕ → ℕ → Type 0
ByAge h x y = (c d : ℕ) → named h x ≡ Some c → named h y ≡ Some d → IsReadyBefore h c d

-- the serials that may be given are those of the history; none is given any more while the link is down
abbrev pub Freed : List Event → Shelf → Type 0
Freed h s = s.is_down ≡ false → free h ≡ s.free

pub record Lined (h : List Event) (s : Shelf) : Type 0 where
  pub down : is_down h ≡ s.is_down
  -- the frames that wait are those of the history, in their order
  pub frames : map (as_waiting h) (waiting h) ≡ s.outbox.frames
  pub few : (d : ℕ) → picked h d ≤ length (queued h d)
  -- the dialogues that are ready stand in the order in which they became so
  pub order : Sorted (ByAge h) s.ready
