-- The frames of one dialogue among those that wait to be sent.
use Rattle.fp_book.proofs.Names.{Bool, List, Requested, Waiting, [], ap, arith, cond, count_by-le-length, eq-eqb, eqb, eqb-true, false, filter, flat_map-append, frames_for, frames_in, is_of_other, length, length-filter, length-map, not, refl, sym, true, waiting_frames, waiting_in, ℕ, ◌++◌, ◌∙◌, ◌∷◌, ◌≡◌, ◌≤◌}
use Rattle.fp_book.proofs.Queue.{eqb_swap}
use Rattle.fp_row.specs.declared.requested.Requested.TheVariants as requested

pub frames_for-append : (d : ℕ) (xs ys : List Waiting) → frames_for d (xs ++ ys) ≡ frames_for d xs ++ frames_for d ys
frames_for-append d xs ys = flat_map-append (λ (w : Waiting). cond (eqb w.local d) (w.frame ∷ []) []) xs ys

-- the first is of this dialogue, or of another
pub first_own : (d : ℕ) (w : Waiting) (ws : List Waiting) → w.local ≡ d → frames_for d (w ∷ ws) ≡ w.frame ∷ frames_for d ws
first_own d w ws is = ap (λ b. cond b (w.frame ∷ []) [] ++ frames_for d ws) (eq-eqb w.local d is)

pub first_other : (d : ℕ) (w : Waiting) (ws : List Waiting) → eqb d w.local ≡ false → frames_for d (w ∷ ws) ≡ frames_for d ws
first_other d w ws ne = ap (λ b. cond b (w.frame ∷ []) [] ++ frames_for d ws) (eqb_swap d w.local ne)

-- frames of a dialogue are all of it
abbrev pub waiting_as : ℕ → ℕ → List ℕ → Waiting
waiting_as local birth frame = record { local = local; birth = birth; frame = frame }

all_own : (d birth : ℕ) (frames : List (List ℕ)) → frames_for d (waiting_frames d birth frames) ≡ frames
all_own d birth [] = refl
all_own d birth (frame ∷ frames) = first_own d (waiting_as d birth frame) (waiting_frames d birth frames) refl ∙ ap (λ r. frame ∷ r) (all_own d birth frames)

all_other : (d l birth : ℕ) (frames : List (List ℕ)) → eqb d l ≡ false → frames_for d (waiting_frames l birth frames) ≡ []
all_other d l birth [] ne = refl
all_other d l birth (frame ∷ frames) ne = first_other d (waiting_as l birth frame) (waiting_frames l birth frames) ne ∙ all_other d l birth frames ne

-- what a turn requests
pub requested_own : (d birth : ℕ) (asked : Requested) → frames_for d (waiting_in d birth asked) ≡ frames_in asked
requested_own d birth requested.Nothing = refl
requested_own d birth (requested.Frames frames) = all_own d birth frames
requested_own d birth (requested.Dropped count) = refl

pub requested_other : (d l birth : ℕ) (asked : Requested) → eqb d l ≡ false → frames_for d (waiting_in l birth asked) ≡ []
requested_other d l birth requested.Nothing ne = refl
requested_other d l birth (requested.Frames frames) ne = all_other d l birth frames ne
requested_other d l birth (requested.Dropped count) ne = refl

pub requested_count : (l birth : ℕ) (asked : Requested) → length (waiting_in l birth asked) ≡ length (frames_in asked)
requested_count l birth requested.Nothing = refl
requested_count l birth (requested.Frames frames) = length-map frames (waiting_as l birth)
requested_count l birth (requested.Dropped count) = refl

-- what is left once the frames of a dialogue are dropped
abbrev pub others : ℕ → List Waiting → List Waiting
others l frames = filter (is_of_other l) frames

pub others_by : (l : ℕ) (w : Waiting) (ws : List Waiting) (b : Bool) → eqb w.local l ≡ b → others l (w ∷ ws) ≡ cond b (others l ws) (w ∷ others l ws)
others_by l w ws true is = ap (λ b. cond (not b) (w ∷ others l ws) (others l ws)) is
others_by l w ws false is = ap (λ b. cond (not b) (w ∷ others l ws) (others l ws)) is

own_by : (l : ℕ) (w : Waiting) (ws : List Waiting) (b : Bool) → eqb w.local l ≡ b → frames_for l (others l ws) ≡ [] → frames_for l (cond b (others l ws) (w ∷ others l ws)) ≡ []
own_by l w ws true is none = none
own_by l w ws false is none = ap (λ b. cond b (w.frame ∷ []) [] ++ frames_for l (others l ws)) is ∙ none

pub dropped_own : (l : ℕ) (ws : List Waiting) → frames_for l (others l ws) ≡ []
dropped_own l [] = refl
dropped_own l (w ∷ ws) = ap (frames_for l) (others_by l w ws (eqb w.local l) refl) ∙ own_by l w ws (eqb w.local l) refl (dropped_own l ws)

other_by : (d l : ℕ) (w : Waiting) (ws : List Waiting) (b : Bool) → eqb d l ≡ false → eqb w.local l ≡ b → frames_for d (others l ws) ≡ frames_for d ws
    → frames_for d (cond b (others l ws) (w ∷ others l ws)) ≡ frames_for d (w ∷ ws)
other_by d l w ws true ne is same = same ∙ sym (first_other d w ws (ap (eqb d) (eqb-true w.local l is) ∙ ne))
other_by d l w ws false ne is same = ap (λ r. cond (eqb w.local d) (w.frame ∷ []) [] ++ r) same

pub dropped_other : (d l : ℕ) (ws : List Waiting) → eqb d l ≡ false → frames_for d (others l ws) ≡ frames_for d ws
dropped_other d l [] ne = refl
dropped_other d l (w ∷ ws) ne = ap (frames_for d) (others_by l w ws (eqb w.local l) refl) ∙ other_by d l w ws (eqb w.local l) ne refl (dropped_other d l ws ne)

pub fewer : (l : ℕ) (ws : List Waiting) → length (others l ws) ≤ length ws
fewer l ws = omega (arith, length-filter (is_of_other l) ws, count_by-le-length (is_of_other l) ws)
