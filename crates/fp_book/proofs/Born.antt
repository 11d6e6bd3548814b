-- The births of the frames that wait to be sent.
use Rattle.fp_book.proofs.Names.{AreBorn, Bool, Content, List, None, Option, Outbox, Requested, Some, Waiting, [], ap, being_sent, cond, eq-eqb, eqb, eqb-true, false, false≢true, frame_out, frames_for, refl, subst, sym, true, unsent_for, unsent_frames, waiting_frames, waiting_in, ℕ, ◌++◌, ◌∙◌, ◌∷◌, ◌≡◌}
use Rattle.fp_book.proofs.Unsent.{first_own, frames_for-append, others, others_by}
use Rattle.fp_book.specs.declared.parcel.Content.TheVariants as content
use Rattle.fp_row.specs.declared.requested.Requested.TheVariants as requested

-- frames come after others
pub born_append : (d birth : ℕ) (xs ys : List Waiting) → AreBorn d birth xs → AreBorn d birth ys → AreBorn d birth (xs ++ ys)
born_append d birth [] ys these those = those
born_append d birth (x ∷ xs) ys these those = (these.0, born_append d birth xs ys these.1 those)

-- the frames of a dialogue have its birth
born_own : (d birth : ℕ) (frames : List (List ℕ)) → AreBorn d birth (waiting_frames d birth frames)
born_own d birth [] = tt
born_own d birth (frame ∷ frames) = (λ _. refl, born_own d birth frames)

-- and those of another dialogue are none of this one
born_other : (d l birth other : ℕ) (frames : List (List ℕ)) → eqb d l ≡ false → AreBorn d birth (waiting_frames l other frames)
born_other d l birth other [] ne = tt
born_other d l birth other (frame ∷ frames) ne = (λ e. absurd (false≢true (sym ne ∙ eq-eqb d l (sym e))), born_other d l birth other frames ne)

-- so it is with what a turn requests
pub asked_own : (d birth : ℕ) (asked : Requested) → AreBorn d birth (waiting_in d birth asked)
asked_own d birth requested.Nothing = tt
asked_own d birth (requested.Frames frames) = born_own d birth frames
asked_own d birth (requested.Dropped count) = tt

pub asked_other : (d l birth other : ℕ) (asked : Requested) → eqb d l ≡ false → AreBorn d birth (waiting_in l other asked)
asked_other d l birth other requested.Nothing ne = tt
asked_other d l birth other (requested.Frames frames) ne = born_other d l birth other frames ne
asked_other d l birth other (requested.Dropped count) ne = tt

-- those of a dialogue are dropped
fewer_by : (d birth l : ℕ) (w : Waiting) (ws : List Waiting) (b : Bool) → AreBorn d birth (w ∷ ws) → AreBorn d birth (others l ws) → AreBorn d birth (cond b (others l ws) (w ∷ others l ws))
fewer_by d birth l w ws true all rest = rest
fewer_by d birth l w ws false all rest = (all.0, rest)

pub born_fewer : (d birth l : ℕ) (ws : List Waiting) → AreBorn d birth ws → AreBorn d birth (others l ws)
born_fewer d birth l [] all = tt
born_fewer d birth l (w ∷ ws) all =
    subst (AreBorn d birth) (sym (others_by l w ws (eqb w.local l) refl)) (fewer_by d birth l w ws (eqb w.local l) all (born_fewer d birth l ws all.1))

-- the others after some
pub born_back : (d birth : ℕ) (xs ys : List Waiting) → AreBorn d birth (xs ++ ys) → AreBorn d birth ys
born_back d birth [] ys all = all
born_back d birth (x ∷ xs) ys all = born_back d birth xs ys all.1

pub born_front : (d birth : ℕ) (xs ys : List Waiting) → AreBorn d birth (xs ++ ys) → AreBorn d birth xs
born_front d birth [] ys all = tt
born_front d birth (x ∷ xs) ys all = (all.0, born_front d birth xs ys all.1)

none_by : (d birth : ℕ) (w : Waiting) (ws : List Waiting) (b : Bool) → eqb w.local d ≡ b → frames_for d (w ∷ ws) ≡ [] → (frames_for d ws ≡ [] → AreBorn d birth ws) → AreBorn d birth (w ∷ ws)
none_by d birth w ws true is none rest = absurd (let clash : w.frame ∷ frames_for d ws ≡ [] = sym (first_own d w ws (eqb-true w.local d is)) ∙ none in cc)
none_by d birth w ws false is none rest = (λ e. absurd (false≢true (sym is ∙ eq-eqb w.local d e)), rest (sym (ap (λ b. cond b (w.frame ∷ []) [] ++ frames_for d ws) is) ∙ none))

-- where no frame is of a dialogue, those that are have whatever birth
pub born_none : (d birth : ℕ) (ws : List Waiting) → frames_for d ws ≡ [] → AreBorn d birth ws
born_none d birth [] none = tt
born_none d birth (w ∷ ws) none =
    none_by d birth w ws (eqb w.local d) refl none (λ e. born_none d birth ws e)

-- no frame of a dialogue is to be sent
out_as : (d : ℕ) (out : Option Content) → frame_out d out ≡ frames_for d (being_sent out)
out_as d None = refl
out_as d (Some (content.Abort frame)) = refl
out_as d (Some (content.Frame w)) = refl

pub none_unsent : (d : ℕ) (outbox : Outbox) → unsent_for d outbox ≡ [] → frames_for d (unsent_frames outbox) ≡ []
none_unsent d outbox none = frames_for-append d (being_sent outbox.out) outbox.frames ∙ ap (λ r. r ++ frames_for d outbox.frames) (sym (out_as d outbox.out)) ∙ none
