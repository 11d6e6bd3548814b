-- A frame that waits is of a dialogue that is held: of one that is gone all were sent, or it was ended.
use Rattle.fp_steps.proofs.Names.{AllByRecursion, Bool, Ending, Event, Handed, IsPrefix, List, None, Option, Output, QueuedFrame, Row, Shelf, Some, Tied, TiedAt, [], and_parts, ap, arith, asked, births, by_local, cond_both, ending, eq-eqb, eqb, eqb-false, false, false≢true, filter, for_one, frame_for, frames, is_down, is_one, is_sending, is_some, is_waiting, leb-true, length, length-append, local_of, named, nat_le, nat_tests, ne_eqb, not, one_if, option_map_or, out, out_after, picked, picked_after, queued, refl, row_at, same_Some, sent, sent_in, story, sym, true, waiting, ℕ, ◌++◌, ◌+◌, ◌<◌, ◌||◌, ◌∙◌, ◌∷◌, ◌≡◌, ◌≤◌}
use Rattle.fp_steps.proofs.FramesInOrder.{Numbered, all_numbered, bump, counted, n_of, n_of_more, zero_of}
use Rattle.fp_steps.proofs.HeldDialogues.{by_option, held_at}

-- WHAT WAS PICKED

-- whether a frame of a dialogue is out
abbrev pub out_of : ℕ → Option Handed → Bool
out_of d o = option_map_or (λ (handed : Handed). is_one handed.dialogue d) o false

one_frame : (o : Option ℕ) (d : ℕ) (frame : List ℕ) → length (for_one o d (frame ∷ [])) ≡ one_if (is_one o d)
one_frame None d frame = refl
one_frame (Some c) d frame = grind (arith, nat_tests)

frame_count : (o : Option Handed) (d : ℕ) → length (frame_for o d) ≡ one_if (out_of d o)
frame_count None d = refl
frame_count (Some handed) d = one_frame handed.dialogue d handed.octets

picked_by : (h : List Event) (d : ℕ) (output : Output) (o : Option Handed) (n : ℕ) → out h ≡ o → length (sent h d) + one_if (out_of d o) ≤ n
    → length (sent h d ++ sent_in output h d) + one_if (out_of d (out_after output h o)) ≤ picked_after output h d n
picked_by h d (Output.Picked l frame) o n is le = grind (arith, nat_tests, length-append (sent h d) [])
picked_by h d Output.Sent o n is le =
    let sends : length (frame_for (out h) d) ≡ one_if (out_of d o) = ap (λ o. length (frame_for o d)) is ∙ frame_count o d in
    omega (arith, le, sends, length-append (sent h d) (frame_for (out h) d))
picked_by h d output o n is le = omega (arith, le, length-append (sent h d) [])

-- those that were sent, and one that is out, were picked
picked_first : (h : List Event) (d : ℕ) → length (sent h d) + one_if (out_of d (out h)) ≤ picked h d
picked_first [] d = omega arith
picked_first (e ∷ h) d = picked_by h d e.output (out h) (picked h d) refl (picked_first h d)

-- WHAT WAITS

-- each frame has its place among those that were accepted for sending
within : (f g : ℕ → ℕ) (xs : List QueuedFrame) → Numbered f xs → ((d : ℕ) → f d + n_of d xs ≡ g d) → AllByRecursion (λ (a : QueuedFrame). a.place < g a.dialogue) xs
within f g [] n all = tt
within f g (a ∷ xs) n all =
    let place : a.place ≡ f a.dialogue = n.0 in
    (grind (arith, nat_tests, place, all a.dialogue), within (bump a.dialogue f) g xs n.1 (λ d. n_of_more d f a xs ∙ all d))

-- the book holds this dialogue
abbrev pub IsHeld : List Event → Shelf → ℕ → Type 0
IsHeld h s d = (row : Row) × (row_at h s d ≡ Some row)

live_by : (down : Bool) (ended : Option Ending) → not (down || is_some ended) ≡ true → ended ≡ None
live_by down None is = refl
live_by true (Some x) is = absurd (false≢true is)
live_by false (Some x) is = absurd (false≢true is)

held_where : {h : List Event} {s : Shelf} (a : QueuedFrame) → Tied h s → a.place < length (queued h a.dialogue) → is_waiting h a ≡ true → IsHeld h s a.dialogue
held_where {h} {s} a t there waits =
    let d = a.dialogue in
    let parts = and_parts (is_sending h d) (nat_le (picked h d) a.place) waits in
    by_option (λ o. TiedAt (births h) d (story h d) o → (row : Row) × (o ≡ Some row)) (row_at h s d)
    (λ none gone.
    let all : sent h d ≡ asked h d = gone.all_sent (live_by (is_down h) (ending h d) parts.0) in
    let first : IsPrefix (queued h d) (asked h d) = gone.straight.queued_first in
    let next : picked h d ≤ a.place = leb-true (picked h d) a.place parts.1 in
    absurd (omega (arith, there, next, picked_first h d, ap length all, ap length first.1, length-append (queued h d) first.0)))
    (λ row is k. (row, refl)) (t.rows d)

-- those of a list that pass
passing : (P : QueuedFrame → Type 0) (p : QueuedFrame → Bool) (f : (a : QueuedFrame) → Type 0) (xs : List QueuedFrame) → ((a : QueuedFrame) → f a → p a ≡ true → P a) → AllByRecursion f xs → AllByRecursion P (filter p xs)
passing P p f [] so all = tt
passing P p f (a ∷ xs) so all = cond_both (p a) (a ∷ filter p xs) (filter p xs) (AllByRecursion P) (λ e. (so a all.0 e, passing P p f xs so all.1)) (λ e. passing P p f xs so all.1)

pub waiting_held : {h : List Event} {s : Shelf} → Tied h s → AllByRecursion (λ (a : QueuedFrame). IsHeld h s a.dialogue) (waiting h)
waiting_held {h} {s} t = passing (λ (a : QueuedFrame). IsHeld h s a.dialogue) (is_waiting h) (λ (a : QueuedFrame). a.place < length (queued h a.dialogue)) (frames h) (λ a. held_where a t)
    (within zero_of (λ d. length (queued h d)) (frames h) (all_numbered h) (λ d. omega (arith, counted h d)))

-- a dialogue that is held has the identifier of another one that is only if it is that
one_named : {h : List Event} {s : Shelf} (local d c : ℕ) → Tied h s → named h local ≡ Some d → IsHeld h s c → eqb (local_of h c) local ≡ eqb c d
one_named {h} local d c t name is =
    let place : local ≡ local_of h d = (t.opened.names local d name).0 in
    by_local c d (λ c. eqb (local_of h c) local ≡ eqb c d) (eq-eqb (local_of h d) local (sym place) ∙ sym (eq-eqb d d refl))
    (λ ne. ne_eqb (local_of h c) local (λ same. eqb-false c d ne (same_Some c d (sym (held_at c is.0 t is.1).name ∙ ap (named h) same ∙ name))) ∙ sym ne)

each : (P R : QueuedFrame → Type 0) (xs : List QueuedFrame) → ((a : QueuedFrame) → P a → R a) → AllByRecursion P xs → AllByRecursion R xs
each P R [] so all = tt
each P R (a ∷ xs) so all = (so a all.0, each P R xs so all.1)

-- so the frames of a dialogue that wait are those under its identifier
pub waiting_named : {h : List Event} {s : Shelf} (local d : ℕ) → Tied h s → named h local ≡ Some d → AllByRecursion (λ (a : QueuedFrame). eqb (local_of h a.dialogue) local ≡ eqb a.dialogue d) (waiting h)
waiting_named {h} {s} local d t name = each (λ (a : QueuedFrame). IsHeld h s a.dialogue) (λ (a : QueuedFrame). eqb (local_of h a.dialogue) local ≡ eqb a.dialogue d) (waiting h) (λ a is. one_named local d a.dialogue t name is) (waiting_held t)
