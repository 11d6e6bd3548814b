-- Where dialogues are ended: what of one of them is dropped, and how all of them are closed.
use Rattle.fp_book.proofs.Names.{AreTimed, Bool, ClosesAt, Content, Dropped, Drops, Ending, Ends, Entry, Extends, List, None, Option, Outbox, Row, SendsOne, Shelf, Some, Sound, Waiting, [], ap, arith, cond, deadline_at, drops_frames, eqb, false, false≢true, frame_out, frames_for, is_frame_of, is_sent, dialogue_out, is_ready, is_unsent, kept_of, length, length-append, ltb-false, min, nat_cmp, nat_lt, nil_from_length, one_if, refl, sending, sent_of, subst, sym, true, unsent_for, without, without_frames_of, ℕ, ◌&&◌, ◌++◌, ◌+◌, ◌∙◌, ◌∷◌, ◌≡◌, ◌≤◌}
use Rattle.std.specs.FinMap as map
use Rattle.fp_book.proofs.Changes.{count}
use Rattle.fp_book.proofs.Kept.{deadline_left}
use Rattle.fp_book.proofs.Sums.{Rows}
use Rattle.fp_row.specs.Calls as calls
use Rattle.fp_book.specs.declared.parcel.Content.TheVariants as content
use Rattle.fp_book.proofs.Extends.{kept_count, sending_count, sent_count}
use Rattle.fp_book.proofs.Queue.{count-cons, without_by}
use Rattle.fp_book.proofs.Turns.{frames_at, ready_at}
use Rattle.fp_book.proofs.Unsent.{others, others_by}

-- if a frame is kept that wasn't sent, one more is sent
pub one_sent : (answer : Bool) (before after : Row) (there : Option Row) → there ≡ Some before → is_unsent there ≡ true → calls.Sends answer before after → SendsOne before after
one_sent true before after there was unsent sends = sends
one_sent false before after there was unsent sends = absurd (false≢true (sym sends.0 ∙ ap is_unsent (sym was) ∙ unsent))

-- a frame of the dialogue of which one is being sent is being sent
pub sent_is : (out : Option Content) (local : ℕ) → is_sent (dialogue_out out) local ≡ is_frame_of local out
sent_is None local = refl
sent_is (Some (content.Abort frame)) local = refl
sent_is (Some (content.Frame waiting)) local = refl

-- a dialogue that was closed has no deadline
untimed : (sends : Bool) (o left : Option Row) → ClosesAt sends o left → deadline_at left ≡ None
untimed sends None left closes = ap deadline_at closes
untimed sends (Some row) left closes = ap deadline_at closes.left_is ∙ deadline_left closes.after ∙ closes.ends.deadline

-- so where all were closed there is none
pub all_untimed : (out : Option Content) (old new : Rows) → ((q : ℕ) → ClosesAt (is_frame_of q out) (map.get old q) (map.get new q)) → AreTimed map.empty new
all_untimed out old new closes q = map.get-empty nat_cmp q ∙ sym (untimed (is_frame_of q out) (map.get old q) (map.get new q) (closes q))

dropped_by : (l : ℕ) (w : Waiting) (ws : List Waiting) (b : Bool) → eqb w.local l ≡ b → (frames_for l ws ≡ [] → others l ws ≡ ws) → frames_for l (w ∷ ws) ≡ []
    → cond b (others l ws) (w ∷ others l ws) ≡ w ∷ ws
dropped_by l w ws true is rest none = absurd (let clash : w.frame ∷ frames_for l ws ≡ [] = sym (ap (λ b. cond b (w.frame ∷ []) [] ++ frames_for l ws) is) ∙ none in cc)
dropped_by l w ws false is rest none = ap (λ r. w ∷ r) (rest (sym (ap (λ b. cond b (w.frame ∷ []) [] ++ frames_for l ws) is) ∙ none))

-- if no frame of a dialogue waits none is dropped
none_dropped : (l : ℕ) (ws : List Waiting) → frames_for l ws ≡ [] → others l ws ≡ ws
none_dropped l [] none = refl
none_dropped l (w ∷ ws) none = others_by l w ws (eqb w.local l) refl ∙ dropped_by l w ws (eqb w.local l) refl (none_dropped l ws) none

-- no frame of a dialogue waits if ending it drops none
pub nothing_to_drop : (s : Shelf) (local : ℕ) (row : Row) → sent_of row ++ unsent_for local s.outbox ≡ kept_of row
    → nat_lt (min row.kept (row.sent + sending (is_frame_of local s.outbox.out))) row.kept ≡ false → others local s.outbox.frames ≡ s.outbox.frames
nothing_to_drop s local row all none =
    let few : row.kept ≤ row.sent + sending (is_frame_of local s.outbox.out) = omega (arith, ltb-false (min row.kept (row.sent + sending (is_frame_of local s.outbox.out))) row.kept none) in
    let parts : length (sent_of row) + (length (frame_out local s.outbox.out) + length (frames_for local s.outbox.frames)) ≡ row.kept =
    ap (λ n. length (sent_of row) + n) (sym (length-append (frame_out local s.outbox.out) (frames_for local s.outbox.frames)))
    ∙ sym (length-append (sent_of row) (unsent_for local s.outbox)) ∙ ap length all ∙ kept_count row in
    none_dropped local s.outbox.frames (nil_from_length (frames_for local s.outbox.frames) (omega (arith, few, parts, sent_count row, sending_count local s.outbox.out)))

leaves_by : (l x : ℕ) (xs : List ℕ) (b : Bool) → eqb x l ≡ b → (count l xs ≡ 0 → without l xs ≡ xs) → count l (x ∷ xs) ≡ 0 → cond b (without l xs) (x ∷ without l xs) ≡ x ∷ xs
leaves_by l x xs true is rest none = absurd (let here : count l (x ∷ xs) ≡ 1 + count l xs = count-cons l x xs ∙ ap (λ b. one_if b + count l xs) is in omega (arith, here, none))
leaves_by l x xs false is rest none =
    let here : count l (x ∷ xs) ≡ 0 + count l xs = count-cons l x xs ∙ ap (λ b. one_if b + count l xs) is in
    ap (λ r. x ∷ r) (rest (omega (arith, here, none)))

-- one that isn't in the queue doesn't leave it
pub none_leaves : (l : ℕ) (xs : List ℕ) → count l xs ≡ 0 → without l xs ≡ xs
none_leaves l [] none = refl
none_leaves l (x ∷ xs) none = without_by l x xs (eqb x l) refl ∙ leaves_by l x xs (eqb x l) refl (none_leaves l xs) none

-- so to drop its frames only if ending it drops one is to drop them
pub drops_by : (s : Shelf) (local : ℕ) (row : Row) (drops : Bool) → sent_of row ++ unsent_for local s.outbox ≡ kept_of row
    → drops ≡ nat_lt (min row.kept (row.sent + sending (is_frame_of local s.outbox.out))) row.kept → cond drops (without_frames_of local s.outbox) s.outbox ≡ without_frames_of local s.outbox
drops_by s local row true all is = refl
drops_by s local row false all is = sym (ap (λ (frames : List Waiting). record s.outbox { frames = frames }) (nothing_to_drop s local row all (sym is)))

-- and so it is for its place in the queue
pub leaves_by_ready : (l : ℕ) (xs : List ℕ) (was_ready : Bool) → count l xs ≡ one_if was_ready → cond was_ready (without l xs) xs ≡ without l xs
leaves_by_ready l xs true is = refl
leaves_by_ready l xs false is = sym (none_leaves l xs is)

-- if it isn't ended none is dropped
pub drops_as : (s : Shelf) (local : ℕ) (row : Row) (is_ended drops : Bool) → sent_of row ++ unsent_for local s.outbox ≡ kept_of row
    → drops ≡ (is_ended && drops_frames row (is_frame_of local s.outbox.out))
    → cond drops (without_frames_of local s.outbox) s.outbox ≡ cond is_ended (without_frames_of local s.outbox) s.outbox
drops_as s local row true drops all is = drops_by s local row drops all is
drops_as s local row false drops all is = ap (λ b. cond b (without_frames_of local s.outbox) s.outbox) is

same_row : (o : Option Row) (before row : Row) → o ≡ Some before → o ≡ Some row → before ≡ row
same_row o before row was is = let two : Some before ≡ Some row = sym was ∙ is in cc

-- a dialogue that is ended drops as many as aren't kept any longer
pub drops_ended : (ending : Ending) (sends : Bool) (before extended after : Row) (entries : List Entry) (drops : Bool) → Extends before entries extended → Ends ending sends extended after
    → drops ≡ nat_lt after.kept extended.kept → drops ≡ drops_frames before sends
drops_ended ending sends before extended after entries drops more ends is =
    is ∙ ap (λ n. nat_lt n extended.kept) ends.kept ∙ ap (λ n. nat_lt (min n (extended.sent + sending sends)) n) more.stay.kept ∙ ap (λ n. nat_lt (min before.kept (n + sending sends)) before.kept) more.stay.sent

-- so it is with the dialogue that there was
pub drops_of : (o : Option Row) (before : Row) (is_ended sends drops : Bool) → o ≡ Some before → drops ≡ (is_ended && drops_frames before sends) → (row : Row) → o ≡ Some row
    → drops ≡ (is_ended && drops_frames row sends)
drops_of o before is_ended sends drops was is row there = subst (λ r. drops ≡ (is_ended && drops_frames r sends)) (same_row o before row was there) is

pub dropped_at : (o : Option Row) (ending : Ending) (sends : Bool) (before after : Row) (dropped : Dropped) → o ≡ Some before → Ends ending sends before after
    → dropped.was_ready ≡ is_ready before → dropped.frames ≡ nat_lt after.kept before.kept → (row : Row) → o ≡ Some row → Drops row sends dropped
dropped_at o ending sends before after dropped was ends ready is row there =
    subst (λ r. Drops r sends dropped) (same_row o before row was there)
    (record { was_ready = ready; frames = is ∙ ap (λ n. nat_lt n before.kept) ends.kept })

-- a dialogue that is closed has left the queue
pub left_queue : (s : Shelf) (local : ℕ) (row : Row) (sends : Bool) (dropped : Dropped) (queue : List ℕ) → Sound s → map.get s.rows local ≡ Some row → Drops row sends dropped
    → queue ≡ cond dropped.was_ready (without local s.ready) s.ready → queue ≡ without local s.ready
left_queue s local row sends dropped queue k was is then =
    then ∙ leaves_by_ready local s.ready dropped.was_ready (ready_at s local (Some row) k was ∙ ap one_if (sym is.was_ready))

-- and none of its frames waits
pub left_outbox : (s : Shelf) (local : ℕ) (row : Row) (sends : Bool) (dropped : Dropped) (outbox : Outbox) → Sound s → map.get s.rows local ≡ Some row → Drops row sends dropped
    → sends ≡ is_frame_of local s.outbox.out → outbox ≡ cond dropped.frames (without_frames_of local s.outbox) s.outbox → outbox ≡ without_frames_of local s.outbox
left_outbox s local row sends dropped outbox k was is sending_is then =
    then ∙ drops_by s local row dropped.frames (frames_at s local (Some row) k was) (is.frames ∙ ap (drops_frames row) sending_is)
