-- Steps of turns and parcels, and the end of a link, keep what waits in a book as its history tells.
use Rattle.fp_steps.proofs.Names.{AbortsTied, AllByRecursion, ByAge, Content, Done, Ending, Event, Given, GivesDone, GoesDown, Lined, List, LoggedStep, None, Option, Output, PicksParcel, Prepared, PutsTurnBack, QueuedFrame, Sends, Shelf, Some, Sorted, Sound, Step, TakesTurn, Tied, Turn, Waiting, [], abort_out, aborts, aborts_sent, aborts_waiting, ap, append_assoc, arith, as_waiting, cond, cond_both, count, count-cons, drop, drop_at, ending, false, false_from_ne_true, filter, filter-append, filter_agree, frame_octets, frames, frames_by, frames_in, is_down, is_ended, is_one, is_sending, is_some, is_waiting, known_turn, le-leb, length, length-append, local_of, map-append, map_list, named, nat_le, nat_tests, none-some, not, numbered, out, parcel_local, picked, queued, refl, requested_of, row_is_ready, subst, suc, sym, true, true≢false, waiting, waiting_frames, waiting_in, ℕ, ◌&&◌, ◌++◌, ◌+◌, ◌<◌, ◌||◌, ◌∙◌, ◌∷◌, ◌≡◌, ◌≤◌}
use Rattle.fp_row.specs.declared.requested.Requested.{Requested}
use Rattle.fp_steps.proofs.FramesInOrder.{Goes, all_numbered, bump, counted, first_goes, n_of, waits_by, zero_of}
use Rattle.fp_steps.proofs.HeldDialogues.{Held, event, held_at, held_of, none_named}
use Rattle.fp_steps.proofs.HeldFrames.{IsHeld, waiting_held}
use Rattle.fp_steps.proofs.QueueInOrder.{Joins, Order-next, cores_closed, cores_same, joins_none, joins_one, joins_same, cores_left, cores_put}
use Rattle.fp_steps.proofs.TieAtTurns.{queued_asked}

-- what a step owes
pub record Moves (h : List Event) (e : Event) (old new : Shelf) : Type 0 where
  pub down : is_down (e ∷ h) ≡ new.is_down
  pub frames : map_list (as_waiting (e ∷ h)) (waiting (e ∷ h)) ≡ new.outbox.frames
  pub few : (d : ℕ) → picked (e ∷ h) d ≤ length (queued (e ∷ h) d)
  pub joins : Joins h e old new

pub Lined-next : {h : List Event} {e : Event} {old new : Shelf} → Tied h old → Sound old → Tied (e ∷ h) new → Sound new → Moves h e old new → Lined (e ∷ h) new
Lined-next t k u m g = record { down = g.down; frames = g.frames; few = g.few; order = Order-next t k u m g.joins }

-- no more were picked than accepted, where none is picked
pub still_few : (h : List Event) (d n : ℕ) (xs : List (List ℕ)) → picked h d ≤ length (queued h d) → n ≡ picked h d → n ≤ length (queued h d ++ xs)
still_few h d n xs le is = omega (arith, le, is, length-append (queued h d) xs)

-- none is picked, and the link stays up or down
pub moves_to : {h : List Event} {e : Event} {old new : Shelf} → Lined h old → is_down (e ∷ h) ≡ is_down h → ((d : ℕ) → picked (e ∷ h) d ≡ picked h d) → new.is_down ≡ old.is_down
    → map_list (as_waiting (e ∷ h)) (waiting (e ∷ h)) ≡ new.outbox.frames → Joins h e old new → Moves h e old new
moves_to {h} {e} l down picks same frames joins =
    record { down = down ∙ l.down ∙ sym same; frames = frames; few = λ d. still_few h d (picked (e ∷ h) d) _ (l.few d) (picks d); joins = joins }

-- nothing moves
pub same_moves : {h : List Event} (e : Event) {old : Shelf} (new : Shelf) → Lined h old → new ≡ old → is_down (e ∷ h) ≡ is_down h
    → map_list (as_waiting (e ∷ h)) (waiting (e ∷ h)) ≡ map_list (as_waiting h) (waiting h) → ((d : ℕ) → picked (e ∷ h) d ≡ picked h d) → Moves h e old new
same_moves {h} e {old} new l same down frames picks =
    subst (Moves h e old) (sym same) (moves_to l down picks refl (frames ∙ l.frames) (joins_same refl l.order (cores_same old.rows)))

-- a turn is handed out
pub moves_took : {h : List Event} (step : Step) (came : Option Prepared) {old new : Shelf} {turn : Turn} → Lined h old → TakesTurn old turn new → Moves h (event step came (Output.Took turn.local turn.position (length turn.entries))) old new
moves_took {h} step came {old} {turn} l g =
    let e = event step came (Output.Took turn.local turn.position (length turn.entries)) in
    let order : Sorted (ByAge h) (turn.local ∷ g.rest) = subst (Sorted (ByAge h)) g.first l.order in
    subst (Moves h e old) (sym g.new_is) (moves_to l refl (λ d. refl) refl l.frames
    (joins_none g.rest refl (λ y c. omega (arith, ap (count y) g.first, count-cons y turn.local g.rest, c)) order.1
    (cores_put old.rows turn.local g.before g.after g.was (g.takes.same.birth, λ free. g.takes.stay.core))))

-- a turn goes back
pub moves_back : {h : List Event} (step : Step) (came : Option Prepared) {old new : Shelf} {turn : Turn} → Lined h old → Sound new → PutsTurnBack old turn new → Moves h (event step came Output.WentBack) old new
moves_back {h} step came {old} {turn} l m g =
    subst (λ (s : Shelf). Sound s → Moves h (event step came Output.WentBack) old s) (sym g.new_is)
    (λ m. moves_to l refl (λ d. refl) refl l.frames
    (joins_one turn.local (row_is_ready g.after) m refl (cores_left old.rows turn.local g.before g.after g.was (g.puts.same.birth, λ free. g.puts.stay.core)) l.order)) m

-- a turn that was served comes back

asked_live : (ended : Option Ending) (frames fs : List (List ℕ)) → requested_of ended frames ≡ Requested.Frames fs → ended ≡ None
asked_live None frames fs e = refl
asked_live (Some ending) [] fs e = absurd (cc)
asked_live (Some ending) (frame ∷ frames) fs e = absurd (cc)

-- its frames wait where its dialogue's go out
all_wait : (h : List Event) (l d place : ℕ) (frames : List (List ℕ)) → l ≡ local_of h d → is_sending h d ≡ true → picked h d ≤ place
    → map_list (as_waiting h) (filter (is_waiting h) (numbered d place frames)) ≡ waiting_frames l d frames
all_wait h l d place [] own sends few = refl
all_wait h l d place (frame ∷ frames) own sends few =
    let first : QueuedFrame = record { dialogue = d; place = place; frame = frame } in
    let rest = filter (is_waiting h) (numbered d (place + 1) frames) in
    let waits : is_waiting h first ≡ true = (λ i. sends i && nat_le (picked h d) place) ∙ le-leb (picked h d) place few in
    let before : ℕ → List Waiting → List Waiting = λ n others. record { local = n; birth = d; frame = frame } ∷ others in
    ap (λ b. map_list (as_waiting h) (cond b (first ∷ rest) rest)) waits ∙ (λ i. before (sym own i) (all_wait h l d (place + 1) frames own sends (omega (arith, few)) i))

more_wait : (h : List Event) (l d : ℕ) (asked : Requested) → l ≡ local_of h d → picked h d ≤ length (queued h d) → ((frames : List (List ℕ)) → asked ≡ Requested.Frames frames → is_sending h d ≡ true)
    → map_list (as_waiting h) (filter (is_waiting h) (numbered d (length (queued h d)) (frames_in asked))) ≡ waiting_in l d asked
more_wait h l d Requested.Nothing own few sends = refl
more_wait h l d (Requested.Dropped count) own few sends = refl
more_wait h l d (Requested.Frames frames) own few sends = all_wait h l d (length (queued h d)) frames own (sends frames refl) few

pub moves_gave : {h : List Event} (step : Step) (came : Option Prepared) {old new : Shelf} {done : Done} {given : Given} → Lined h old → Tied h old → Sound old → Sound new → GivesDone old done given new
    → Moves h (event step came (Output.Gave done.turn.local done.turn.position done.served given)) old new
moves_gave {h} step came {old} {done} {given} l t k m g =
    let lo = done.turn.local in let b = g.before.birth in
    let output = Output.Gave lo done.turn.position done.served given in
    let held : Held h lo b g.before = held_of lo g.before t g.was in
    let sends : (frames : List (List ℕ)) → g.asked ≡ Requested.Frames frames → is_sending h b ≡ true = λ frames is.
    let live : g.before.ended ≡ None = asked_live g.before.ended done.frames frames (sym g.gives.requested_is ∙ is) in
    let not_ended : is_ended h b ≡ false = ap is_some (held.tied.ends ∙ live) in
    let up : is_down h ≡ false = false_from_ne_true (is_down h) (λ down. none-some Ending.Closed (sym live ∙ (k.own lo g.before g.was).closed (sym l.down ∙ down))) in
    λ i. not (up i || not_ended i)
    in
    let more : map_list (as_waiting h) (filter (is_waiting h) (frames_by (named h lo) output h)) ≡ waiting_in lo b g.asked =
    ap (λ o. map_list (as_waiting h) (filter (is_waiting h) (frames_by o output h))) held.name
    ∙ ap (λ xs. map_list (as_waiting h) (filter (is_waiting h) (numbered b (length (queued h b)) xs))) (queued_asked t g)
    ∙ more_wait h lo b g.asked held.place (l.few b) sends in
    subst (λ (s : Shelf). Sound s → Moves h (event step came output) old s) (sym g.new_is)
    (λ m. moves_to l refl (λ d. refl) refl
    (ap (map_list (as_waiting h)) (filter-append (is_waiting h) (frames h) (frames_by (named h lo) output h))
    ∙ map-append (as_waiting h) (waiting h) (filter (is_waiting h) (frames_by (named h lo) output h))
    ∙ (λ i. l.frames i ++ more i)) (joins_one lo (row_is_ready g.after) m refl
    (cores_left old.rows lo g.before g.after g.was (g.gives.same.birth, λ free. absurd (true≢false (sym (known_turn g.before done.turn g.gives.was_out).is_out ∙ free)))) l.order)) m

-- what was being sent was
pub moves_sent : {h : List Event} (step : Step) (came : Option Prepared) {old : Shelf} (new : Shelf) (content : Content) → Lined h old → Sends old content new → Moves h (event step came Output.Sent) old new
moves_sent {h} step came {old} new (Content.Abort frame) l g =
    subst (Moves h (event step came Output.Sent) old) (sym g.new_is) (moves_to l refl (λ d. refl) refl l.frames (joins_same refl l.order (cores_same old.rows)))
moves_sent {h} step came {old} new (Content.Frame w) l g =
    subst (Moves h (event step came Output.Sent) old) (sym g.new_is)
    (moves_to l refl (λ d. refl) refl l.frames (joins_same refl l.order (cores_left old.rows w.local g.before g.after g.was (g.sends.same.birth, λ free. g.sends.core))))

-- the link goes down
pub moves_down : {h : List Event} (e : Event) {old new : Shelf} {out_then : Option Content} {logs : LoggedStep} → is_down (e ∷ h) ≡ true → waiting (e ∷ h) ≡ []
    → ((d : ℕ) → picked (e ∷ h) d ≡ picked h d) → Lined h old → GoesDown out_then old logs new → Moves h e old new
moves_down {h} e {old} {new} down none picks l g = record {
  down = down ∙ sym (ap (λ (s : Shelf). s.is_down) g.new_is);
  frames = ap (map_list (as_waiting (e ∷ h))) none ∙ sym (ap (λ (s : Shelf). s.outbox.frames) g.new_is);
  few = λ d. still_few h d (picked (e ∷ h) d) _ (l.few d) (picks d);
  joins = joins_none [] (ap (λ (s : Shelf). s.ready) g.new_is) (λ y c. absurd (omega (arith, c))) tt (cores_closed g);
}

-- a parcel is handed out

-- the first that waits
pub record First (h : List Event) (xs : List QueuedFrame) (w : Waiting) (rest : List Waiting) : Type 0 where
  pub first : QueuedFrame
  pub others : List QueuedFrame
  pub is : xs ≡ first ∷ others
  pub first_is : as_waiting h first ≡ w
  pub others_are : map_list (as_waiting h) others ≡ rest

pub first_of : (h : List Event) (xs : List QueuedFrame) (w : Waiting) (rest : List Waiting) → map_list (as_waiting h) xs ≡ w ∷ rest → First h xs w rest
first_of h [] w rest e = absurd (let clash : [] ≡ w ∷ rest = e in cc)
first_of h (x ∷ xs) w rest e =
    let f : as_waiting h x ∷ map_list (as_waiting h) xs ≡ w ∷ rest = e in
    record { first = x; others = xs; is = refl; first_is = (cc); others_are = (cc) }

-- it is of a dialogue that is held
pub first_named : {h : List Event} {s : Shelf} {w : Waiting} {rest : List Waiting} (f : First h (waiting h) w rest) → Tied h s → named h w.local ≡ Some f.first.dialogue
first_named {h} {s} f t =
    let all : AllByRecursion (λ (a : QueuedFrame). IsHeld h s a.dialogue) (f.first ∷ f.others) = subst (AllByRecursion (λ (a : QueuedFrame). IsHeld h s a.dialogue)) f.is (waiting_held t) in
    ap (named h) (sym (ap (λ (w : Waiting). w.local) f.first_is)) ∙ (held_at f.first.dialogue all.0.0 t all.0.1).name

-- one of a dialogue's frames is picked
abbrev picks : List Event → Option ℕ → ℕ → ℕ
picks h o c = cond (is_one o c) (suc (picked h c)) (picked h c)

few_after : (h : List Event) (d c : ℕ) → picked h c ≤ length (queued h c) → picked h d < zero_of d + n_of d (frames h) → bump d (picked h) c ≤ length (queued h c ++ [])
few_after h d c le lt = grind (arith, nat_tests, counted h c, length-append (queued h c) [])

pub moves_picked : {h : List Event} (step : Step) (came : Option Prepared) {old new : Shelf} (content : Content) (frame : List ℕ) → Lined h old → Tied h old → PicksParcel old content new
    → Moves h (event step came (Output.Picked (parcel_local content) frame)) old new
moves_picked {h} step came {old} (Content.Abort abort) frame l t g =
    let e = event step came (Output.Picked 0 frame) in
    let none : (c : ℕ) → picked (e ∷ h) c ≡ picked h c = λ c. ap (λ o. picks h o c) (none_named h t.opened) in
    subst (Moves h e old) (sym g.new_is) (record {
      down = l.down;
      frames = ap (map_list (as_waiting h)) (filter_agree (is_waiting (e ∷ h)) (is_waiting h) (λ a. ap (λ n. is_sending h a.dialogue && nat_le n a.place) (none a.dialogue)) (frames h))
          ∙ l.frames ∙ sym g.next.1;
      few = λ d. still_few h d (picked (e ∷ h) d) [] (l.few d) (none d);
      joins = joins_same refl l.order (cores_same old.rows);
    })
moves_picked {h} step came {old} (Content.Frame w) frame l t g =
    let e = event step came (Output.Picked w.local frame) in
    let f : First h (waiting h) w g.rest.frames = first_of h (waiting h) w g.rest.frames (l.frames ∙ g.next.2) in
    let d = f.first.dialogue in
    let one : (c : ℕ) → picked (e ∷ h) c ≡ bump d (picked h) c = λ c. ap (λ o. picks h o c) (first_named f t) in
    let goes : Goes (is_sending h) (picked h) zero_of (frames h) f.first f.others = first_goes (is_sending h) (picked h) zero_of (frames h) f.first f.others (all_numbered h) (λ c alive. omega arith) f.is in
    subst (Moves h e old) (sym g.new_is) (record {
      down = l.down;
      frames = ap (map_list (as_waiting h))
          (filter_agree (is_waiting (e ∷ h)) (waits_by (is_sending h) (bump d (picked h))) (λ a. ap (λ n. is_sending h a.dialogue && nat_le n a.place) (one a.dialogue)) (frames h) ∙ goes.left)
          ∙ f.others_are;
      few = λ c. subst (λ n. n ≤ length (queued h c ++ [])) (sym (one c)) (few_after h d c (l.few c) goes.within);
      joins = joins_same refl l.order (cores_same old.rows);
    })

-- the Aborts of the provider that wait

pub aborts_wait : {h : List Event} {s : Shelf} → Tied h s → Sound s → Lined h s → aborts_waiting h ≡ map_list frame_octets s.outbox.aborts
aborts_wait {h} {s} t k l =
    let a : AbortsTied h s = t.aborts_are in
    let front = aborts_sent h ++ abort_out (out h) in
    cond_both (is_down h) [] (drop (length front) (aborts h)) (λ xs. xs ≡ map_list frame_octets s.outbox.aborts)
    (λ down. sym (ap (map_list frame_octets) (k.quiet (sym l.down ∙ down)).0))
    (λ up. ap (drop (length front)) (sym (append_assoc (aborts_sent h) (abort_out (out h)) a.rest ∙ a.all)) ∙ drop_at front a.rest (length front) refl ∙ a.waiting (sym l.down ∙ up))
