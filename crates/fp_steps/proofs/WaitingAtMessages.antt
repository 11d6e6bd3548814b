-- A message keeps what waits in a book as its history tells.
use Rattle.fp_steps.proofs.Names.{AbortCause, AbortFrame, AllByRecursion, Answers, Beginning, Bool, ClosesOne, Discards, Ending, EndsDialogue, Event, ExtendsDialogue, Follows, Lined, List, LoggedStep, None, OpensDialogue, Option, Output, Posted, Prepared, QueuedFrame, Row, Shelf, Some, Sound, Step, Story, Tells, Tid, Tied, Verdict, Waiting, [], abort_for, ap, arith, arrival_of, as_waiting, base, began_with, beginning, beginning_after, births, book_logged as logged, cond, ending, ending_at, ending_by, entries_in, eqb, false, filter, filter_agree, frames, get, identifier, is_down, is_ending, is_of_other, is_sending, is_some, is_waiting, length, local_of, map_list, named_in, nat_le, nat_tests, not, opened_in, picked, posted_line, refl, row_is_ready, sender_of, subst, sym, true, waiting, ℕ, ⊎_elim, ◌&&◌, ◌++◌, ◌+◌, ◌||◌, ◌∙◌, ◌∷◌, ◌≡◌}
use Rattle.fp_steps.proofs.FramesInOrder.{counted, n_of, waits_by}
use Rattle.fp_steps.proofs.HeldDialogues.{eqb_swap}
use Rattle.fp_steps.proofs.HeldFrames.{waiting_named}
use Rattle.fp_steps.proofs.QueueInOrder.{cores_new, cores_same, joins_one, joins_same, joins_without, cores_left, cores_put}
use Rattle.fp_steps.proofs.TieAtMessages.{names_only, names_taker, none_named_takes, posts, unended}
use Rattle.fp_steps.proofs.TokensKept.{fresh_at}
use Rattle.fp_steps.proofs.WaitingAtSteps.{Moves, moves_to}

-- the frames of a dialogue that was ended are dropped, and the others stay

without_one : (b : ℕ) (sends : ℕ → Bool) (k : ℕ → ℕ) (fs : List QueuedFrame) → filter (waits_by (λ c. sends c && not (eqb c b)) k) fs ≡ filter (λ (a : QueuedFrame). not (eqb a.dialogue b)) (filter (waits_by sends k) fs)
without_one b sends k [] = refl
without_one b sends k (a ∷ fs) = grind (arith, nat_tests, without_one b sends k fs)

drops_one : (h : List Event) (n b : ℕ) (xs : List QueuedFrame) → AllByRecursion (λ (a : QueuedFrame). eqb (local_of h a.dialogue) n ≡ eqb a.dialogue b) xs
    → map_list (as_waiting h) (filter (λ (a : QueuedFrame). not (eqb a.dialogue b)) xs) ≡ filter (is_of_other n) (map_list (as_waiting h) xs)
drops_one h n b [] all = refl
drops_one h n b (a ∷ xs) (same, all) = grind (arith, nat_tests, same, drops_one h n b xs all)

-- a dialogue's frames go out no longer where it was ended
sends_then : (down t : Bool) (before : Option Ending) (x : Ending) → not (down || is_some (cond t (Some x) before)) ≡ (not (down || is_some before) && not t)
sends_then down t before x = grind (arith, nat_tests)

-- no dialogue is ended
quiet_frames : (h : List Event) (step : Step) (came : Prepared) (answer : Posted) (components : ℕ)
    → ((d : ℕ) → ending_at (ending_by answer (Some came)) (names_taker h came d) (ending h d) ≡ ending h d)
    → waiting (posts step came answer components ∷ h) ≡ waiting h
quiet_frames h step came answer components same =
    filter_agree (is_waiting (posts step came answer components ∷ h)) (is_waiting h) (λ a. ap (λ o. not (is_down h || is_some o) && nat_le (picked h a.dialogue) a.place) (same a.dialogue)) (frames h)

-- one is
ended_frames : {h : List Event} {s : Shelf} (step : Step) (came : Prepared) (answer : Posted) (components local : ℕ) (row : Row) (x : Ending) → Tied h s → Lined h s
    → named_in s (arrival_of came).ids ≡ Some local → get s.rows local ≡ Some row
    → ending_by answer (Some came) ≡ Some x → map_list (as_waiting h) (waiting (posts step came answer components ∷ h)) ≡ filter (is_of_other local) s.outbox.frames
ended_frames {h} {s} step came answer components local row x t l names was by =
    let b = row.birth in
    ap (map_list (as_waiting h))
    (filter_agree (is_waiting (posts step came answer components ∷ h)) (waits_by (λ c. is_sending h c && not (eqb c b)) (picked h))
    (λ a.
    (λ i. not (is_down h || is_some (ending_at (by i) (names_only came local row a.dialogue t names was i) (ending h a.dialogue))) && nat_le (picked h a.dialogue) a.place)
    ∙ ap (λ s. s && nat_le (picked h a.dialogue) a.place) (sends_then (is_down h) (eqb a.dialogue b) (ending h a.dialogue) x)) (frames h)
    ∙ without_one b (is_sending h) (picked h) (frames h))
    ∙ drops_one h local b (waiting h) (waiting_named local b t (t.names local row was)) ∙ ap (filter (is_of_other local)) l.frames

-- one is opened: its identifier is that of no frame that waits
same_names : (f g : QueuedFrame → Waiting) (p : QueuedFrame → Bool) (d : ℕ) (xs : List QueuedFrame) → n_of d xs ≡ 0
    → ((a : QueuedFrame) → eqb d a.dialogue ≡ false → f a ≡ g a) → map_list f (filter p xs) ≡ map_list g (filter p xs)
same_names f g p d [] none same = refl
same_names f g p d (a ∷ xs) none same = grind (arith, nat_tests, same a, same_names f g p d xs)

-- by the verdict: discarded

no_moves : {h : List Event} (step : Step) {came : Prepared} {answer : Posted} (components : ℕ) {old new : Shelf} → Lined h old → Discards old came answer new
    → Moves h (posts step came Posted.Discarded components) old new
no_moves {h} step {came} components {old} l g =
    subst (Moves h (posts step came Posted.Discarded components) old) (sym g.new_is) (moves_to l refl (λ d. refl) refl l.frames (joins_same refl l.order (cores_same old.rows)))

-- refused

-- no other part of the book changes then than the Aborts that wait
pub answered_with : (closed : Shelf) (closes : Option ℕ) (abort : Option (Tid × AbortCause)) (answer : Posted) (answered : Shelf) → Answers closed closes abort answer answered
    → (aborts : List AbortFrame) × (answered ≡ record closed { outbox = record closed.outbox { aborts = aborts } })
answered_with closed closes None answer answered g = (closed.outbox.aborts, g.1)
answered_with closed closes (Some (peer, cause)) answer answered g = (closed.outbox.aborts ++ g.1.frame ∷ [], g.1.new_is)

-- the dialogue of a refused message is closed
closes_by : (closed : Shelf) (local : ℕ) (abort : Option (Tid × AbortCause)) (answer : Posted) (answered : Shelf) (came : Option Prepared) → Answers closed (Some local) abort answer answered → ending_by answer came ≡ Some Ending.Closed
closes_by closed local None answer answered came g = ap (λ a. ending_by a came) g.0
closes_by closed local (Some (peer, cause)) answer answered came g = ap (λ a. ending_by a came) g.0

pub refused_opens : (components : ℕ) (closed : Shelf) (closes : Option ℕ) (abort : Option (Tid × AbortCause)) (answer : Posted) (answered : Shelf) → Answers closed closes abort answer answered → opened_in (Output.Posted answer components) ≡ None
refused_opens components closed None None answer answered g = ap (λ a. opened_in (Output.Posted a components)) g.0
refused_opens components closed (Some local) None answer answered g = ap (λ a. opened_in (Output.Posted a components)) g.0
refused_opens components closed closes (Some (peer, cause)) answer answered g = ap (λ a. opened_in (Output.Posted a components)) g.0

names_stay : (h : List Event) (step : Step) (came : Prepared) (answer : Posted) (components : ℕ) (xs : List QueuedFrame) → opened_in (Output.Posted answer components) ≡ None
    → map_list (as_waiting (posts step came answer components ∷ h)) xs ≡ map_list (as_waiting h) xs
names_stay h step came answer components xs none =
    ap (λ o. map_list (λ (a : QueuedFrame). record { local = began_with (beginning_after o (Some came) (eqb a.dialogue (births h + 1)) (beginning h a.dialogue)); birth = a.dialogue; frame = a.frame }) xs) none

refused_moves : {h : List Event} (step : Step) (came : Prepared) (answer : Posted) (components : ℕ) {old : Shelf} (closed answered : Shelf) (closes : Option ℕ) (abort : Option (Tid × AbortCause)) (aborts : List AbortFrame) (log : List LoggedStep) → Lined h old → Tied h old
    → named_in old (arrival_of came).ids ≡ closes → ClosesOne old closes closed → Answers closed closes abort answer answered
    → Moves h (posts step came answer components) old (record closed { outbox = record closed.outbox { aborts = aborts }; log = log })
refused_moves {h} step came answer components {old} closed answered None abort aborts log l t names c a =
    let e = posts step came answer components in
    subst (λ (s : Shelf). Moves h e old (record s { outbox = record s.outbox { aborts = aborts }; log = log })) (sym c)
    (moves_to l refl (λ d. refl) refl
    (names_stay h step came answer components (waiting (e ∷ h)) (refused_opens components closed None abort answer answered a)
    ∙ ap (map_list (as_waiting h)) (quiet_frames h step came answer components (λ d. unended (ending_by answer (Some came)) (names_taker h came d) (ending h d) (none_named_takes came d t names)))
    ∙ l.frames) (joins_same refl l.order (cores_same old.rows)))
refused_moves {h} step came answer components {old} closed answered (Some local) abort aborts log l t names c a =
    let e = posts step came answer components in
    subst (λ (s : Shelf). Moves h e old (record s { outbox = record s.outbox { aborts = aborts }; log = log })) (sym c.new_is)
    (moves_to l refl (λ d. refl) refl
    (names_stay h step came answer components (waiting (e ∷ h)) (refused_opens components closed (Some local) abort answer answered a)
    ∙ ended_frames step came answer components local c.before Ending.Closed t l names c.was (closes_by closed local abort answer answered (Some came) a))
    (joins_without local refl l.order
    (cores_left old.rows local c.before c.after c.was (c.ends.same.birth, λ free. c.ends.core))))

-- opened
opens_moves : {h : List Event} (step : Step) {came : Prepared} {answer : Posted} (components : ℕ) {old new : Shelf} {peer : Tid} → Lined h old → Tied h old → Sound old
    → Sound new → OpensDialogue old peer came answer new → Moves h (posts step came answer components) old new
opens_moves {h} step {came} components {old} {new} {peer} l t k m g =
    let place = identifier (base old) g.serial in let d = births h + 1 in
    let e = posts step came (Posted.Opened place) components in
    let none : n_of d (frames h) ≡ 0 = counted h d ∙ ap (λ (s : Story). length s.queues) (t.later d (omega arith)) in
    let start : Option Beginning = Some (record { local = place; peer = sender_of came; moment = (arrival_of came).moment }) in
    subst (λ a. Moves h (posts step came a components) old new) (sym g.answer_is)
    (subst (λ (s : Shelf). Sound s → Moves h e old s) (sym g.new_is)
    (λ m. moves_to l refl (λ d. refl) refl
    (same_names (as_waiting (e ∷ h)) (as_waiting h) (is_waiting h) d (frames h) none
    (λ a ne. ap (λ b. record { local = began_with (cond b start (beginning h a.dialogue)); birth = a.dialogue; frame = a.frame }) (eqb_swap d a.dialogue ne))
    ∙ l.frames)
    (joins_one place (row_is_ready g.after) m refl (cores_new old.rows place g.after (fresh_at k g.first)) l.order)) m)

-- accepted
extends_moves : {h : List Event} (step : Step) {came : Prepared} {answer : Posted} (components : ℕ) {old new : Shelf} {local : ℕ} → Lined h old → Sound new → is_ending (arrival_of came).ids.kind ≡ false → ExtendsDialogue old local came answer new
    → Moves h (posts step came answer components) old new
extends_moves {h} step {came} components {old} {new} {local} l m no_end g =
    let answer = Posted.Accepted (length (entries_in came)) in
    subst (λ a. Moves h (posts step came a components) old new) (sym g.answer_is)
    (subst (λ (s : Shelf). Sound s → Moves h (posts step came answer components) old s) (sym g.new_is)
    (λ m. moves_to l refl (λ d. refl) refl
    (ap (map_list (as_waiting h)) (quiet_frames h step came answer components (λ d. ap (λ x. ending_at (cond x (Some Ending.ByPeer) None) (names_taker h came d) (ending h d)) no_end))
    ∙ l.frames)
    (joins_one local (not (row_is_ready g.before) && row_is_ready g.after) m refl (cores_put old.rows local g.before g.after g.was (g.extends.same.birth, λ free. g.extends.stay.core)) l.order)) m)

ends_moves : {h : List Event} (step : Step) {came : Prepared} {answer : Posted} (components : ℕ) {old new : Shelf} {local : ℕ} → Lined h old → Tied h old → Sound new → named_in old (arrival_of came).ids ≡ Some local
    → is_ending (arrival_of came).ids.kind ≡ true → EndsDialogue old local came answer new → Moves h (posts step came answer components) old new
ends_moves {h} step {came} components {old} {new} {local} l t m names is_end g =
    let answer = Posted.Accepted (length (entries_in came)) in
    subst (λ a. Moves h (posts step came a components) old new) (sym g.answer_is)
    (subst (λ (s : Shelf). Sound s → Moves h (posts step came answer components) old s) (sym g.new_is)
    (λ m. moves_to l refl (λ d. refl) refl
    (ended_frames step came answer components local g.before Ending.ByPeer t l names g.was (ap (λ x. cond x (Some Ending.ByPeer) None) is_end))
    (joins_one local (not (row_is_ready g.before) && row_is_ready g.after) m refl
    (cores_left old.rows local g.before g.after g.was (g.ends.same.birth ∙ g.extends.same.birth, λ free. g.ends.core ∙ g.extends.stay.core)) l.order)) m)

pub moves_posted : {h : List Event} (step : Step) (came : Prepared) (answer : Posted) (components : ℕ) {old new : Shelf} (v : Verdict) → Lined h old → Tied h old → Sound old → Sound new → Tells old came v → Follows v old came answer new
    → Moves h (posts step came answer components) old new
moves_posted {h} step came answer components {old} {new} Verdict.Discard l t k m told g =
    subst (λ a. Moves h (posts step came a components) old new) (sym g.answer_is) (no_moves step components l g)
moves_posted {h} step came answer components {old} (Verdict.Refuse cause closes) l t k m told g =
    let abort = abort_for (length old.outbox.aborts) cause (arrival_of came).ids.orig in
    let log = logged g.answered.log (posted_line came answer) in
    let with = answered_with g.closed closes abort answer g.answered g.answering in
    subst (Moves h (posts step came answer components) old) (sym (g.new_is ∙ ap (λ (s : Shelf). record s { log = log }) with.1))
    (refused_moves step came answer components g.closed g.answered closes abort with.0 log l t (sym told) g.closing g.answering)
moves_posted step came answer components (Verdict.Open peer) l t k m told g = opens_moves step components l t k m g
moves_posted step came answer components (Verdict.Extend local false) l t k m told g = extends_moves step components l m (ap is_ending told.1) g
moves_posted step came answer components (Verdict.Extend local true) l t k m told g =
    ends_moves step components l t m told.0 (⊎_elim (λ kind. ap is_ending kind) (λ kind. ap is_ending kind) told.1) g
