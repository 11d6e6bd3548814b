-- A message keeps the tie between a book and its history.
use Rattle.fp_steps.proofs.Names.{AbortCause, AbortFrame, AbortsTied, Answers, Beginning, Bool, ClosesOne, Content, Discards, Ending, EndsDialogue, Entry, Event, Extends, ExtendsDialogue, IsTied, List, LoggedStep, None, OneChanges, OpensDialogue, Option, Output, Posted, Prepared, Refuses, Row, RowsKeepTheirOrder, Shelf, Some, Sound, Step, Story, Tid, Tied, TiedAt, [], abort_for, abort_out, aborts, aborts_sent, accepted, add-zero, admits, admitted as admitted_in, and_right, ap, append-nil, append_assoc, arith, arrival_of, base, began_with, beginning, births, book_logged as logged, by_local, cases_Bool, cond, cond_some, core_in, core_of, count_out, destination, ended_by, ending, ending_at, ending_by, entries_in, entry_count, eq-eqb, eqb, false, for_one, frame_octets, frames_of, get, identifier, insert, inserted, is_admitted, is_ending, is_one, is_over, is_some, length, local_of, map-append, map_list, named, named_in, names_by, nat_le, nat_lt, nat_tests, ne_eqb, none-some, not, number_of, numbers_from, octets_of, opened_in, option_and_then, option_map_or, out, parcel_local, positions, posted_line, queued, refl, row_at, row_of, rules, sender_of, sent, story, subst, sym, take, true, unnamed_by, untold, ℕ, ⊎_elim, ◌&&◌, ◌++◌, ◌+◌, ◌<◌, ◌∙◌, ◌∷◌, ◌≡◌}
use Rattle.fp_ber.specs.Canon.{canon}
use Rattle.fp_frames.specs.Frame.{framed}
use Rattle.fp_q773.specs.ProviderAbort.{cause_code, provider_abort}
use Rattle.fp_steps.proofs.HeldDialogues.{Held, becomes, same_birth, born_at, by_option, for_other, for_own, held_at, held_of, is_other, is_own, live_tied, own_row, row_named, row_other, same_beginning, same_story, stays}
use Rattle.fp_steps.proofs.OpenedDialogues.{opened_after, the_one}
use Rattle.fp_steps.proofs.TieAtParcels.{closed_by, closed_if, no_end, out_there, tied_ends}
use Rattle.fp_steps.proofs.TieNext.{Tied-quiet, aborts_stay, handed_still, quiet, Tied-left, Tied-put}
use Rattle.fp_steps.proofs.TokensKept.{above_zero, first_serial, fresh_at}

-- REFUSED OR DISCARDED

-- the number by which a message names its dialogue
abbrev pub number_in : Prepared → Option ℕ
number_in came = option_and_then (λ (tid : Tid). number_of (octets_of tid)) (arrival_of came).ids.dest

-- a message that names a dialogue
dest_by : (h : List Event) (o : Option ℕ) (d : ℕ) → option_and_then (named h) o ≡ Some d → (local : ℕ) × ((o ≡ Some local) × (named h local ≡ Some d))
dest_by h None d e = absurd (cc)
dest_by h (Some local) d e = (local, (refl, e))

-- a dialogue that takes messages isn't ended
none_by : (ended : Option Ending) (over : Bool) → (not (is_some ended) && not over) ≡ true → ended ≡ None
none_by None over is = refl
none_by (Some ending) over is = absurd (cc)

-- whether it takes messages, as the book has it
pub admits_is : {h : List Event} {s : Shelf} (d : ℕ) → Tied h s → admits h d ≡ option_map_or is_admitted (row_at h s d) false
admits_is {h} {s} d t = by_option (λ o. TiedAt (births h) d (story h d) o → admits h d ≡ option_map_or is_admitted o false) (row_at h s d) (λ was g. g.admitted)
    (λ row was g.
    let held : Held h (local_of h d) d row = held_at d row t was in
    ap (λ b. b && (not (is_some (ending h d)) && not (is_over (core_of h d)))) (born_at d (births h) held.first held.last) ∙ live_tied g)
    (t.rows d)

-- so of one that an identifier names
pub named_admits : {h : List Event} {s : Shelf} (local d : ℕ) → Tied h s → named h local ≡ Some d → admits h d ≡ option_map_or is_admitted (get s.rows local) false
named_admits local d t name = admits_is d t ∙ ap (λ o. option_map_or is_admitted o false) (row_named local d t name)

-- whether a message names a dialogue that takes messages
abbrev pub names_taker : List Event → Prepared → ℕ → Bool
names_taker h came d = is_one (destination h (Some came)) d && admits h d

-- none that takes messages is named
pub none_named_takes : {h : List Event} {s : Shelf} (came : Prepared) (d : ℕ) → Tied h s → named_in s (arrival_of came).ids ≡ None → names_taker h came d ≡ false
none_named_takes {h} {s} came d t none =
    ⊎_elim
    (λ is.
    let found = dest_by h (number_in came) d (the_one (destination h (Some came)) d is) in
    and_right (is_one (destination h (Some came)) d) (admits h d)
    (named_admits found.0 d t found.1.1 ∙ unnamed_by s (number_in came) found.0 none found.1.0))
    (λ not_one. ap (λ b. b && admits h d) not_one)
    (cases_Bool (is_one (destination h (Some came)) d))

pub dest_of : {h : List Event} {old : Shelf} (came : Prepared) (local : ℕ) (before : Row) → Tied h old → named_in old (arrival_of came).ids ≡ Some local → get old.rows local ≡ Some before
    → destination h (Some came) ≡ Some before.birth
dest_of {h} {old} came local before t names was = ap (option_and_then (named h)) (names_by old (number_in came) local names).number ∙ t.names local before was

-- the one that is named takes messages, and no other
pub names_only : {h : List Event} {s : Shelf} (came : Prepared) (local : ℕ) (row : Row) (c : ℕ) → Tied h s → named_in s (arrival_of came).ids ≡ Some local
    → get s.rows local ≡ Some row → names_taker h came c ≡ eqb c row.birth
names_only {h} {s} came local row c t names was =
    let b = row.birth in
    let dest : destination h (Some came) ≡ Some b = dest_of came local row t names was in
    by_local c b (λ c. names_taker h came c ≡ eqb c b)
    (ap (λ x. x && admits h b) (is_own (destination h (Some came)) b dest)
    ∙ named_admits local b t (t.names local row was) ∙ (names_by s (number_in came) local names).takes ∙ sym (eq-eqb b b refl))
    (λ ne. ap (λ x. x && admits h c) (is_other (destination h (Some came)) c b dest ne) ∙ sym ne)

-- the event of a message
abbrev pub posts : Step → Prepared → Posted → ℕ → Event
posts step came answer components = record { step = step; came = Some came; output = Output.Posted answer components }

-- nothing is done with it
tied_discarded : {h : List Event} (step : Step) (came : Prepared) (components : ℕ) {old : Shelf} (log : List LoggedStep) → Tied h old → Tied (posts step came Posted.Discarded components ∷ h) (record old { log = log })
tied_discarded {h} step came components log t =
    let e = posts step came Posted.Discarded components in
    Tied-quiet _ t (quiet e _ t refl (add-zero (entry_count h) ∙ t.entries_are) refl refl refl refl refl refl refl) (λ d. stays e h d refl refl refl refl refl refl refl) refl

pub Tied-discards : {h : List Event} (step : Step) {came : Prepared} {answer : Posted} (components : ℕ) {old new : Shelf} → Tied h old → Discards old came answer new → Tied (posts step came answer components ∷ h) new
Tied-discards {h} step {came} {answer} components {old} {new} t g =
    subst (λ a. Tied (posts step came a components ∷ h) new) (sym g.answer_is)
    (subst (Tied (posts step came Posted.Discarded components ∷ h)) (sym g.new_is) (tied_discarded step came components (logged old.log (posted_line came answer)) t))

-- it closes the dialogue that it names, if that takes messages
closes_tied : RowsKeepTheirOrder → {h : List Event} (e : Event) {old : Shelf} (closed : Shelf) (came : Prepared) (closes : Option ℕ) (waiting : List AbortFrame) (log : List LoggedStep)
    → Tied h old → named_in old (arrival_of came).ids ≡ closes
    → ((d : ℕ) → story (e ∷ h) d ≡ record (story h d) { ended = closed_if (names_taker h came d) (ending h d) }) → opened_in e.output ≡ None
    → entry_count (e ∷ h) ≡ entry_count h + 0 → out (e ∷ h) ≡ out h
    → ((s : Shelf) → s.is_down ≡ old.is_down → s.outbox.aborts ≡ waiting → AbortsTied (e ∷ h) s) → ClosesOne old closes closed
    → Tied (e ∷ h) (record closed { outbox = record closed.outbox { aborts = waiting }; log = log })
closes_tied law {h} e closed came None waiting log t names told none entries out_stays aborts_are c =
    subst (λ (s : Shelf). Tied (e ∷ h) (record s { outbox = record s.outbox { aborts = waiting }; log = log })) (sym c)
    (Tied-quiet e t (record { opens_none = none; born = refl; entries = entries ∙ add-zero (entry_count h) ∙ t.entries_are; is_out = out_stays ∙ t.is_out; aborts = aborts_are _ refl refl })
    (λ d. told d ∙ no_end (story h d) (names_taker h came d) (none_named_takes came d t names)) refl)
closes_tied law {h} e closed came (Some local) waiting log t names told none entries out_stays aborts_are c =
    let b = c.before.birth in
    let only : (d : ℕ) → names_taker h came d ≡ eqb d b = λ d. names_only came local c.before d t names c.was in
    let x = closed_if (names_taker h came b) (ending h b) in
    let is : x ≡ ended_by Ending.Closed c.before.ended = ap (λ y. closed_if y (ending h b)) (only b ∙ eq-eqb b b refl) ∙ sym (closed_by c.before.ended) in
    let tied : IsTied b (record (story h b) { ended = x }) c.after =
    tied_ends x (held_of local c.before t c.was).tied c.ends is in
    subst (λ (s : Shelf). Tied (e ∷ h) (record s { outbox = record s.outbox { aborts = waiting }; log = log })) (sym c.new_is)
    (Tied-left law {e = e} local c.before t
    (record { opens_none = none; born = refl; entries = entries ∙ add-zero (entry_count h) ∙ t.entries_are; is_out = out_stays ∙ t.is_out; aborts = aborts_are _ refl refl })
    c.was refl (subst (λ t. IsTied b t c.after) (sym (told b)) tied)
    (λ d ne. told d ∙ no_end (story h d) (names_taker h came d) (only d ∙ ne)))

closed_aborts : (old : Shelf) (closes : Option ℕ) (closed : Shelf) → ClosesOne old closes closed → closed.outbox.aborts ≡ old.outbox.aborts
closed_aborts old None closed c = ap (λ (s : Shelf). s.outbox.aborts) c
closed_aborts old (Some local) closed c = ap (λ (s : Shelf). s.outbox.aborts) c.new_is

-- the Abort is sent to the sender of the message
sent_to : (waiting : ℕ) (cause : Option AbortCause) (orig : Option Tid) (peer : Tid) (named : AbortCause) → abort_for waiting cause orig ≡ Some (peer, named) → orig ≡ Some peer
sent_to waiting None orig peer named e = absurd (cc)
sent_to waiting (Some cause) None peer named e = absurd (cc)
sent_to waiting (Some cause) (Some tid) peer named e = ap (λ (p : Tid × AbortCause). Some p.0) (cond_some {A = Tid × AbortCause} (nat_lt waiting 64) (tid, cause) (peer, named) e).1

tied_refused : RowsKeepTheirOrder → {h : List Event} (step : Step) (came : Prepared) (answer : Posted) (components : ℕ) {old : Shelf} (mid answered : Shelf) (closes : Option ℕ) (log : List LoggedStep) (abort : Option (Tid × AbortCause))
    → Tied h old → named_in old (arrival_of came).ids ≡ closes → ClosesOne old closes mid → ((peer : Tid) (cause : AbortCause) → abort ≡ Some (peer, cause) → (arrival_of came).ids.orig ≡ Some peer)
    → Answers mid closes abort answer answered → Tied (posts step came answer components ∷ h) (record answered { log = log })
tied_refused law {h} step came answer components mid answered None log None t names c from (answer_is, same) =
    subst (λ a. Tied (posts step came a components ∷ h) (record answered { log = log })) (sym answer_is)
    (subst (λ (s : Shelf). Tied (posts step came Posted.Discarded components ∷ h) (record s { log = log })) (sym (same ∙ c)) (tied_discarded step came components log t))
tied_refused law {h} step came answer components {old} mid answered (Some local) log None t names c from (answer_is, same) =
    let e = posts step came Posted.Ended components in
    subst (λ a. Tied (posts step came a components ∷ h) (record answered { log = log })) (sym answer_is)
    (subst (λ (s : Shelf). Tied (e ∷ h) (record s { log = log })) (sym same)
    (closes_tied law e mid came (Some local) mid.outbox.aborts log t names (λ d. becomes e h d _ (count_out h d) refl refl refl refl refl refl refl) refl refl refl
    (λ s down waits. aborts_stay e s t.aborts_are refl refl refl down (waits ∙ closed_aborts old (Some local) mid c)) c))
tied_refused law {h} step came answer components {old} mid answered closes log (Some (peer, cause)) t names c from (answer_is, queues) =
    let e = posts step came (Posted.Aborted cause) components in
    let a : AbortsTied h old = t.aborts_are in let frame = queues.frame in
    let x = frame_octets frame in
    let sender : octets_of peer ≡ sender_of came = sym (ap (λ o. option_map_or octets_of o []) (from peer cause refl)) in
    let frame_is : x ≡ framed (canon (provider_abort (sender_of came) (cause_code cause))) = queues.frame_is ∙ ap (λ o. framed (canon (provider_abort o (cause_code cause)))) sender in
    subst (λ a. Tied (posts step came a components ∷ h) (record answered { log = log })) (sym answer_is)
    (subst (λ (s : Shelf). Tied (e ∷ h) (record s { log = log })) (sym queues.new_is)
    (closes_tied law e mid came closes (mid.outbox.aborts ++ frame ∷ []) log t names (λ d. becomes e h d _ (count_out h d) refl refl refl refl refl refl refl) refl refl refl
    (λ s down waits. record {
      rest = a.rest ++ x ∷ [];
      all = ap (λ xs. xs ++ (abort_out (out h) ++ (a.rest ++ x ∷ []))) (append-nil (aborts_sent h))
          ∙ ap (λ xs. aborts_sent h ++ xs) (sym (append_assoc (abort_out (out h)) a.rest (x ∷ [])))
          ∙ sym (append_assoc (aborts_sent h) (abort_out (out h) ++ a.rest) (x ∷ []))
          ∙ ap (λ xs. xs ++ x ∷ []) a.all ∙ ap (λ y. aborts h ++ y ∷ []) frame_is;
      waiting = λ up.
          ap (λ xs. xs ++ x ∷ []) (a.waiting (sym down ∙ up)) ∙ sym (map-append frame_octets old.outbox.aborts (frame ∷ []))
          ∙ ap (λ xs. map_list frame_octets (xs ++ frame ∷ [])) (sym (closed_aborts old closes mid c)) ∙ ap (map_list frame_octets) (sym waits);
    }) c))

-- a message is refused
pub Tied-refuses : RowsKeepTheirOrder → {h : List Event} (step : Step) {came : Prepared} {answer : Posted} (components : ℕ) {old new : Shelf} {cause : Option AbortCause} {closes : Option ℕ}
    → Tied h old → closes ≡ named_in old (arrival_of came).ids → Refuses old cause closes came answer new → Tied (posts step came answer components ∷ h) new
Tied-refuses law {h} step {came} {answer} components {old} {cause} {closes} t names g =
    subst (Tied (posts step came answer components ∷ h)) (sym g.new_is)
    (tied_refused law step came answer components g.closed g.answered closes (logged g.answered.log (posted_line came answer)) (abort_for (length old.outbox.aborts) cause (arrival_of came).ids.orig) t (sym names) g.closing
    (λ peer named is. sent_to (length old.outbox.aborts) cause (arrival_of came).ids.orig peer named is) g.answering)

-- ACCEPTED

-- more entries of a dialogue
pub tied_extends : {d : ℕ} {t : Story} {before after : Row} {entries : List Entry} → IsTied d t before → Extends before entries after → IsTied d (record t { accepts = t.accepts ++ entries }) after
tied_extends k e = let begins = k.begins ∙ ap Some (sym (same_beginning e.same)) in grind arith

-- a message doesn't end a dialogue that it doesn't name, or that takes none
pub unended : (by : Option Ending) (takes : Bool) (before : Option Ending) → takes ≡ false → ending_at by takes before ≡ before
unended None takes before none = refl
unended (Some ending) takes before none = ap (λ b. cond b (Some ending) before) none

-- what an accepted message tells of its dialogue, and of the others
own_told : (h : List Event) (step : Step) (came : Prepared) (count components b : ℕ) (x : Option Ending) → destination h (Some came) ≡ Some b
    → ending_at (ending_by (Posted.Accepted count) (Some came)) (names_taker h came b) (ending h b) ≡ x
    → story (posts step came (Posted.Accepted count) components ∷ h) b ≡ record (story h b) { accepts = accepted h b ++ entries_in came; ended = x }
own_told h step came count components b x dest ends_so =
    same_story (story (posts step came (Posted.Accepted count) components ∷ h) b) (record (story h b) { accepts = accepted h b ++ entries_in came; ended = x }) refl
    (ap (λ xs. accepted h b ++ xs) (for_own (destination h (Some came)) b (entries_in came) dest))
    (append-nil (positions h b)) (append-nil (queued h b)) (append-nil (sent h b)) ends_so refl

others_told : (h : List Event) (step : Step) (came : Prepared) (count components b : ℕ) → destination h (Some came) ≡ Some b
    → (d : ℕ) → eqb d b ≡ false → story (posts step came (Posted.Accepted count) components ∷ h) d ≡ story h d
others_told h step came count components b dest d ne =
    stays (posts step came (Posted.Accepted count) components) h d refl (for_other (destination h (Some came)) d b (entries_in came) dest ne) refl refl refl
    (unended (ending_by (Posted.Accepted count) (Some came)) (names_taker h came d) (ending h d) (ap (λ b. b && admits h d) (is_other (destination h (Some came)) d b dest ne)))
    refl

-- a dialogue accepts a message
pub Tied-extends : {h : List Event} (step : Step) {came : Prepared} {answer : Posted} (components : ℕ) {old new : Shelf} {local : ℕ} → Tied h old
    → named_in old (arrival_of came).ids ≡ Some local → is_ending (arrival_of came).ids.kind ≡ false → ExtendsDialogue old local came answer new → Tied (posts step came answer components ∷ h) new
Tied-extends {h} step {came} components {new} {local} t names no_end g =
    let count = length (entries_in came) in
    let e = posts step came (Posted.Accepted count) components in let b = g.before.birth in
    let dest : destination h (Some came) ≡ Some b = dest_of came local g.before t names g.was in
    let told : story (e ∷ h) b ≡ record (story h b) { accepts = accepted h b ++ entries_in came } =
    own_told h step came count components b (ending h b) dest (ap (λ x. ending_at (cond x (Some Ending.ByPeer) None) (names_taker h came b) (ending h b)) no_end)
    in
    subst (λ a. Tied (posts step came a components ∷ h) new) (sym g.answer_is)
    (subst (Tied (e ∷ h)) (sym g.new_is)
    (Tied-put local g.before t (quiet e _ t refl (ap (λ n. n + count) t.entries_are) refl refl refl refl refl refl refl) g.was refl
    (subst (λ s. IsTied b s g.after) (sym told) (tied_extends (held_of local g.before t g.was).tied g.extends))
    (others_told h step came count components b dest)))

-- the dialogue that is named takes messages
names_takes : (s : Shelf) (o : Option ℕ) (local : ℕ) (row : Row) → option_and_then (admitted_in s.rows) o ≡ Some local → get s.rows local ≡ Some row → is_admitted row ≡ true
names_takes s o local row names was = sym (ap (λ r. option_map_or is_admitted r false) was) ∙ (names_by s o local names).takes

-- a dialogue accepts its peer's end
pub Tied-ends : RowsKeepTheirOrder → {h : List Event} (step : Step) {came : Prepared} {answer : Posted} (components : ℕ) {old new : Shelf} {local : ℕ} → Tied h old
    → named_in old (arrival_of came).ids ≡ Some local → is_ending (arrival_of came).ids.kind ≡ true → EndsDialogue old local came answer new → Tied (posts step came answer components ∷ h) new
Tied-ends law {h} step {came} components {old} {new} {local} t names is_end g =
    let count = length (entries_in came) in
    let e = posts step came (Posted.Accepted count) components in let b = g.before.birth in
    let dest : destination h (Some came) ≡ Some b = dest_of came local g.before t names g.was in
    let takes : names_taker h came b ≡ true = names_only came local g.before b t names g.was ∙ eq-eqb b b refl in
    let told : story (e ∷ h) b ≡ record (story h b) { accepts = accepted h b ++ entries_in came; ended = Some Ending.ByPeer } =
    own_told h step came count components b (Some Ending.ByPeer) dest
    (ap (λ x. ending_at (cond x (Some Ending.ByPeer) None) (names_taker h came b) (ending h b)) is_end ∙ ap (λ x. cond x (Some Ending.ByPeer) (ending h b)) takes)
    in
    let more : Story = record (story h b) { accepts = accepted h b ++ entries_in came } in
    let extended : IsTied b more g.extended = tied_extends (held_of local g.before t g.was).tied g.extends in
    let was_none : g.extended.ended ≡ None = g.extends.ended ∙ none_by g.before.ended (is_over g.before.core) (names_takes old (number_in came) local g.before names g.was) in
    let tied : IsTied b (record more { ended = Some Ending.ByPeer }) g.after =
    tied_ends (Some Ending.ByPeer) extended g.ends (ap (ended_by Ending.ByPeer) (sym was_none)) in
    subst (λ a. Tied (posts step came a components ∷ h) new) (sym g.answer_is)
    (subst (Tied (e ∷ h)) (sym g.new_is)
    (Tied-left law local g.before t (quiet e _ t refl (ap (λ n. n + count) t.entries_are) refl refl refl refl refl refl refl) g.was refl
    (subst (λ s. IsTied b s g.after) (sym told) tied)
    (others_told h step came count components b dest)))

-- what is gone, or isn't opened yet, isn't the one that is opened
le_more : (d n : ℕ) → eqb d (n + 1) ≡ false → nat_le d (n + 1) ≡ nat_le d n
le_more d n ne = grind (arith, nat_tests)

at_more : (d n : ℕ) (t : Story) (o : Option Row) → eqb d (n + 1) ≡ false → TiedAt n d t o → TiedAt (n + 1) d t o
at_more d n t (Some row) ne k = k
at_more d n t None ne k = let admitted = ap (λ b. (nat_lt 0 d && b) && (not (is_some t.ended) && not (is_over (core_in d t)))) (le_more d n ne) ∙ k.admitted in search rules

-- what is out isn't of the dialogue that is opened
none_of_new : {s : Shelf} (l : ℕ) (content : Content) → Sound s → 0 < l → get s.rows l ≡ None → s.outbox.out ≡ Some content → eqb (parcel_local content) l ≡ false
none_of_new l (Content.Abort frame) k some fresh is = ne_eqb 0 l (λ same. omega (arith, same, some))
none_of_new {s} l (Content.Frame w) k some fresh is =
    let row = out_there w k is in ne_eqb w.local l (λ same. none-some row.0 (sym fresh ∙ ap (get s.rows) (sym same) ∙ row.1))

-- a dialogue is opened
pub Tied-opens : {h : List Event} (step : Step) {came : Prepared} {answer : Posted} (components : ℕ) {old new : Shelf} {peer : Tid} → Tied h old → Sound old
    → (arrival_of came).ids.orig ≡ Some peer → OpensDialogue old peer came answer new → Tied (posts step came answer components ∷ h) new
Tied-opens {h} step {came} components {old} {new} {peer} t k orig g =
    let n = births h in let b = n + 1 in let l = identifier (base old) g.serial in
    let e = posts step came (Posted.Opened l) components in let rows = insert old.rows l g.after in
    let all : n ≡ old.births = t.births_are in
    let place : 0 < l = above_zero (base old) g.serial (first_serial k g.first).0 in
    let untold_yet : story h b ≡ untold = t.later b (omega arith) in
    let start : Beginning = record { local = l; peer = sender_of came; moment = (arrival_of came).moment } in
    let fresh_one : Story = record { began = Some start; accepts = entries_in came; places = []; queues = []; sends = []; ended = None; out = 0 } in
    let told : story (e ∷ h) b ≡ fresh_one = same_story (story (e ∷ h) b) fresh_one
    (ap (λ y. cond y (Some start) (beginning h b)) (eq-eqb b b refl))
    (ap (λ (s : Story). s.accepts ++ for_one (Some b) b (entries_in came)) untold_yet ∙ for_own (Some b) b (entries_in came) refl)
    (append-nil (positions h b) ∙ ap (λ (s : Story). s.places) untold_yet)
    (append-nil (queued h b) ∙ ap (λ (s : Story). s.queues) untold_yet)
    (append-nil (sent h b) ∙ ap (λ (s : Story). s.sends) untold_yet)
    (ap (λ (s : Story). s.ended) untold_yet) (ap (λ (s : Story). s.out) untold_yet) in
    let others : (d : ℕ) → eqb d b ≡ false → story (e ∷ h) d ≡ story h d = λ d ne.
    stays e h d (ap (λ y. cond y (Some start) (beginning h d)) ne) (for_other (Some b) d b (entries_in came) refl ne) refl refl refl refl refl
    in
    let tied : IsTied b fresh_one g.after =
    record {
      birth = g.extends.same.birth ∙ g.opens.birth_is ∙ ap (λ m. m + 1) (sym all);
      begins =
          let sender : sender_of came ≡ octets_of g.after.peer = ap (λ o. option_map_or octets_of o []) orig ∙ ap octets_of (sym (g.extends.same.peer ∙ g.opens.peer_is)) in
          λ i. Some (record { local = sym (g.extends.same.local ∙ g.opens.local_is) i; peer = sender i; moment = sym (g.extends.same.opened ∙ g.opens.opened) i });
      accepts = sym (g.extends.accepted ∙ ap (λ xs. xs ++ entries_in came) g.opens.accepted);
      serves = ap (numbers_from 0) (sym (g.extends.stay.served ∙ g.opens.served));
      queues = sym (g.extends.stay.queued_frames ∙ ap (λ n. take n (frames_of g.opened)) g.opens.queued);
      sends = sym (g.extends.stay.sent_frames ∙ ap (λ n. take n (frames_of g.opened)) g.opens.sent);
      ends = sym (g.extends.ended ∙ g.opens.ended);
      outs = sym (g.extends.out ∙ g.opens.out);
    } in
    let fresh : get old.rows l ≡ None = fresh_at k g.first in
    let one : OneChanges old.rows rows l None (Some g.after) = inserted old.rows l None g.after fresh in
    let here : local_of (e ∷ h) b ≡ l = ap (λ y. began_with (cond y (Some start) (beginning h b))) (eq-eqb b b refl) in
    subst (λ a. Tied (posts step came a components ∷ h) new) (sym g.answer_is)
    (subst (Tied (e ∷ h)) (sym g.new_is) (record {
      births_are = ap (λ m. m + 1) all;
      entries_are = ap (λ m. m + length (entries_in came)) t.entries_are;
      opened = opened_after (Some l) (Some came) t.opened place;
      names = λ local row. by_local local l (λ local. get rows local ≡ Some row → named (e ∷ h) local ≡ Some row.birth)
          (λ is. ap (λ y. cond y (Some b) (named h l)) (eq-eqb l l refl) ∙ ap Some (sym (same_birth g.after row (sym one.there ∙ is) ∙ tied.birth)))
          (λ ne is. ap (λ y. cond y (Some b) (named h local)) ne ∙ t.names local row (sym (one.others local ne) ∙ is));
      rows = λ d. by_local d b (λ d. TiedAt b d (story (e ∷ h) d) (row_of d (get rows (local_of (e ∷ h) d))))
          (subst (TiedAt b b (story (e ∷ h) b)) (sym (ap (λ n. row_of b (get rows n)) here ∙ ap (row_of b) one.there ∙ own_row b g.after tied.birth)) (subst (λ s. IsTied b s g.after) (sym told) tied))
          (λ ne.
          let same : local_of (e ∷ h) d ≡ local_of h d = ap (λ y. began_with (cond y (Some start) (beginning h d))) ne in
          let still : row_of d (get rows (local_of h d)) ≡ row_at h old d = row_other h old (record old { rows = rows }) b (Some g.after) d one (λ row is. absurd (cc)) (λ row is. same_birth g.after row is ∙ tied.birth) ne in
          subst (λ s. TiedAt b d s (row_of d (get rows (local_of (e ∷ h) d)))) (sym (others d ne))
          (subst (TiedAt b d (story h d)) (sym (ap (λ n. row_of d (get rows n)) same ∙ still)) (at_more d n (story h d) (row_at h old d) ne (t.rows d))));
      later = λ d past. others d (ne_eqb d b (λ same. omega (arith, past, same))) ∙ t.later d (omega (arith, past));
      is_out = t.is_out ∙ handed_still h e old.outbox.out (λ content is. ap (λ y. cond y (Some b) (named h (parcel_local content))) (none_of_new l content k place fresh is));
      aborts_are = aborts_stay e _ t.aborts_are refl refl refl refl refl;
    }))
