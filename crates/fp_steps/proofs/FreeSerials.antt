-- What each event makes of the serials that may be given, by what its call makes of the dialogues of a book.
use Rattle.fp_steps.proofs.Names.{AreSerials, Bool, ClocksAt, ClosesOne, Content, Due, Event, Follows, Freed, IdentifiersHold, IsOwn, Lined, List, MakesOf, None, OneChanges, OpensDialogue, Option, Output, Posted, Prepared, Row, Rows, RowsKeepTheirOrder, Sends, Shelf, Some, Sound, Step, Tid, Tied, Verdict, [], abort_for, ap, append-nil, arith, arrival_of, base, births, by_local, cases_Bool, cond, dialogue_held as is_held, eqb, eqb-true, false, filter, filter-append, free, free_with, get, goes, gone_at, held, identifier, is_free, is_held as row_held, is_some, keep, left_by, left_of, length, list_any, local_of, map_list, most_dialogues, named, nat_tests, ne_eqb, not, numbers_from, opened_in, parcel_local, refl, row_at, row_of, same_Some, serial_of, subst, suc, sym, true, true≢false, verdict, without_first, zero, ℕ, ⊎_elim, ◌&&◌, ◌++◌, ◌+◌, ◌<◌, ◌∙◌, ◌∷◌, ◌≡◌, ◌≤◌}
use Rattle.fp_steps.proofs.HeldCount.{held_as, held_is}
use Rattle.fp_steps.proofs.Cases.{Cases, by_made}
use Rattle.fp_tids.proofs.Serials.{shown}
use Rattle.fp_steps.proofs.HeldDialogues.{Held, by_option, event, held_at, held_of, one_left, one_put, own_row, row_named, row_other, row_own, row_there, same_birth}
use Rattle.fp_steps.proofs.OpenedDialogues.{place_stays}
use Rattle.fp_steps.proofs.TieAtMessages.{posts}
use Rattle.fp_steps.proofs.TokensKept.{fresh_at}
use Rattle.fp_steps.proofs.WaitingAtMessages.{answered_with, refused_opens}

-- those among the births 1 to n that pass

pass_none : (p : ℕ → Bool) (n : ℕ) → ((d : ℕ) → 0 < d → d ≤ n → p d ≡ false) → filter p (numbers_from 1 n) ≡ []
pass_none p zero none = refl
pass_none p (suc n) none =
    filter-append p (numbers_from 1 n) ((1 + n) ∷ []) ∙ ap (λ ds. ds ++ filter p ((1 + n) ∷ [])) (pass_none p n (λ d first last. none d first (omega (arith, last))))
    ∙ ap (λ b. cond b ((1 + n) ∷ []) []) (none (1 + n) (omega arith) (omega arith))

pass_one : (p : ℕ → Bool) (n b : ℕ) → 0 < b → b ≤ n → p b ≡ true → ((d : ℕ) → 0 < d → d ≤ n → eqb d b ≡ false → p d ≡ false) → filter p (numbers_from 1 n) ≡ b ∷ []
pass_one p zero b first last own others = absurd (omega (arith, first, last))
pass_one p (suc n) b first last own others =
    let all = filter-append p (numbers_from 1 n) ((1 + n) ∷ []) in
    ⊎_elim
    (λ e.
    let same : 1 + n ≡ b = eqb-true (1 + n) b e in
    all ∙ ap (λ ds. ds ++ filter p ((1 + n) ∷ [])) (pass_none p n (λ d one to. others d one (omega (arith, to)) (ne_eqb d b (λ is. omega (arith, is, to, same)))))
    ∙ ap (λ m. filter p (m ∷ [])) same ∙ ap (λ x. cond x (b ∷ []) []) own)
    (λ ne.
    let last_now : b ≤ n = grind (arith, nat_tests) in
    all ∙ ap (λ ds. ds ++ filter p ((1 + n) ∷ [])) (pass_one p n b first last_now own (λ d one to. others d one (omega (arith, to))))
    ∙ ap (λ x. (b ∷ []) ++ cond x ((1 + n) ∷ []) []) (others (1 + n) (omega arith) (omega arith) ne))
    (cases_Bool (eqb (1 + n) b))

-- THE DIALOGUES OF A BOOK

-- all that is known of a book after a history
pub record Known (h : List Event) (s : Shelf) : Type 0 where
  pub tied : Tied h s
  pub sound : Sound s
  pub lined : Lined h s

-- the row of a dialogue that is held
row_of_held : RowsKeepTheirOrder → {h : List Event} {s : Shelf} (d : ℕ) → Known h s → is_held h d ≡ true → (row : Row) × (row_at h s d ≡ Some row)
row_of_held law {h} {s} d a held =
    by_option (λ o. is_some o ≡ true → row_at h s d ≡ o → (row : Row) × (row_at h s d ≡ Some row)) (row_at h s d) (λ none held is. absurd (cc)) (λ row some held is. (row, is))
    (sym (held_as law d a.tied a.sound a.lined) ∙ held) refl

-- its identifier names it
name_held : RowsKeepTheirOrder → {h : List Event} {s : Shelf} (d : ℕ) → Known h s → is_held h d ≡ true → named h (local_of h d) ≡ Some d
name_held law {h} {s} d a held = let x = row_of_held law d a held in (held_at d x.0 a.tied x.1).name

-- no two that are held have one identifier
pub held_apart : RowsKeepTheirOrder → {h : List Event} {s : Shelf} (c d : ℕ) → Known h s → is_held h c ≡ true → is_held h d ≡ true → local_of h c ≡ local_of h d → c ≡ d
held_apart law {h} {s} c d a first second same = same_Some c d (sym (name_held law c a first) ∙ ap (named h) same ∙ name_held law d a second)

-- what identifiers promise
pub identifiers_hold : RowsKeepTheirOrder → {h : List Event} {s : Shelf} → Known h s → Freed h s → IdentifiersHold h
identifiers_hold law {h} {s} a f = record {
  names = λ d is. name_held law d a is;
  taken = λ d up is.
      let n = local_of h d in let x = row_of_held law d a is in
      let own : IsOwn s n x.0 = a.sound.own n x.0 (row_there d (get s.rows n) x.0 x.1).0 in
      let serial = own.serial in
      ap (is_free (serial_of n)) (f (sym a.lined.down ∙ up)) ∙ ap (λ m. is_free m s.free) (shown s.link s.tag serial.0 n serial.1 serial.2 serial.3) ∙ serial.4;
  distinct = λ up. subst AreSerials (sym (f (sym a.lined.down ∙ up))) a.sound.serials;
  all = λ up. ap (λ q. length q + held h) (f (sym a.lined.down ∙ up)) ∙ ap (λ m. length s.free + m) (held_is law a.tied a.sound a.lined) ∙ a.sound.serial_count (sym a.lined.down ∙ up);
  few = subst (λ n. n ≤ most_dialogues) (sym (held_is law a.tied a.sound a.lined)) a.sound.held;
}

-- a dialogue goes if its row does
goes_is : RowsKeepTheirOrder → {h : List Event} (e : Event) {old new : Shelf} (d : ℕ) → Known h old → Known (e ∷ h) new → d ≤ births h → goes e h d ≡ (is_some (row_at h old d) && not (is_some (row_at h new d)))
goes_is law {h} e {old} {new} d a b last =
    let now : is_held (e ∷ h) d ≡ is_some (row_at h new d) = held_as law d b.tied b.sound b.lined ∙ ap (λ l. is_some (row_of d (get new.rows l))) (place_stays h e d last) in
    λ i. held_as law d a.tied a.sound a.lined i && not (now i)

stays_by : (x y : Bool) → (x ≡ true → y ≡ true) → (x && not y) ≡ false
stays_by x y stays = grind (arith, nat_tests)

-- where each that is held stays so, none goes
none_goes : RowsKeepTheirOrder → {h : List Event} (e : Event) {old new : Shelf} → Known h old → Known (e ∷ h) new
    → ((d : ℕ) → 0 < d → d ≤ births h → is_some (row_at h old d) ≡ true → is_some (row_at h new d) ≡ true) → gone_at e h ≡ []
none_goes law {h} e {old} {new} a b stay = pass_none (goes e h) (births h) (λ d first last. goes_is law e d a b last ∙ stays_by (is_some (row_at h old d)) (is_some (row_at h new d)) (stay d first last))

free_by : (h : List Event) (e : Event) (o : Option ℕ) (ds : List ℕ) → opened_in e.output ≡ o → gone_at e h ≡ ds → free (e ∷ h) ≡ without_first o (free h) ++ map_list (λ d. serial_of (local_of h d)) ds
free_by h e o ds opens gone = λ i. without_first (opens i) (free h) ++ map_list (λ d. serial_of (local_of h d)) (gone i)

-- THE SERIALS THAT MAY BE GIVEN

-- they stay
pub free_same : RowsKeepTheirOrder → {h : List Event} (e : Event) {old new : Shelf} → Known h old → Known (e ∷ h) new → opened_in e.output ≡ None
    → ((d : ℕ) → 0 < d → d ≤ births h → is_some (row_at h old d) ≡ true → is_some (row_at h new d) ≡ true) → free (e ∷ h) ≡ free h
free_same law {h} e a b none stay = free_by h e None [] none (none_goes law e a b stay) ∙ append-nil (free h)

-- a dialogue is opened: the front one is given
pub free_opened : RowsKeepTheirOrder → {h : List Event} (e : Event) {old new : Shelf} {local : ℕ} (after : Row) → Known h old → Known (e ∷ h) new → opened_in e.output ≡ Some local
    → OneChanges old.rows new.rows local None (Some after) → after.birth ≡ births h + 1 → free (e ∷ h) ≡ without_first (Some local) (free h)
free_opened law {h} e {old} {new} {local} after a b opens one birth =
    free_by h e (Some local) [] opens (none_goes law e a b
    (λ d first last held. ap is_some (row_other h old new (births h + 1) (Some after) d one (λ row is. absurd (cc)) (λ row is. same_birth after row is ∙ birth) (ne_eqb d (births h + 1) (λ e. omega (arith, e, last)))) ∙ held))
    ∙ append-nil (without_first (Some local) (free h))

-- one changes, or goes: then its own is put at the back
pub free_left : RowsKeepTheirOrder → {h : List Event} (e : Event) {old new : Shelf} {local : ℕ} (before after : Row) → Known h old → Known (e ∷ h) new → opened_in e.output ≡ None
    → OneChanges old.rows new.rows local (Some before) (left_of after) → after.birth ≡ before.birth → free (e ∷ h) ≡ cond (row_held after) (free h) (free h ++ serial_of local ∷ [])
free_left law {h} e {old} {new} {local} before after a b none one birth =
    let d = before.birth in let n = births h in let left = left_of after in
    let held : Held h local d before = held_of local before a.tied one.was in
    let same : (row : Row) → left ≡ Some row → row.birth ≡ d = λ row is. ap (λ (r : Row). r.birth) (sym (left_by (row_held after) after row is).1) ∙ birth in
    let own : row_at h new d ≡ left = row_own new before left a.tied one same in
    let others : (c : ℕ) → eqb c d ≡ false → row_at h new c ≡ row_at h old c = λ c ne. row_other h old new d left c one (same_birth before) same ne in
    let was : row_at h old d ≡ Some before = row_named local d a.tied held.name ∙ one.was in
    ⊎_elim
    (λ stays. free_same law e a b none (λ c first last is. by_local c d (λ c. is_some (row_at h old c) ≡ true → is_some (row_at h new c) ≡ true)
    (λ is. ap is_some own ∙ ap (λ x. is_some (cond x (Some after) None)) stays) (λ ne is. ap is_some (others c ne) ∙ is) is)
    ∙ sym (ap (λ x. cond x (free h) (free h ++ serial_of local ∷ [])) stays))
    (λ goes_now.
    let all : gone_at e h ≡ d ∷ [] = pass_one (goes e h) n d held.first held.last
    (goes_is law e d a b held.last ∙ (λ i. is_some (was i) && not (is_some ((own ∙ ap (λ x. cond x (Some after) None) goes_now) i))))
    (λ c first last ne. goes_is law e c a b last ∙ stays_by (is_some (row_at h old c)) (is_some (row_at h new c)) (λ is. ap is_some (others c ne) ∙ is)) in
    free_by h e None (d ∷ []) none all ∙ ap (λ l. free h ++ serial_of l ∷ []) (sym held.place) ∙ sym (ap (λ x. cond x (free h) (free h ++ serial_of local ∷ [])) goes_now))
    (cases_Bool (row_held after))

-- EACH STEP

-- each dialogue that was held still is
abbrev Keeps : Rows → Rows → Type 0
Keeps rows then = (l : ℕ) (row : Row) → get rows l ≡ Some row → (after : Row) × (get then l ≡ Some after) × (after.birth ≡ row.birth)

keeps_same : (rows then : Rows) → then ≡ rows → Keeps rows then
keeps_same rows then same l row was = (row, ap (λ rows. get rows l) same ∙ was, refl)

keeps_one : {rows then : Rows} {local : ℕ} (before after : Row) → OneChanges rows then local (Some before) (Some after) → after.birth ≡ before.birth → Keeps rows then
keeps_one {rows} {then} {local} before after one birth l row was =
    by_local l local (λ l. get rows l ≡ Some row → (x : Row) × (get then l ≡ Some x) × (x.birth ≡ row.birth))
    (λ w. (after, one.there, birth ∙ ap (λ (r : Row). r.birth) (same_Some before row (sym one.was ∙ w))))
    (λ ne w. (row, one.others l ne ∙ w, refl)) was

keeps_clocked : (x : Bool) (moment : ℕ) (o left : Option Row) (row : Row) → ClocksAt x moment o left → o ≡ Some row → (after : Row) × (left ≡ Some after) × (after.birth ≡ row.birth)
keeps_clocked false moment o left row c is = (row, c ∙ is, refl)
keeps_clocked true moment None left row c is = absurd (cc)
keeps_clocked true moment (Some before) None row c is = absurd c
keeps_clocked true moment (Some before) (Some after) row c is = (after, refl, c.same.birth ∙ ap (λ (r : Row). r.birth) (same_Some before row is))

kept_at : (h : List Event) (old new : Shelf) (d : ℕ) → Keeps old.rows new.rows → is_some (row_at h old d) ≡ true → is_some (row_at h new d) ≡ true
kept_at h old new d keeps is = by_option (λ o. row_at h old d ≡ o → is_some o ≡ true → is_some (row_at h new d) ≡ true) (row_at h old d) (λ none found e. absurd (cc))
    (λ row some found e.
    let there = row_there d (get old.rows (local_of h d)) row found in
    let after = keeps (local_of h d) row there.0 in
    ap (λ o. is_some (row_of d o)) after.1 ∙ ap is_some (own_row d after.0 (after.2 ∙ there.1)))
    refl is

-- the serials of a history are those of the book, if they were, and the link is up
quiet : RowsKeepTheirOrder → {h : List Event} (e : Event) {old : Shelf} (new : Shelf) → Known h old → Known (e ∷ h) new → Freed h old → opened_in e.output ≡ None
    → new.is_down ≡ old.is_down → new.free ≡ old.free → Keeps old.rows new.rows → Freed (e ∷ h) new
quiet law {h} e {old} new a b f none down same keeps up = free_same law e a b none (λ d first last is. kept_at h old new d keeps is) ∙ f (sym down ∙ up) ∙ sym same

still : RowsKeepTheirOrder → {h : List Event} (e : Event) {old : Shelf} (new : Shelf) → Known h old → Known (e ∷ h) new → Freed h old → opened_in e.output ≡ None → new ≡ old → Freed (e ∷ h) new
still law e {old} new a b f none same = quiet law e new a b f none (ap (λ (s : Shelf). s.is_down) same) (ap (λ (s : Shelf). s.free) same) (keeps_same old.rows new.rows (ap (λ (s : Shelf). s.rows) same))

left : RowsKeepTheirOrder → {h : List Event} (e : Event) {old : Shelf} (new : Shelf) (local : ℕ) (before after : Row) → Known h old → Known (e ∷ h) new → Freed h old → opened_in e.output ≡ None
    → get old.rows local ≡ Some before → new.rows ≡ keep old.rows local after → after.birth ≡ before.birth → new.is_down ≡ old.is_down → new.free ≡ free_with old.free local after → Freed (e ∷ h) new
left law {h} e {old} new local before after a b f none was rows birth down same up =
    free_left law e before after a b none (one_left old new local before after was rows) birth
    ∙ ap (λ fs. cond (row_held after) fs (fs ++ serial_of local ∷ [])) (f (sym down ∙ up)) ∙ sym same

-- a message

closes : RowsKeepTheirOrder → {h : List Event} (e : Event) {old : Shelf} (closed new : Shelf) (closes : Option ℕ) → Known h old → Known (e ∷ h) new → Freed h old → opened_in e.output ≡ None → ClosesOne old closes closed
    → new.rows ≡ closed.rows → new.is_down ≡ closed.is_down → new.free ≡ closed.free → Freed (e ∷ h) new
closes law e {old} closed new None a b f none c rows down same =
    quiet law e new a b f none (down ∙ ap (λ (s : Shelf). s.is_down) c) (same ∙ ap (λ (s : Shelf). s.free) c) (keeps_same old.rows new.rows (rows ∙ ap (λ (s : Shelf). s.rows) c))
closes law e closed new (Some local) a b f none c rows down same =
    left law e new local c.before c.after a b f none c.was (rows ∙ ap (λ (s : Shelf). s.rows) c.new_is) c.ends.same.birth (down ∙ ap (λ (s : Shelf). s.is_down) c.new_is) (same ∙ ap (λ (s : Shelf). s.free) c.new_is)

opens : RowsKeepTheirOrder → {h : List Event} (step : Step) {came : Prepared} {answer : Posted} (components : ℕ) {old : Shelf} (new : Shelf) {peer : Tid} → Known h old → Known (posts step came answer components ∷ h) new → Freed h old
    → OpensDialogue old peer came answer new → Freed (posts step came answer components ∷ h) new
opens law {h} step {came} {answer} components {old} new a b f g up =
    let e = posts step came answer components in let l = identifier (base old) g.serial in
    free_opened law e g.after a b (ap (λ a. opened_in (Output.Posted a components)) g.answer_is) (one_put old new l None g.after (fresh_at a.sound g.first) (ap (λ (s : Shelf). s.rows) g.new_is))
    (g.extends.same.birth ∙ g.opens.birth_is ∙ ap (λ n. n + 1) (sym a.tied.births_are))
    ∙ ap (without_first (Some l)) (f (sym (ap (λ (s : Shelf). s.is_down) g.new_is) ∙ up) ∙ g.first) ∙ sym (ap (λ (s : Shelf). s.free) g.new_is)

followed : RowsKeepTheirOrder → {h : List Event} (step : Step) (came : Prepared) (answer : Posted) (components : ℕ) {old : Shelf} (new : Shelf) (v : Verdict) → Known h old → Known (posts step came answer components ∷ h) new → Freed h old
    → Follows v old came answer new → Freed (posts step came answer components ∷ h) new
followed law step came answer components {old} new Verdict.Discard a b f g =
    quiet law (posts step came answer components) new a b f (ap (λ a. opened_in (Output.Posted a components)) g.answer_is) (ap (λ (s : Shelf). s.is_down) g.new_is) (ap (λ (s : Shelf). s.free) g.new_is)
    (keeps_same old.rows new.rows (ap (λ (s : Shelf). s.rows) g.new_is))
followed law step came answer components {old} new (Verdict.Refuse cause closed) a b f g =
    let abort = abort_for (length old.outbox.aborts) cause (arrival_of came).ids.orig in
    let with = answered_with g.closed closed abort answer g.answered g.answering in
    closes law (posts step came answer components) g.closed new closed a b f (refused_opens components g.closed closed abort answer g.answered g.answering) g.closing
    (ap (λ (s : Shelf). s.rows) g.new_is ∙ ap (λ (s : Shelf). s.rows) with.1) (ap (λ (s : Shelf). s.is_down) g.new_is ∙ ap (λ (s : Shelf). s.is_down) with.1)
    (ap (λ (s : Shelf). s.free) g.new_is ∙ ap (λ (s : Shelf). s.free) with.1)
followed law step came answer components new (Verdict.Open peer) a b f g = opens law step components new a b f g
followed law step came answer components {old} new (Verdict.Extend local false) a b f g =
    quiet law (posts step came answer components) new a b f (ap (λ a. opened_in (Output.Posted a components)) g.answer_is) (ap (λ (s : Shelf). s.is_down) g.new_is) (ap (λ (s : Shelf). s.free) g.new_is)
    (keeps_one g.before g.after (one_put old new local (Some g.before) g.after g.was (ap (λ (s : Shelf). s.rows) g.new_is)) g.extends.same.birth)
followed law step came answer components new (Verdict.Extend local true) a b f g =
    left law (posts step came answer components) new local g.before g.after a b f (ap (λ a. opened_in (Output.Posted a components)) g.answer_is) g.was (ap (λ (s : Shelf). s.rows) g.new_is) (g.ends.same.birth ∙ g.extends.same.birth)
    (ap (λ (s : Shelf). s.is_down) g.new_is) (ap (λ (s : Shelf). s.free) g.new_is)

-- what was being sent was

sent : RowsKeepTheirOrder → {h : List Event} (e : Event) {old : Shelf} (new : Shelf) (content : Content) → Known h old → Known (e ∷ h) new → Freed h old → opened_in e.output ≡ None → Sends old content new → Freed (e ∷ h) new
sent law e {old} new (Content.Abort frame) a b f none g =
    quiet law e new a b f none (ap (λ (s : Shelf). s.is_down) g.new_is) (ap (λ (s : Shelf). s.free) g.new_is) (keeps_same old.rows new.rows (ap (λ (s : Shelf). s.rows) g.new_is))
sent law e new (Content.Frame w) a b f none g =
    left law e new w.local g.before g.after a b f none g.was (ap (λ (s : Shelf). s.rows) g.new_is) g.sends.same.birth (ap (λ (s : Shelf). s.is_down) g.new_is) (ap (λ (s : Shelf). s.free) g.new_is)

abbrev FreesTo : List Event → Option Prepared → Shelf → Step → Output → Type 0
FreesTo h came new step output = Known (event step came output ∷ h) new → Freed (event step came output ∷ h) new

frees : RowsKeepTheirOrder → {h : List Event} (came : Option Prepared) {old : Shelf} (new : Shelf) → Known h old → Freed h old → Cases (FreesTo h came new) came old new
frees law {h} came {old} new a f =
    let same : (step : Step) (output : Output) → opened_in output ≡ None → new ≡ old → FreesTo h came new step output = λ step output none is b. still law (event step came output) new a b f none is in
    record {
      posted = λ step posting p answer components is count g totals. subst (λ c. FreesTo h c new step (Output.Posted answer components)) (sym is) (λ b. followed law step p answer components new (verdict old p) a b f g);
      none_posted = λ step posting empty is. same step Output.Nothing refl is;
      ticked = λ moment added wanting none g b. quiet law (event (Step.Tick moment) came (Output.Ticked added wanting)) new a b f refl (ap (λ (s : Shelf). s.is_down) g.new_is) (ap (λ (s : Shelf). s.free) g.new_is)
          (λ l row was. keeps_clocked (list_any (λ (d : Due). eqb d.1 l) g.due) moment (get old.rows l) (get new.rows l) row (g.rows l) was);
      took = λ turn g b. quiet law (event Step.Take came (Output.Took turn.local turn.position (length turn.entries))) new a b f refl (ap (λ (s : Shelf). s.is_down) g.new_is) (ap (λ (s : Shelf). s.free) g.new_is)
          (keeps_one g.before g.after (one_put old new turn.local (Some g.before) g.after g.was (ap (λ (s : Shelf). s.rows) g.new_is)) g.takes.same.birth);
      no_room = λ some full is. same Step.Take Output.NoRoom refl is;
      none_taken = λ empty is. same Step.Take Output.Nothing refl is;
      gave = λ done given g b. left law (event (Step.Give done.turn.local) came (Output.Gave done.turn.local done.turn.position done.served given)) new done.turn.local g.before g.after a b f refl g.was
          (ap (λ (s : Shelf). s.rows) g.new_is) g.gives.same.birth (ap (λ (s : Shelf). s.is_down) g.new_is) (ap (λ (s : Shelf). s.free) g.new_is);
      none_given = λ local out is. same (Step.Give local) Output.Nothing refl is;
      went_back = λ turn g b. left law (event (Step.PutBack turn.local) came Output.WentBack) new turn.local g.before g.after a b f refl g.was (ap (λ (s : Shelf). s.rows) g.new_is) g.puts.same.birth
          (ap (λ (s : Shelf). s.is_down) g.new_is) (ap (λ (s : Shelf). s.free) g.new_is);
      none_back = λ local out is. same (Step.PutBack local) Output.Nothing refl is;
      picked = λ content frame is g b. quiet law (event Step.Pick came (Output.Picked (parcel_local content) frame)) new a b f refl (ap (λ (s : Shelf). s.is_down) g.new_is) (ap (λ (s : Shelf). s.free) g.new_is)
          (keeps_same old.rows new.rows (ap (λ (s : Shelf). s.rows) g.new_is));
      busy = λ some is. same Step.Pick Output.Busy refl is;
      none_picked = λ empty is. same Step.Pick Output.Nothing refl is;
      sent = λ content g b. sent law (event Step.Sent came Output.Sent) new content a b f refl g;
      none_sent = λ empty is. same Step.Sent Output.Nothing refl is;
      unsent = λ parcel g b up. absurd (true≢false (ap (λ (s : Shelf). s.is_down) (sym g.down.new_is) ∙ up));
      none_unsent = λ empty is. same Step.Unsent Output.Nothing refl is;
      down = λ g b up. absurd (true≢false (ap (λ (s : Shelf). s.is_down) (sym g.new_is) ∙ up));
    }

-- each step keeps them the same
pub Freed-makes : RowsKeepTheirOrder → {h : List Event} (e : Event) {old : Shelf} (new : Shelf) → Known h old → Freed h old → MakesOf e.step e.came e.output old new → Known (e ∷ h) new → Freed (e ∷ h) new
Freed-makes law {h} e new a f g = by_made (FreesTo h e.came new) e.step e.output (frees law e.came new a f) g
