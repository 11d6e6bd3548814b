-- What a book keeps if one of its dialogues changes, and what a call may rely on.
use Rattle.fp_book.proofs.Names.{AreTimed, Changes, HasRoom, Inside, IsKept, List, LoggedStep, None, Option, Outbox, Row, Shelf, Some, Sound, Totals, accepted_by, all_entries, ap, arith, cond, deadline_at, deadline_of, eq-eqb, eqb, false, gone_of, has_clock, inl, inr, is_admitted, is_ready, is_some, length, link_with_tag, most_dialogues, most_places, nat_cmp, next_due, not, one_if, refl, sent_by, served_by, shelf_of, subst, sum_of, sym, turns_of, with_deadline, ℕ, ◌&&◌, ◌+◌, ◌-◌, ◌<◌, ◌∙◌, ◌≡◌, ◌≤◌, ◌*◌}
use Rattle.std.specs.FinMap as map
use Rattle.fp_book.proofs.Changes.{by_held, by_local, not_held, one_if_most, ready, turns_left}
use Rattle.fp_book.proofs.Sums.{OneChanges, Rows, amount, get-inserted, get-removed, inserted, kept, left_of, len-sum, removed, sum-le, sum-zero, sums-le, zero_of}

-- what was counted of the dialogues that are gone is what the others leave
gone_seen : (s : Shelf) → Sound s → gone_of s.totals s.rows ≡ s.gone
gone_seen s k =
    let a : s.totals.accepted - sum_of accepted_by s.rows ≡ s.gone.accepted = omega (arith, k.accepted) in
    let b : s.totals.served - sum_of served_by s.rows ≡ s.gone.served = omega (arith, k.served) in
    let c : s.totals.sent - sum_of sent_by s.rows ≡ s.gone.sent = omega (arith, k.sent) in
    rw (a, b, c) refl

-- what is seen of the parts of a book, with what was counted of the dialogues that are gone
abbrev pub seen_with : Inside → Totals → Shelf
seen_with b gone = record (shelf_of b) { gone = gone }

-- a book keeps what books keep, and this holds of it
pub record Leaves (b : Inside) (Is : Shelf → Type 0) : Type 0 where
  pub kept : IsKept b
  pub is : Is (shelf_of b)

-- so it is, if this holds of what is seen of its parts, and what it holds of is sound
pub leaves : (b : Inside) (gone : Totals) (Is : Shelf → Type 0) → ((s : Shelf) → Is s → Sound s) → Is (seen_with b gone) → link_with_tag b.ids.link b.ids.tag ≡ link_with_tag b.link b.tag → b.turns ≡ sum_of turns_of b.rows → AreTimed b.deadlines b.rows
    → Leaves b Is
leaves b gone Is law is links turns timed =
    let sound : Sound (seen_with b gone) = law (seen_with b gone) is in
    let same : seen_with b gone ≡ shelf_of b = ap (λ (g : Totals). seen_with b g) (sym (gone_seen (seen_with b gone) sound)) in
    record { kept = record { sound = subst Sound same sound; links = links; turns = turns; timed = timed }; is = subst Is same is }

-- two books are alike in their parts
pub same_parts : (s : Shelf) {free free_then : List ℕ} {rows rows_then : Rows} {ready ready_then : List ℕ} {outbox outbox_then : Outbox} {log log_then : List LoggedStep} → free ≡ free_then → rows ≡ rows_then → ready ≡ ready_then
    → outbox ≡ outbox_then → log ≡ log_then
    → record s { free = free; rows = rows; ready = ready; outbox = outbox; log = log } ≡ record s { free = free_then; rows = rows_then; ready = ready_then; outbox = outbox_then; log = log_then }
same_parts s e a b c d = rw (e, a, b, c, d) refl

-- deadlines

abbrev pub Deadlines : Type 0
Deadlines = map.FinMap nat_cmp ℕ

-- what an identifier has then
deadline-set : (m : Deadlines) (local : ℕ) (o : Option ℕ) (q : ℕ) → map.get (with_deadline m local o) q ≡ cond (eqb q local) o (map.get m q)
deadline-set m local None q = get-removed m local q
deadline-set m local (Some deadline) q = get-inserted m local deadline q

pub deadline-here : (m : Deadlines) (local : ℕ) (o : Option ℕ) → map.get (with_deadline m local o) local ≡ o
deadline-here m local o = deadline-set m local o local ∙ ap (λ b. cond b o (map.get m local)) (eq-eqb local local refl)

pub deadline-other : (m : Deadlines) (local : ℕ) (o : Option ℕ) (d : ℕ) → eqb d local ≡ false → map.get (with_deadline m local o) d ≡ map.get m d
deadline-other m local o d ne = deadline-set m local o d ∙ ap (λ b. cond b o (map.get m d)) ne

-- a dialogue of which nothing is left isn't admitted, and has none
pub no_deadline : (row : Row) → is_admitted row ≡ false → deadline_of row ≡ None
no_deadline row e = ap (λ b. cond (b && not (has_clock row)) (Some (next_due row.core)) None) e

pub deadline_left : (row : Row) → deadline_at (left_of row) ≡ deadline_of row
deadline_left row = by_held row (λ o. deadline_at o ≡ deadline_of row) (λ h. refl) (λ h. sym (no_deadline row (not_held row h).admitted))

-- the deadlines are those of the dialogues still
pub timed_at : (m : Deadlines) (old new : Rows) (local : ℕ) (before left : Option Row) (o : Option ℕ) → AreTimed m old → OneChanges old new local before left → o ≡ deadline_at left
    → AreTimed (with_deadline m local o) new
timed_at m old new local before left o timed one is d =
    by_local d local (λ d. map.get (with_deadline m local o) d ≡ deadline_at (map.get new d))
    (deadline-here m local o ∙ is ∙ sym (ap deadline_at one.there))
    (λ ne. deadline-other m local o d ne ∙ timed d ∙ sym (ap deadline_at (one.others d ne)))

pub timed_inserted : (m : Deadlines) (rows : Rows) (local : ℕ) (before : Option Row) (after : Row) → map.get rows local ≡ before → AreTimed m rows → AreTimed (with_deadline m local (deadline_of after)) (map.insert rows local after)
timed_inserted m rows local before after was timed = timed_at m rows (map.insert rows local after) local before (Some after) (deadline_of after) timed (inserted rows local before after was) refl

-- if one dialogue changes

pub changed : {R : Row → Row → Type 0} {old new : Rows} {local : ℕ} → (g : Changes R old local new) → OneChanges old new local (Some g.before) (left_of g.after)
changed {R} {old} {new} {local} g = subst (λ r. OneChanges old r local (Some g.before) (left_of g.after)) (sym g.rows) (kept old local (Some g.before) g.after g.was)

-- as many turns are out as those of the dialogues
pub turns_by : {R : Row → Row → Type 0} {old new : Rows} {local : ℕ} → (turns turns_then : ℕ) (g : Changes R old local new) → turns ≡ sum_of turns_of old
    → turns_then + turns_of g.before ≡ turns + turns_of g.after → turns_then ≡ sum_of turns_of new
turns_by turns turns_then g was is = omega (arith, was, is, (changed g).sums turns_of, turns_left g.after)

-- the deadlines are those of the dialogues
pub timed_by : {R : Row → Row → Type 0} {old new : Rows} {local : ℕ} → (m m_then : Deadlines) (g : Changes R old local new) → AreTimed m old → m_then ≡ with_deadline m local (deadline_of g.after) → AreTimed m_then new
timed_by {R} {old} {new} {local} m m_then g timed is =
    subst (λ m. AreTimed m new) (sym is) (timed_at m old new local (Some g.before) (left_of g.after) (deadline_of g.after) timed (changed g) (sym (deadline_left g.after)))

-- so they are if that of the dialogue stays
pub timed_still : {R : Row → Row → Type 0} {old new : Rows} {local : ℕ} → (m : Deadlines) (g : Changes R old local new) → AreTimed m old → deadline_of g.after ≡ deadline_of g.before → AreTimed m new
timed_still {R} {old} {new} {local} m g timed is d =
    by_local d local (λ d. map.get m d ≡ deadline_at (map.get new d))
    (timed local ∙ ap deadline_at g.was ∙ sym is ∙ sym (deadline_left g.after) ∙ sym (ap deadline_at (changed g).there))
    (λ ne. timed d ∙ sym (ap deadline_at ((changed g).others d ne)))

-- no identifier has a deadline but those of dialogues
none_timed : (m : Deadlines) (rows : Rows) → AreTimed m rows → (q : ℕ) → map.get rows q ≡ None → map.get m q ≡ None
none_timed m rows timed q none = timed q ∙ ap deadline_at none

one_at_most : (o : Option ℕ) → 0 + amount {X = ℕ} (λ _. 1) o ≤ 1 + amount {X = ℕ} zero_of o
one_at_most None = omega arith
one_at_most (Some deadline) = omega arith

-- there are no more deadlines than dialogues
few_deadlines : (m : Deadlines) (rows : Rows) → ((q : ℕ) → map.get rows q ≡ None → map.get m q ≡ None) → map.len m ≤ map.len rows
few_deadlines m rows none =
    omega (arith, sums-le zero_of (λ _. 1) (λ _. 1) zero_of rows m none (λ q row is. one_at_most (map.get m q)), len-sum m, len-sum rows, sum-zero m, sum-zero rows)

-- so a new dialogue has room for one
pub room_for_new : (m : Deadlines) (rows : Rows) (local : ℕ) → AreTimed m rows → map.len rows < most_dialogues → HasRoom m local
room_for_new m rows local timed few = inr (omega (arith, few_deadlines m rows (none_timed m rows timed)))

-- and so has one that is there
none_without : (m : Deadlines) (rows : Rows) (local : ℕ) → AreTimed m rows → map.get m local ≡ None → (q : ℕ) → map.get (map.remove rows local) q ≡ None → map.get m q ≡ None
none_without m rows local timed none q gone =
    by_local q local (λ q. map.get (map.remove rows local) q ≡ None → map.get m q ≡ None)
    (λ _. none)
    (λ ne e. none_timed m rows timed q (sym ((removed rows local (map.get rows local) refl).others q ne) ∙ e)) gone

room_by : (m : Deadlines) (rows : Rows) (local : ℕ) (row : Row) → AreTimed m rows → map.get rows local ≡ Some row → map.len rows ≤ most_dialogues → (o : Option ℕ) → map.get m local ≡ o → HasRoom m local
room_by m rows local row timed was few (Some deadline) is = inl (ap is_some is)
room_by m rows local row timed was few None is =
    let fewer : map.len m ≤ map.len (map.remove rows local) = few_deadlines m (map.remove rows local) (none_without m rows local timed is) in
    let sums : sum_of (λ _. 1) (map.remove rows local) + 0 + 1 ≡ sum_of (λ _. 1) rows + 0 = omega (arith, (removed rows local (Some row) was).sums (λ _. 1)) in
    inr (omega (arith, fewer, sums, len-sum rows, len-sum (map.remove rows local)))

pub room_for : (m : Deadlines) (rows : Rows) (local : ℕ) (row : Row) → AreTimed m rows → map.get rows local ≡ Some row → map.len rows ≤ most_dialogues → HasRoom m local
room_for m rows local row timed was few = room_by m rows local row timed was few (map.get m local) refl

-- what one dialogue adds is within the sum
pub amount_within : (f : Row → ℕ) (rows : Rows) (local : ℕ) (row : Row) → map.get rows local ≡ Some row → f row ≤ sum_of f rows
amount_within f rows local row was = let one = (removed rows local (Some row) was).sums f in omega arith

-- if one dialogue adds less to a sum than to another, and none adds more, that sum is smaller
pub sum_less : (f g : Row → ℕ) (rows : Rows) (local : ℕ) (row : Row) → ((r : Row) → f r ≤ g r) → map.get rows local ≡ Some row → f row < g row → sum_of f rows < sum_of g rows
sum_less f g rows local row le was less =
    let a = (removed rows local (Some row) was).sums f in
    let b = (removed rows local (Some row) was).sums g in
    let c = sum-le f g (map.remove rows local) le in
    omega (arith, a, b, c, less)

-- a dialogue that isn't ready may join those that are
pub place_of_idle : (rows : Rows) (queue : List ℕ) (local : ℕ) (row : Row) → length queue ≡ sum_of ready rows → map.len rows ≤ most_dialogues → map.get rows local ≡ Some row → is_ready row ≡ false → length queue < most_dialogues
place_of_idle rows queue local row all held was idle =
    let less : sum_of ready rows < sum_of (λ _. 1) rows = sum_less ready (λ _. 1) rows local row (λ r. one_if_most (is_ready r)) was (omega (arith, ap one_if idle)) in
    omega (arith, less, all, held, len-sum rows)

pub place_to_join : (s : Shelf) (local : ℕ) (row : Row) → Sound s → map.get s.rows local ≡ Some row → is_ready row ≡ false → length s.ready < most_dialogues
place_to_join s local row k was idle = place_of_idle s.rows s.ready local row k.ready_length k.held was idle

-- so may a new one
pub place_for_new : (s : Shelf) → Sound s → map.len s.rows < most_dialogues → length s.ready < most_dialogues
place_for_new s k few = omega (arith, k.ready_length, sum-le ready (λ _. 1) s.rows (λ r. one_if_most (is_ready r)), len-sum s.rows, few)

-- the entries that are out hold a place each for its frame
pub place_to_queue : (s : Shelf) (local : ℕ) (row : Row) (count : ℕ) → Sound s → map.get s.rows local ≡ Some row → count ≤ row.out → length s.outbox.frames + count ≤ most_places
place_to_queue s local row count k was few =
    let here : turns_of row ≤ sum_of turns_of s.rows = amount_within turns_of s.rows local row was in
    omega (arith, here, few, k.places)

-- no more entries are out than there are places
pub out_few : (s : Shelf) (local : ℕ) (row : Row) → Sound s → map.get s.rows local ≡ Some row → row.out ≤ most_places
out_few s local row k was =
    let here : turns_of row ≤ sum_of turns_of s.rows = amount_within turns_of s.rows local row was in
    omega (arith, here, k.places)

-- no total is above the number of all entries
pub few_served : (s : Shelf) → Sound s → s.totals.served ≤ s.entries
few_served s k = omega (arith, k.served, k.all_entries, sum-le served_by (λ (row : Row). length row.accepted) s.rows (λ row. row.served_within))

pub few_entries : (s : Shelf) → Sound s → s.entries ≤ all_entries + 2 * most_dialogues
few_entries s k = omega (arith, k.entries)
