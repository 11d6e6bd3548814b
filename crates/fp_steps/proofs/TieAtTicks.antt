-- A tick keeps the tie between a book and its history: those that are given a Clock are all that are due.
use Rattle.fp_steps.proofs.Names.{AllByRecursion, Bool, Clock, ClocksAt, Due, Entry, Event, IsDue, IsGone, IsTied, List, None, OneChanges, Option, Output, Prepared, Row, Rows, Shelf, Some, Step, Ticks, Tied, TiedAt, [], accepted, admits_on, all_entries, amount, ap, append-nil, arith, births, book_is_full, cases_Bool, cond, core_in, core_on, count_by, course, drop, due_at, ending, entry_at, eqb, eqb-true, false, get, has_clock, has_clock_on, is_admitted, is_clock, is_full, is_over, is_some, length, list_any, nat_le, nat_lt, nat_tests, next_due, not, option_map_or, or_parts, positions, queued, recursion_from_All, refl, remove, removed, row_at, row_is_due, same_Some, sent, slice_index_or, story, subst, sum_of, sym, true, ℕ, ⊎_elim, ◌&&◌, ◌++◌, ◌+◌, ◌<◌, ◌||◌, ◌∙◌, ◌∷◌, ◌≡◌, ◌≤◌}
use Rattle.fp_book.proofs.Clocks.{Apart, apart}
use Rattle.fp_steps.proofs.HeldDialogues.{count_tied, Held, born_at, core_tied, event, held_at, live_tied, not_born, same_story, stays, eqb_swap}
use Rattle.fp_steps.proofs.TieAtMessages.{tied_extends}
use Rattle.fp_steps.proofs.TieNext.{Stay, Tied-next, quiet, rows_next}

-- whether a dialogue is among those
abbrev pub among : ℕ → List Due → Bool
among q due = list_any (λ (d : Due). eqb d.1 q) due

-- each of these adds one to a sum
record Adds (f : Row → ℕ) (rows : Rows) (d : Due) : Type 0 where
  row : Row
  was : get rows d.1 ≡ Some row
  one : f row ≡ 1

-- so it does where another dialogue is taken off
others_add : (f : Row → ℕ) (rows then : Rows) (l : ℕ) (due : List Due) → ((q : ℕ) → eqb q l ≡ false → get then q ≡ get rows q) → AllByRecursion (λ (e : Due). eqb l e.1 ≡ false) due
    → AllByRecursion (Adds f rows) due → AllByRecursion (Adds f then) due
others_add f rows then l [] same none adds = tt
others_add f rows then l (d ∷ due) same none adds =
    let first : Adds f rows d = adds.0 in
    (record { row = first.row; was = same d.1 (eqb_swap l d.1 none.0) ∙ first.was; one = first.one }, others_add f rows then l due same none.1 adds.1)

-- so many are lacks more than the sum
few : (f : Row → ℕ) (due : List Due) (rows : Rows) → Apart due → AllByRecursion (Adds f rows) due → length due ≤ sum_of f rows
few f [] rows two adds = omega arith
few f (d ∷ due) rows two adds =
    let first : Adds f rows d = adds.0 in
    let off : OneChanges rows (remove rows d.1) d.1 (Some first.row) None = removed rows d.1 (Some first.row) first.was in
    let rest : length due ≤ sum_of f (remove rows d.1) = few f due (remove rows d.1) two.1 (others_add f rows (remove rows d.1) d.1 due off.others two.0 adds.1) in
    let one : f first.row ≡ 1 = first.one in
    let sums : sum_of f (remove rows d.1) + f first.row ≡ sum_of f rows + 0 = off.sums f in
    omega (arith, rest, one, sums)

none_of : (l : ℕ) (due : List Due) → among l due ≡ false → AllByRecursion (λ (e : Due). eqb l e.1 ≡ false) due
none_of l [] none = tt
none_of l (d ∷ due) none =
    let parts : (eqb d.1 l ≡ false) × (among l due ≡ false) = or_parts (eqb d.1 l) (among l due) none in
    (eqb_swap d.1 l parts.0, none_of l due parts.1)

-- where they are as many as the sum, one that isn't among them adds nothing
adds_none : (f : Row → ℕ) (rows : Rows) (due : List Due) → Apart due → AllByRecursion (Adds f rows) due → length due ≡ sum_of f rows → (l : ℕ) (row : Row) → get rows l ≡ Some row → among l due ≡ false → f row ≡ 0
adds_none f rows due two adds all l row was none =
    let off : OneChanges rows (remove rows l) l (Some row) None = removed rows l (Some row) was in
    let rest : length due ≤ sum_of f (remove rows l) = few f due (remove rows l) two (others_add f rows (remove rows l) l due off.others (none_of l due none) adds) in
    let sums : sum_of f (remove rows l) + f row ≡ sum_of f rows + 0 = off.sums f in
    omega (arith, rest, sums, all)

-- and one that is adds one
adds_one : (f : Row → ℕ) (rows : Rows) (due : List Due) → AllByRecursion (Adds f rows) due → (l : ℕ) (row : Row) → get rows l ≡ Some row → among l due ≡ true → f row ≡ 1
adds_one f rows [] adds l row was is = absurd (cc)
adds_one f rows (d ∷ due) adds l row was is =
    let first : Adds f rows d = adds.0 in
    ⊎_elim
    (λ here. ap f (same_Some row first.row (sym was ∙ ap (get rows) (sym (eqb-true d.1 l here)) ∙ first.was)) ∙ first.one)
    (λ other. adds_one f rows due adds.1 l row was (ap (λ b. b || among l due) (sym other) ∙ is))
    (cases_Bool (eqb d.1 l))

abbrev due_now : Shelf → ℕ → Row → ℕ
due_now s moment row = cond (due_at s moment row) 1 0

due_by : (x b : Bool) → (x ≡ true → cond {A = ℕ} b 1 0 ≡ 1) → (x ≡ false → cond {A = ℕ} b 1 0 ≡ 0) → x ≡ b
due_by x b has lacks = grind (arith, nat_tests)

-- all that are due are among those that are given a Clock
all_due : {old new : Shelf} {moment added wanting : ℕ} → wanting ≡ 0 → (g : Ticks old moment added wanting new) → (l : ℕ) (row : Row) → get old.rows l ≡ Some row → among l g.due ≡ due_at old moment row
all_due {old} {moment} {added} {wanting} none g l row was =
    let f : Row → ℕ = due_now old moment in let adds : AllByRecursion (Adds f old.rows) g.due =
    recursion_from_All (Adds f old.rows) g.due (λ k x within.
    let is : IsDue old moment (slice_index_or g.due k x) = g.are_due k x within in
    record { row = is.row; was = is.was; one = ap (λ b. cond {A = ℕ} b 1 0) is.now }) in
    let two : Apart g.due = apart old moment g.due g.in_order g.are_due in
    let count : added + wanting ≡ sum_of f old.rows = g.wanting_is in
    let all : length g.due ≡ sum_of f old.rows = let a : added ≡ length g.due = g.added_is in omega (arith, a, count, none) in
    due_by (among l g.due) (due_at old moment row) (adds_one f old.rows g.due adds l row was) (adds_none f old.rows g.due two adds all l row was)

-- the same, by the story

due_of : (a b : Bool) (n moment : ℕ) → option_map_or (λ deadline. nat_le deadline moment) (cond (a && b) (Some n) None) false ≡ ((a && b) && nat_le n moment)
due_of a b n moment = grind (arith, nat_tests)

-- where the link isn't full
abbrev is_next : List Event → ℕ → ℕ → Bool
is_next h moment d = (admits_on h d (course h d) && not (has_clock_on h d (accepted h d))) && nat_le (next_due (core_on h d (accepted h d))) moment

due_tied : (h : List Event) (moment : ℕ) {d : ℕ} {row : Row} → 0 < d → d ≤ births h → IsTied d (story h d) row → is_next h moment d ≡ row_is_due row moment
due_tied h moment {d} {row} first last k =
    let admits : admits_on h d (course h d) ≡ is_admitted row = ap (λ b. b && (not (is_some (ending h d)) && not (is_over (core_in d (story h d))))) (born_at d (births h) first last) ∙ live_tied k in
    let clock : has_clock_on h d (accepted h d) ≡ has_clock row =
    λ i. nat_lt 0 (count_by (λ (entry : Entry). is_clock entry.kind) (drop (count_tied k i) (k.accepts i)))
    in
    (λ i. (admits i && not (clock i)) && nat_le (next_due (core_tied k i)) moment) ∙ sym (due_of (is_admitted row) (not (has_clock row)) (next_due row.core) moment)

-- the story of a dialogue at a tick
abbrev pub clock_in : List Event → ℕ → ℕ → Bool
clock_in h moment d = not (is_full h) && is_next h moment d

-- that is so where the book gives it one
clock_is : {h : List Event} {s : Shelf} (moment : ℕ) {local d : ℕ} {row : Row} → Tied h s → Held h local d row → clock_in h moment d ≡ due_at s moment row
clock_is {h} {s} moment {d = d} t held =
    ap (λ n. not (nat_le all_entries n) && is_next h moment d) t.entries_are ∙ ap (λ b. not (book_is_full s) && b) (due_tied h moment held.first held.last held.tied)

gone_due : (h : List Event) (moment d : ℕ) → admits_on h d (course h d) ≡ false → clock_in h moment d ≡ false
gone_due h moment d none = grind (arith, nat_tests)

abbrev ticks : Option Prepared → ℕ → ℕ → ℕ → Event
ticks came moment added wanting = event (Step.Tick moment) came (Output.Ticked added wanting)

tick_stays : (h : List Event) (came : Option Prepared) (moment added wanting d : ℕ) → clock_in h moment d ≡ false → story (ticks came moment added wanting ∷ h) d ≡ story h d
tick_stays h came moment added wanting d none = stays (ticks came moment added wanting) h d refl (ap (λ b. cond b (entry_at moment Clock ∷ []) []) none) refl refl refl refl refl

-- one that was given a Clock is tied, and so is one that wasn't
clocked_at : (h : List Event) (came : Option Prepared) (moment added wanting : ℕ) {d : ℕ} (x : Bool) {row : Row} (left : Option Row) → clock_in h moment d ≡ x
    → IsTied d (story h d) row → ClocksAt x moment (Some row) left
    → TiedAt (births h) d (story (ticks came moment added wanting ∷ h) d) left
clocked_at h came moment added wanting {d} false {row} left is k c =
    subst (TiedAt (births h) d (story (ticks came moment added wanting ∷ h) d)) (sym c) (subst (λ s. IsTied d s row) (sym (tick_stays h came moment added wanting d is)) k)
clocked_at h came moment added wanting true None is k c = absurd c
clocked_at h came moment added wanting {d} true (Some after) is k c =
    let entries = entry_at moment Clock ∷ [] in
    subst (λ s. IsTied d s after)
    (sym (same_story (story (ticks came moment added wanting ∷ h) d) (record (story h d) { accepts = accepted h d ++ entries }) refl (ap (λ b. accepted h d ++ cond b entries []) is)
    (append-nil (positions h d)) (append-nil (queued h d)) (append-nil (sent h d)) refl refl))
    (tied_extends k c)

-- none joins them
clocked_stay : (x : Bool) (moment : ℕ) (o : Option Row) (after : Row) → ClocksAt x moment o (Some after) → (before : Row) × (o ≡ Some before) × (after.birth ≡ before.birth)
clocked_stay false moment o after c = (after, sym c, refl)
clocked_stay true moment None after c = absurd c
clocked_stay true moment (Some before) after c = (before, refl, c.same.birth)

-- each dialogue that is due is given a Clock
pub Tied-ticks : {h : List Event} (came : Option Prepared) {old new : Shelf} {moment added wanting : ℕ} → Tied h old → wanting ≡ 0
    → Ticks old moment added wanting new → Tied (event (Step.Tick moment) came (Output.Ticked added wanting) ∷ h) new
Tied-ticks {h} came {old} {new} {moment} {added} {wanting} t nothing g =
    let e = ticks came moment added wanting in
    let stay : Stay old.rows new.rows = λ l after is. clocked_stay (among l g.due) moment (get old.rows l) after (subst (ClocksAt (among l g.due) moment (get old.rows l)) is (g.rows l)) in
    subst (Tied (e ∷ h)) (sym g.new_is)
    (Tied-next t (quiet e _ t refl (ap (λ n. n + added) t.entries_are) refl refl refl refl refl refl refl)
    stay
    (rows_next e new t stay (λ d none gone. subst (IsGone (births h) d) (sym (tick_stays h came moment added wanting d (gone_due h moment d gone.admitted))) gone)
    (λ l row was held.
    clocked_at h came moment added wanting (among l g.due) (get new.rows l) (clock_is moment t held ∙ sym (all_due nothing g l row was)) held.tied
    (subst (λ o. ClocksAt (among l g.due) moment o (get new.rows l)) was (g.rows l))))
    (λ d past. tick_stays h came moment added wanting d (gone_due h moment d (not_born h d past))))

-- what a dialogue adds to the number of those that are due
pub due_at_is : {h : List Event} {s : Shelf} (moment d : ℕ) (o : Option Row) → Tied h s → row_at h s d ≡ o → TiedAt (births h) d (story h d) o
    → amount (λ row. cond {A = ℕ} (due_at s moment row) 1 0) o ≡ cond {A = ℕ} (clock_in h moment d) 1 0
due_at_is {h} moment d None t was tied = ap (λ b. cond {A = ℕ} b 1 0) (sym (gone_due h moment d tied.admitted))
due_at_is moment d (Some row) t was tied = ap (λ b. cond {A = ℕ} b 1 0) (sym (clock_is moment t (held_at d row t was)))
