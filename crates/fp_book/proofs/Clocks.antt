-- To give dialogues a Clock keeps what a book keeps.
use Rattle.fp_book.proofs.Names.{All, AllByRecursion, AllPairs, Bool, Clock, ClocksAt, ComesFirst, Due, Ending, Entry, Extends, IsDue, List, LoggedStep, None, Option, Row, Shelf, Some, Sound, Ticks, Totals, [], add-zero, and_from, and_parts, ap, append-nil, append_assoc, arith, cond, deadline_of, due_at, entry_at, eq-eqb, eqb, eqb-true, false, false_from_ne_true, false≢true, get, has_clock, has_turn_out, idle_among, insert, is_admitted, is_among, is_closed, is_due, is_full, is_idle, is_over, is_ready, is_some, joins, leb-false, len, length, length-append, logged, lt-ltb, more_accepted, nat_eq, nat_lt, next_due, not, not-true, one_if, recursion_from_All, refl, slice_index_or, subst, suc, sum_of, sym, true, waits, ℕ, ⊎_elim, ⊤, ◌&&◌, ◌++◌, ◌+◌, ◌<◌, ◌||◌, ◌∙◌, ◌∷◌, ◌≡◌, ◌≤◌, most_dialogues, all_entries, ◌*◌}
use Rattle.fp_book.proofs.LowerLaws.{LowerLaws}
use Rattle.fp_book.proofs.Changes.{admitted, one, one_most}
use Rattle.fp_book.proofs.Extends.{Sound-extended, few_admitted, joined}
use Rattle.fp_book.proofs.Posts.{Sound-logs}
use Rattle.fp_book.proofs.Queue.{eqb_swap}
use Rattle.fp_book.proofs.Sums.{Rows, amount, get-inserted, len-sum, same_rows, sum-insert, sum-le}
use Rattle.fp_book.proofs.Turns.{admitted_as}
use Rattle.fp_book.specs.declared.line.LoggedStep.TheVariants as line

-- the Clock of a moment
abbrev pub clock : ℕ → List Entry
clock moment = entry_at moment Clock ∷ []

-- each of these dialogues is there once
abbrev pub Apart : List Due → Type 0
Apart [] = ⊤
Apart (d ∷ due) = AllByRecursion (λ (e : Due). eqb d.1 e.1 ≡ false) due × Apart due

-- a dialogue that takes messages, and so a Clock
record CanClock (s : Shelf) (d : Due) : Type 0 where
  row : Row
  was : get s.rows d.1 ≡ Some row
  takes_more : is_admitted row ≡ true

some_by : (b : Bool) (n m : ℕ) → cond b (Some n) None ≡ Some m → b ≡ true
some_by true n m e = refl
some_by false n m e = absurd (cc)

-- a dialogue that has a deadline takes messages
pub has_deadline : (row : Row) (deadline : ℕ) → deadline_of row ≡ Some deadline → is_admitted row ≡ true
has_deadline row deadline is = (and_parts (is_admitted row) (not (has_clock row)) (some_by (is_admitted row && not (has_clock row)) (next_due row.core) deadline is)).0

-- of two that are due one comes first, so they are two
two_apart : (s : Shelf) (moment : ℕ) (d e : Due) → ComesFirst d e → IsDue s moment d → IsDue s moment e → eqb d.1 e.1 ≡ false
two_apart s moment d e first a b =
    false_from_ne_true (eqb d.1 e.1) (λ is.
    let same : d.1 ≡ e.1 = eqb-true d.1 e.1 is in
    let row : a.row ≡ b.row = let found : Some a.row ≡ Some b.row = sym a.was ∙ ap (get s.rows) same ∙ b.was in cc in
    let deadline : d.0 ≡ e.0 = let found : Some d.0 ≡ Some e.0 = sym a.deadline ∙ ap deadline_of row ∙ b.deadline in cc in
    ⊎_elim {C = ⊥} (λ (less : d.0 < e.0). absurd (omega (arith, less, deadline))) (λ h. let less : d.1 < e.1 = h.1 in absurd (omega (arith, same))) first)

pub apart : (s : Shelf) (moment : ℕ) (due : List Due) → AllPairs ComesFirst due → All (IsDue s moment) due → Apart due
apart s moment [] order are = tt
apart s moment (d ∷ due) order are = (
  recursion_from_All (λ (e : Due). eqb d.1 e.1 ≡ false) due (λ k x within.
      two_apart s moment d (slice_index_or due k x) (order 0 (suc k) x (omega arith) (omega (arith, within))) (are 0 x (omega arith)) (are (suc k) x (omega (arith, within)))),
  apart s moment due (λ i j x less within. order (suc i) (suc j) x (omega (arith, less)) (omega (arith, within))) (λ k x within. are (suc k) x (omega (arith, within))),
)

can_all : (s : Shelf) (moment : ℕ) (due : List Due) → All (IsDue s moment) due → AllByRecursion (CanClock s) due
can_all s moment due are = recursion_from_All (CanClock s) due (λ k x within. let g : IsDue s moment (slice_index_or due k x) = are k x within in record { row = g.row; was = g.was; takes_more = has_deadline g.row _ g.deadline })

-- a dialogue that takes messages is ready once a Clock waits, unless its turn is out
not_some : (ended : Option Ending) → not (is_some ended) ≡ true → not (is_closed ended) ≡ true
not_some None e = refl
not_some (Some ending) e = absurd (false≢true e)

waits_then : (moment : ℕ) (before after : Row) → Extends before (clock moment) after → is_admitted before ≡ true → waits after ≡ true
waits_then moment before after g e =
    let both : (not (is_some before.ended) ≡ true) × (not (is_over before.core) ≡ true) = and_parts (not (is_some before.ended)) (not (is_over before.core)) e in
    let within : before.served ≤ length before.accepted = before.served_within in
    let then : before.served < length after.accepted = omega (arith, within, ap length g.accepted, length-append before.accepted (clock moment)) in
    rw (g.ended, g.stay.core, g.stay.served) (and_from (not (is_closed before.ended)) (not (is_over before.core) && nat_lt before.served (length after.accepted)) (not_some before.ended both.0)
    (and_from (not (is_over before.core)) (nat_lt before.served (length after.accepted)) both.1 (lt-ltb before.served (length after.accepted) then)))

joins_by : (out wait : Bool) → (not (not out && wait) && (not out && true)) ≡ (not out && not (not out && wait))
joins_by true true = refl
joins_by true false = refl
joins_by false true = refl
joins_by false false = refl

pub joins_is : (moment : ℕ) (before after : Row) → Extends before (clock moment) after → is_admitted before ≡ true → (not (is_ready before) && is_ready after) ≡ is_idle (Some before)
joins_is moment before after g e =
    ap (λ b. not (is_ready before) && (not b && waits after)) (ap (nat_lt 0) g.out)
    ∙ ap (λ b. not (is_ready before) && (not (has_turn_out before) && b)) (waits_then moment before after g e)
    ∙ joins_by (has_turn_out before) (waits before)

-- the dialogue got a Clock
clocked : (b : Bool) (moment : ℕ) (o left : Option Row) (before : Row) → ClocksAt b moment o left → b ≡ true → o ≡ Some before → (after : Row) × (left ≡ Some after) × Extends before (clock moment) after
clocked false moment o left before g is was = absurd (false≢true is)
clocked true moment o None before g is was = absurd g
clocked true moment None (Some after) before g is was = absurd g
clocked true moment (Some row) (Some after) before g is was = (after, refl, subst (λ r. Extends r (clock moment) after) (let same : row ≡ before = cc in same) g)

not_among : (q : ℕ) (due : List Due) → AllByRecursion (λ (e : Due). eqb q e.1 ≡ false) due → is_among q due ≡ false
not_among q [] none = refl
not_among q (d ∷ due) none = ap (λ b. b || is_among q due) (eqb_swap q d.1 none.0) ∙ not_among q due none.1

-- the others are as they were
others_can : (s then : Shelf) (l : ℕ) (due : List Due) → ((q : ℕ) → eqb q l ≡ false → get then.rows q ≡ get s.rows q) → AllByRecursion (λ (e : Due). eqb l e.1 ≡ false) due
    → AllByRecursion (CanClock s) due → AllByRecursion (CanClock then) due
others_can s then l [] same none can = tt
others_can s then l (d ∷ due) same none can =
    let first : CanClock s d = can.0 in
    (record { row = first.row; was = same d.1 (eqb_swap l d.1 none.0) ∙ first.was; takes_more = first.takes_more }, others_can s then l due same none.1 can.1)

idle_others : (rows rows_then : Rows) (l : ℕ) (due : List Due) → ((q : ℕ) → eqb q l ≡ false → get rows_then q ≡ get rows q) → AllByRecursion (λ (e : Due). eqb l e.1 ≡ false) due
    → idle_among rows_then due ≡ idle_among rows due
idle_others rows rows_then l [] same none = refl
idle_others rows rows_then l (d ∷ due) same none =
    ap (λ o. cond (is_idle o) (d.1 ∷ idle_among rows_then due) (idle_among rows_then due)) (same d.1 (eqb_swap l d.1 none.0))
    ∙ ap (λ xs. cond (is_idle (get rows d.1)) (d.1 ∷ xs) xs) (idle_others rows rows_then l due same none.1)

pub in_front : (l : ℕ) (b : Bool) (xs : List ℕ) → joins l b ++ xs ≡ cond b (l ∷ xs) xs
in_front l true xs = refl
in_front l false xs = refl

-- a book with other entries, dialogues, queue, counts and log
abbrev shelf_of : Shelf → ℕ → Rows → List ℕ → Totals → List LoggedStep → Shelf
shelf_of s entries rows ready totals log = record s { entries = entries; rows = rows; ready = ready; totals = totals; log = log }

same_shelf : (s : Shelf) (n m : ℕ) (r q : Rows) (x y : List ℕ) (t u : Totals) (log : List LoggedStep) → n ≡ m → r ≡ q → x ≡ y → t ≡ u → shelf_of s n r x t log ≡ shelf_of s m q y u log
same_shelf s n m r q x y t u log a b c d = rw (a, b, c, d) refl

-- each of these dialogues got a Clock
abbrev ticked : Shelf → Rows → List Due → List LoggedStep → Shelf
ticked s rows due log = shelf_of s (s.entries + length due) rows (s.ready ++ idle_among s.rows due) s.totals log

-- the other dialogues get theirs
clocks_others : (s then : Shelf) (rows : Rows) (moment : ℕ) (d : Due) (due : List Due) (after : Row) → get then.rows d.1 ≡ Some after → get rows d.1 ≡ Some after
    → ((q : ℕ) → eqb q d.1 ≡ false → get then.rows q ≡ get s.rows q) → is_among d.1 due ≡ false → (q : ℕ) (b : Bool) → eqb d.1 q ≡ b
    → ClocksAt (b || is_among q due) moment (get s.rows q) (get rows q) → ClocksAt (is_among q due) moment (get then.rows q) (get rows q)
clocks_others s then rows moment d due after there left same none q true is g =
    let here : d.1 ≡ q = eqb-true d.1 q is in
    subst (λ k. ClocksAt (is_among k due) moment (get then.rows k) (get rows k)) here
    (subst (λ b. ClocksAt b moment (get then.rows d.1) (get rows d.1)) (sym none) (left ∙ sym there))
clocks_others s then rows moment d due after there left same none q false is g =
    subst (λ o. ClocksAt (is_among q due) moment o (get rows q)) (sym (same q (eqb_swap d.1 q is))) g

Sound-ticked : LowerLaws → (due : List Due) (s : Shelf) (rows : Rows) (moment : ℕ) (log : List LoggedStep) → Sound s → Apart due → AllByRecursion (CanClock s) due
    → ((q : ℕ) → ClocksAt (is_among q due) moment (get s.rows q) (get rows q)) → s.entries + length due + sum_of admitted s.rows ≤ all_entries + 2 * most_dialogues → Sound (ticked s rows due log)
Sound-ticked law [] s rows moment log k two can clocks limit =
    let path : shelf_of s s.entries s.rows s.ready s.totals log ≡ ticked s rows [] log =
    same_shelf s s.entries (s.entries + 0) s.rows rows s.ready (s.ready ++ []) s.totals s.totals log (sym (add-zero s.entries)) (sym (same_rows rows s.rows clocks)) (sym (append-nil s.ready)) refl in
    subst Sound path (Sound-logs s log k)
Sound-ticked law (d ∷ due) s rows moment log k two can clocks limit =
    let l = d.1 in
    let first : CanClock s d = can.0 in
    let before = first.row in
    let got : (after : Row) × (get rows l ≡ Some after) × Extends before (clock moment) after =
    clocked (is_among l (d ∷ due)) moment (get s.rows l) (get rows l) before (clocks l) (ap (λ b. b || is_among l due) (eq-eqb l l refl)) first.was in
    let after = got.0 in
    let joins_it = is_idle (Some before) in
    let then : Shelf = record s {
      entries = s.entries + length (clock moment);
      rows = insert s.rows l after;
      ready = s.ready ++ joins l joins_it;
      totals = more_accepted s.totals (clock moment);
      log = log;
    } in
    let alike : admitted after ≡ admitted before = ap one_if (admitted_as before after got.2.ended got.2.stay.core) in
    let sound : Sound then = Sound-extended law s l before after (clock moment) joins_it log k first.was got.2
    (ap (λ b. one_if (is_ready before) + one_if b) (sym (joins_is moment before after got.2 first.takes_more)) ∙ joined (is_ready before) (is_ready after) got.2.ready_stays) (omega (arith, limit)) in
    let there : get then.rows l ≡ Some after = get-inserted s.rows l after l ∙ ap (λ b. cond b (Some after) (get s.rows l)) (eq-eqb l l refl) in
    let same : (q : ℕ) → eqb q l ≡ false → get then.rows q ≡ get s.rows q = λ q ne. get-inserted s.rows l after q ∙ ap (λ b. cond b (Some after) (get s.rows q)) ne in
    let was : amount admitted (get s.rows l) ≡ admitted before = ap (amount admitted) first.was in
    let rest : Sound (ticked then rows due log) =
    Sound-ticked law due then rows moment log sound two.1 (others_can s then l due same two.0 can.1)
    (λ q. clocks_others s then rows moment d due after there got.1 same (not_among l due two.0) q (eqb l q) refl (clocks q))
    (omega (arith, limit, alike, was, sum-insert admitted s.rows l after)) in
    let path : ticked then rows due log ≡ ticked s rows (d ∷ due) log =
    same_shelf s (s.entries + 1 + length due) (s.entries + length (d ∷ due)) rows rows ((s.ready ++ joins l joins_it) ++ idle_among then.rows due) (s.ready ++ idle_among s.rows (d ∷ due))
    (more_accepted s.totals (clock moment)) s.totals log (omega arith) refl
    (ap (λ xs. (s.ready ++ joins l joins_it) ++ xs) (idle_others s.rows then.rows l due same two.0)
    ∙ append_assoc s.ready (joins l joins_it) (idle_among s.rows due)
    ∙ ap (λ xs. s.ready ++ xs)
    (in_front l joins_it (idle_among s.rows due) ∙ ap (λ o. cond (is_idle o) (l ∷ idle_among s.rows due) (idle_among s.rows due)) (sym first.was)))
    (ap (λ (n : ℕ). record s.totals { accepted = n }) (add-zero s.totals.accepted)) in
    subst Sound path rest

-- no more dialogues pass a test than there are
pub few_pass : (test : Row → Bool) (rows : Rows) → sum_of (λ row. cond {A = ℕ} (test row) 1 0) rows ≤ len rows
few_pass test rows = omega (arith, len-sum rows, sum-le (λ row. cond {A = ℕ} (test row) 1 0) one rows (λ row. one_most (test row)))

-- as long as a dialogue is due, fewer than 2^63 entries were accepted
limit_by : (s : Shelf) (moment : ℕ) (due : List Due) → Sound s → All (IsDue s moment) due → length due ≤ most_dialogues → s.entries + length due + sum_of admitted s.rows ≤ all_entries + 2 * most_dialogues
limit_by s moment [] k are few = omega (arith, k.entries)
limit_by s moment (d ∷ due) k are few =
    let first : IsDue s moment d = are 0 d (omega arith) in
    let up : (not (is_full s) ≡ true) × (is_due first.row moment ≡ true) = and_parts (not (is_full s)) (is_due first.row moment) first.now in
    let room : s.entries < all_entries = leb-false all_entries s.entries (not-true (is_full s) up.0) in
    omega (arith, few, few_admitted s, k.held)

pub Sound-ticks : LowerLaws → (old new : Shelf) (moment added wanting : ℕ) → Sound old → Ticks old moment added wanting new → Sound new
Sound-ticks law old new moment added wanting s g =
    let few : length g.due ≤ most_dialogues = omega (arith, g.added_is, g.wanting_is, few_pass (due_at old moment) old.rows, s.held) in
    let log = cond (nat_eq (added + wanting) 0) old.log (logged old.log (line.Tick moment added wanting)) in
    let sound = Sound-ticked law g.due old new.rows moment log s (apart old moment g.due g.in_order g.are_due) (can_all old moment g.due g.are_due) g.rows (limit_by old moment g.due s g.are_due few) in
    let path : ticked old new.rows g.due log ≡ shelf_of old (old.entries + added) new.rows (old.ready ++ idle_among old.rows g.due) old.totals log =
    ap (λ n. shelf_of old (old.entries + n) new.rows (old.ready ++ idle_among old.rows g.due) old.totals log) (sym g.added_is) in
    subst Sound (sym g.new_is) (subst Sound path sound)
