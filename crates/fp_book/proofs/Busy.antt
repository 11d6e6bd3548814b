-- Which dialogues are busy: those that are ready, those that are out, and those whose frames are to be sent.
use Rattle.fp_book.proofs.Names.{Bool, Content, IsQuiet, IsTrue, List, None, Option, Outbox, Row, Shelf, Some, Sound, Waiting, [], and_right, ap, append-nil, arith, busy_count, false, false≢true, frame_out, frames_for, frames_held, has_turn_out, is_busy, is_ready, kept_of, length, length-append, ltb-false, nat_lt, nat_tests, nil_from_length, not, nothing, one_if, or_left, or_parts, or_right, places_held, places_out, refl, sent_of, subst, suc, sum_of, sym, true, turns_of, unsent_for, waits, zero, ℕ, ◌&&◌, ◌++◌, ◌<◌, ◌||◌, ◌↔◌, ◌∙◌, ◌∷◌, ◌≡◌, ◌≤◌}
use Rattle.std.specs.FinMap as map
use Rattle.fp_book.proofs.Extends.{kept_count, sent_count}
use Rattle.fp_book.proofs.Kept.{amount_within}
use Rattle.fp_book.proofs.Sums.{Rows, sum-zero, sums-le, zero_of}
use Rattle.fp_book.proofs.Turns.{frames_at}
use Rattle.fp_book.proofs.Unsent.{first_own}
use Rattle.fp_book.specs.declared.parcel.Content.TheVariants as content

-- no dialogue is busy
abbrev pub AreIdle : Shelf → Type 0
AreIdle s = (local : ℕ) (row : Row) → map.get s.rows local ≡ Some row → is_busy row ≡ false

-- no dialogue is ready, and no place is held by a turn that is out or a frame that is to be sent
pub record HasNothing (s : Shelf) : Type 0 where
  pub places : places_held s ≡ 0
  pub ready : length s.ready ≡ 0

-- a test that counts for nothing fails
zero_if : (b : Bool) → one_if b ≡ 0 → b ≡ false
zero_if true e = absurd (let clash : 1 ≡ 0 = e in omega (arith, clash))
zero_if false e = refl

-- and one that fails counts for nothing
if_zero : (b : Bool) → b ≡ false → one_if b ≡ 0
if_zero b e = ap one_if e

-- a sum is zero if each of its numbers is
no_sum : (f : Row → ℕ) (rows : Rows) → ((local : ℕ) (row : Row) → map.get rows local ≡ Some row → f row ≡ 0) → sum_of f rows ≡ 0
no_sum f rows each =
    omega (arith, sums-le f zero_of zero_of zero_of rows rows (λ q none. none) (λ q row was. omega (arith, each q row was)), sum-zero rows)

-- and each of them is if the sum is
none_each : (f : Row → ℕ) (rows : Rows) → sum_of f rows ≡ 0 → (local : ℕ) (row : Row) → map.get rows local ≡ Some row → f row ≡ 0
none_each f rows none local row was = let within : f row ≤ sum_of f rows = amount_within f rows local row was in omega (arith, within, none)

-- no dialogue is busy exactly if none is counted
pub idle_count : (s : Shelf) → AreIdle s → busy_count s ≡ 0
idle_count s idle = no_sum (λ row. one_if (is_busy row)) s.rows (λ local row was. if_zero (is_busy row) (idle local row was))

pub count_idle : (s : Shelf) → busy_count s ≡ 0 → AreIdle s
count_idle s none local row was = zero_if (is_busy row) (none_each (λ row. one_if (is_busy row)) s.rows none local row was)

-- if no place for a frame is held no frame is to be sent
none_out : (local : ℕ) (out : Option Content) → places_out out ≡ 0 → frame_out local out ≡ []
none_out local None e = refl
none_out local (Some (content.Abort frame)) e = refl
none_out local (Some (content.Frame w)) e = absurd (let clash : 1 ≡ 0 = e in omega (arith, clash))

none_unsent : (local : ℕ) (outbox : Outbox) → frames_held outbox ≡ 0 → unsent_for local outbox ≡ []
none_unsent local outbox none =
    ap (λ ws. frame_out local outbox.out ++ frames_for local ws) (nil_from_length outbox.frames (omega (arith, none)))
    ∙ append-nil (frame_out local outbox.out) ∙ none_out local outbox.out (omega (arith, none))

-- so all that a dialogue keeps was sent
all_sent : (s : Shelf) (local : ℕ) (row : Row) → Sound s → map.get s.rows local ≡ Some row → unsent_for local s.outbox ≡ [] → nat_lt row.sent row.kept ≡ false
all_sent s local row k was none =
    let all : length (sent_of row ++ unsent_for local s.outbox) ≡ length (kept_of row) = ap length (frames_at s local (Some row) k was) in
    let same : row.kept ≡ row.sent = omega (arith, all, length-append (sent_of row) (unsent_for local s.outbox), ap length none, sent_count row, kept_count row) in
    grind (arith, nat_tests)

-- a number that is zero isn't above it
not_out : (n : ℕ) → n ≡ 0 → nat_lt 0 n ≡ false
not_out n none = ap (nat_lt 0) none

-- a dialogue that is neither out nor ready has no entry that waits
idle_waits : (out w : Bool) → out ≡ false → (not out && w) ≡ false → w ≡ false
idle_waits true w e idle = absurd (false≢true (sym e))
idle_waits false w e idle = idle

-- none of three tests is met
none_busy : (a b c : Bool) → a ≡ false → b ≡ false → c ≡ false → (a || (b || c)) ≡ false
none_busy a b c x y z = λ i. x i || (y i || z i)

-- if nothing is held or ready no dialogue is busy
pub nothing_idle : (s : Shelf) → Sound s → HasNothing s → AreIdle s
nothing_idle s k h local row was =
    let turns : turns_of row ≡ 0 = none_each turns_of s.rows (omega (arith, h.places)) local row was in
    let ready : one_if (is_ready row) ≡ 0 = none_each (λ row. one_if (is_ready row)) s.rows (sym k.ready_length ∙ h.ready) local row was in
    none_busy (nat_lt 0 (turns_of row)) (waits row) (nat_lt row.sent row.kept)
    (not_out (turns_of row) turns)
    (idle_waits (has_turn_out row) (waits row) (not_out (turns_of row) turns) (zero_if (is_ready row) ready))
    (all_sent s local row k was (none_unsent local s.outbox (omega (arith, h.places))))

-- no frame of a dialogue is to be sent that isn't there, or has sent all that it keeps
unsent_by : (s : Shelf) (local : ℕ) (there : Option Row) → Sound s → AreIdle s → map.get s.rows local ≡ there → unsent_for local s.outbox ≡ []
unsent_by s local None k idle was = frames_at s local None k was
unsent_by s local (Some row) k idle was =
    let all : length (sent_of row ++ unsent_for local s.outbox) ≡ length (kept_of row) = ap length (frames_at s local (Some row) k was) in
    let parts = or_parts (nat_lt 0 (turns_of row)) (waits row || nat_lt row.sent row.kept) (idle local row was) in
    let kept : row.kept ≤ row.sent = ltb-false row.sent row.kept (or_parts (waits row) (nat_lt row.sent row.kept) parts.1).1 in
    nil_from_length (unsent_for local s.outbox) (omega (arith, all, length-append (sent_of row) (unsent_for local s.outbox), kept, sent_count row, kept_count row))

-- both parts of an empty list are empty
no_rest : {A : Type 0} (xs ys : List A) → xs ++ ys ≡ [] → ys ≡ []
no_rest [] ys e = e
no_rest (x ∷ xs) ys e = absurd (cc)

no_front : {A : Type 0} (xs ys : List A) → xs ++ ys ≡ [] → xs ≡ []
no_front [] ys e = refl
no_front (x ∷ xs) ys e = absurd (cc)

-- each frame that waits is one of its dialogue, and so is the one that is being sent
none_wait : (ws : List Waiting) → ((local : ℕ) → frames_for local ws ≡ []) → ws ≡ []
none_wait [] none = refl
none_wait (w ∷ ws) none = absurd (let clash : w.frame ∷ frames_for w.local ws ≡ [] = sym (first_own w.local w ws refl) ∙ none w.local in cc)

none_sending : (out : Option Content) → ((local : ℕ) → frame_out local out ≡ []) → places_out out ≡ 0
none_sending None none = refl
none_sending (Some (content.Abort frame)) none = refl
none_sending (Some (content.Frame w)) none = absurd (let clash : w.frame ∷ frames_for w.local [] ≡ [] = sym (first_own w.local w [] refl) ∙ none w.local in cc)

-- a dialogue of which no entry waits isn't ready
not_ready : (row : Row) → is_busy row ≡ false → is_ready row ≡ false
not_ready row e =
    let parts = or_parts (nat_lt 0 (turns_of row)) (waits row || nat_lt row.sent row.kept) e in
    and_right (not (has_turn_out row)) (waits row) (or_parts (waits row) (nat_lt row.sent row.kept) parts.1).0

-- if no dialogue is busy nothing is held or ready
pub idle_nothing : (s : Shelf) → Sound s → AreIdle s → HasNothing s
idle_nothing s k idle =
    let unsent : (local : ℕ) → unsent_for local s.outbox ≡ [] = λ local. unsent_by s local (map.get s.rows local) k idle refl in
    let frames : s.outbox.frames ≡ [] = none_wait s.outbox.frames (λ local. no_rest (frame_out local s.outbox.out) (frames_for local s.outbox.frames) (unsent local)) in
    let out : places_out s.outbox.out ≡ 0 = none_sending s.outbox.out (λ local. no_front (frame_out local s.outbox.out) (frames_for local s.outbox.frames) (unsent local)) in
    let turns : sum_of turns_of s.rows ≡ 0 = no_sum turns_of s.rows (λ local row was. let few : turns_of row ≤ 0 = ltb-false 0 (turns_of row) (or_parts (nat_lt 0 (turns_of row)) (waits row || nat_lt row.sent row.kept) (idle local row was)).0 in omega (arith, few)) in
    record {
      places = omega (arith, ap length frames, out, turns);
      ready = k.ready_length ∙ no_sum (λ row. one_if (is_ready row)) s.rows (λ local row was. if_zero (is_ready row) (not_ready row (idle local row was)));
    }

-- a number above zero is tested so
positive : (n : ℕ) → 0 < n → nat_lt 0 n ≡ true
positive n some = grind (arith, nat_tests)

-- two ways to say that something is left to be done
left_by : (p r b : ℕ) → (p ≡ 0 → r ≡ 0 → b ≡ 0) → (b ≡ 0 → (p ≡ 0) × (r ≡ 0)) → (nat_lt 0 p || nat_lt 0 r) ≡ nat_lt 0 b
left_by zero zero b none all = ap (nat_lt 0) (sym (none refl refl))
left_by (suc p) r zero none all = absurd (let clash : suc p ≡ 0 = (all refl).0 in omega (arith, clash))
left_by zero (suc r) zero none all = absurd (let clash : suc r ≡ 0 = (all refl).1 in omega (arith, clash))
left_by (suc p) r (suc b) none all = or_left (nat_lt 0 (suc p)) (nat_lt 0 r) (positive (suc p) (omega arith)) ∙ sym (positive (suc b) (omega arith))
left_by zero (suc r) (suc b) none all = or_right (nat_lt 0 zero) (nat_lt 0 (suc r)) (positive (suc r) (omega arith)) ∙ sym (positive (suc b) (omega arith))

-- a dialogue is busy exactly if a place is held or a dialogue is ready
pub busy_is : (s : Shelf) → Sound s → (nat_lt 0 (places_held s) || nat_lt 0 (length s.ready)) ≡ nat_lt 0 (busy_count s)
busy_is s k =
    left_by (places_held s) (length s.ready) (busy_count s)
    (λ places ready. idle_count s (nothing_idle s k (record { places = places; ready = ready })))
    (λ none. let h = idle_nothing s k (count_idle s none) in (h.places, h.ready))

-- so it is if a place is held
pub place_busy : (s t : Shelf) → Sound s → s ≡ t → (places : ℕ) → places ≡ places_held t → 0 < places → nat_lt 0 places ≡ nat_lt 0 (busy_count t)
place_busy s t k same places is some =
    let held : places ≡ places_held s = is ∙ sym (ap places_held same) in
    let there : nat_lt 0 (places_held s) ≡ true = positive (places_held s) (omega (arith, held, some)) in
    positive places some ∙ subst (λ u. true ≡ nat_lt 0 (busy_count u)) same (sym (or_left (nat_lt 0 (places_held s)) (nat_lt 0 (length s.ready)) there) ∙ busy_is s k)

-- and if none is, exactly if a dialogue is ready
pub ready_busy : (s t : Shelf) → Sound s → s ≡ t → (places ready : ℕ) → places ≡ places_held t → places ≤ 0 → ready ≡ length s.ready → nat_lt 0 ready ≡ nat_lt 0 (busy_count t)
ready_busy s t k same places ready is few count =
    let held : places ≡ places_held s = is ∙ sym (ap places_held same) in
    let none : nat_lt 0 (places_held s) ≡ false = not_out (places_held s) (omega (arith, held, few)) in
    subst (λ u. nat_lt 0 ready ≡ nat_lt 0 (busy_count u)) same
    (ap (nat_lt 0) count ∙ ap (λ b. b || nat_lt 0 (length s.ready)) (sym none) ∙ busy_is s k)

-- a link of which no dialogue is busy is quiet exactly if nothing waits or is being sent
pub quiet_if : (s t : Shelf) → s ≡ t → (empty : Bool) → nat_lt 0 (busy_count t) ≡ false → (IsTrue empty ↔ (s.outbox ≡ nothing)) → (IsTrue empty ↔ IsQuiet t)
quiet_if s t same empty none is =
    let few : busy_count t ≤ 0 = ltb-false 0 (busy_count t) none in
    let outboxes : s.outbox ≡ t.outbox = ap (λ (u : Shelf). u.outbox) same in
    (λ e. record { dialogues = count_idle t (omega (arith, few)); outbox = sym outboxes ∙ is.0 e }, λ q. is.1 (outboxes ∙ q.outbox))

-- and none is quiet of which one is busy
pub quiet_else : (t : Shelf) → (busy : Bool) → busy ≡ nat_lt 0 (busy_count t) → busy ≡ true → (IsTrue (not busy) ↔ IsQuiet t)
quiet_else t busy is some =
    (λ e. absurd (false≢true (sym (ap not some) ∙ e)), λ q. absurd (false≢true (sym (is ∙ not_out (busy_count t) (idle_count t q.dialogues)) ∙ some)))
