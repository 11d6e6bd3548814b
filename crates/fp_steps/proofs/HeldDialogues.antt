-- What a history tells of a dialogue, one event further; and of one that a book holds.
use Rattle.fp_steps.proofs.Names.{Beginning, Ending, Entry, Event, IsGone, IsPrefix, IsSame, IsStraight, IsTied, KeepsOrder, List, None, NotHeld, OneChanges, Opened, Option, Output, Prepared, Row, RowsKeepTheirOrder, Shelf, Some, Step, Story, Tied, TiedAt, [], accepted, accepted_in, add-one, add-zero, admits, and_left, and_right, ap, append-nil, append_assoc, arith, asked_in, beginning, beginning_of, births, by_held, by_local, cond, cond_some, core_after, core_in, count_after, count_out, course, cut, drop, drop-take, drop_at, ending, ending_in, eq-eqb, eqb, eqb-false, eqb-true, false, for_one, frame_from, frames_of, fresh, get, get_or_from_slice_get, in_places, insert, inserted, is_admitted, is_closed, is_one, is_over, is_some, keep, kept, left_of, length, length-append, length-take-le, local_of, lt-leb, map_list as map, named, nat_le, nat_lt, nat_tests, ne_eqb, none-some, not, not_held, numbers_from, octets_of, option_map_or, option_to_list, position_in, positions, queued, queued_in, queued_of, refl, requests, row_at, row_of, row_unserved, row_waits as waits, same_Some, sent, sent_in, sent_of, served_in, served_of, slice_get, start_in, start_of, story, subst, suc, sym, take, take_more, true, turns_none, unserved, waits_in, zero, ℕ, ◌&&◌, ◌++◌, ◌+◌, ◌<◌, ◌∙◌, ◌∷◌, ◌≡◌, ◌≤◌}
use Rattle.std.proofs.lemmas.List.Concat.{flat_map-append}
use Rattle.fp_row.proofs.Fronts.{slice_get_some}

abbrev pub event : Step → Option Prepared → Output → Event
event step came output = record { step = step; came = came; output = output }

-- by whether there is something
pub by_option : {X : Type 0} → (P : Option X → Type 0) (o : Option X) → (o ≡ None → P None) → ((x : X) → o ≡ Some x → P (Some x)) → P o
by_option P None none some = none refl
by_option P (Some x) none some = some x refl

pub eqb_swap : (a b : ℕ) → eqb a b ≡ false → eqb b a ≡ false
eqb_swap a b ne = ne_eqb b a (λ same. eqb-false a b ne (sym same))

-- two stories of equal parts are one
pub same_story : (s t : Story) → s.began ≡ t.began → s.accepts ≡ t.accepts → s.places ≡ t.places → s.queues ≡ t.queues → s.sends ≡ t.sends → s.ended ≡ t.ended → s.out ≡ t.out → s ≡ t
same_story s t b a p q n e o =
    λ i. record { began = b i; accepts = a i; places = p i; queues = q i; sends = n i; ended = e i; out = o i }

-- nothing is added after a list
pub none_more : {X : Type 0} → (xs ys : List X) → ys ≡ [] → xs ++ ys ≡ xs
none_more xs ys e = ap (λ y. xs ++ y) e ∙ append-nil xs

-- an event that adds nothing to the lists of a dialogue
pub becomes : (e : Event) (h : List Event) (d : ℕ) (x : Option Ending) (o : ℕ) → beginning (e ∷ h) d ≡ beginning h d → accepted_in e.output e.step e.came h d (course h d) ≡ []
    → position_in e.output h d ≡ [] → queued_in e.output h d ≡ []
    → sent_in e.output h d ≡ [] → ending_in e.output e.came h d (course h d) ≡ x → count_after e.output e.step h d (count_out h d) ≡ o
    → story (e ∷ h) d ≡ record (story h d) { ended = x; out = o }
becomes e h d x o b a p q s n t =
    same_story (story (e ∷ h) d) (record (story h d) { ended = x; out = o }) b
    (none_more (accepted h d) (accepted_in e.output e.step e.came h d (course h d)) a)
    (none_more (positions h d) (position_in e.output h d) p)
    (none_more (queued h d) (queued_in e.output h d) q)
    (none_more (sent h d) (sent_in e.output h d) s) n t

-- or has nothing to do with it at all
pub stays : (e : Event) (h : List Event) (d : ℕ) → beginning (e ∷ h) d ≡ beginning h d → accepted_in e.output e.step e.came h d (course h d) ≡ [] → position_in e.output h d ≡ [] → queued_in e.output h d ≡ []
    → sent_in e.output h d ≡ [] → ending_in e.output e.came h d (course h d) ≡ ending h d → count_after e.output e.step h d (count_out h d) ≡ count_out h d
    → story (e ∷ h) d ≡ story h d
stays e h d b a p q s n t = becomes e h d (ending h d) (count_out h d) b a p q s n t

-- what has to do with one dialogue
pub for_own : {X : Type 0} → (o : Option ℕ) (d : ℕ) (xs : List X) → o ≡ Some d → for_one o d xs ≡ xs
for_own o d xs e = ap (λ o. for_one o d xs) e ∙ ap (λ b. cond b xs []) (eq-eqb d d refl)

pub for_other : {X : Type 0} → (o : Option ℕ) (d own : ℕ) (xs : List X) → o ≡ Some own → eqb d own ≡ false → for_one o d xs ≡ []
for_other o d own xs e ne = ap (λ o. for_one o d xs) e ∙ ap (λ b. cond b xs []) ne

-- an identifier names one dialogue
pub is_own : (o : Option ℕ) (d : ℕ) → o ≡ Some d → is_one o d ≡ true
is_own o d e = ap (λ o. is_one o d) e ∙ eq-eqb d d refl

pub is_other : (o : Option ℕ) (d own : ℕ) → o ≡ Some own → eqb d own ≡ false → is_one o d ≡ false
is_other o d own e ne = ap (λ o. is_one o d) e ∙ ne

pub length-numbers_from : (first n : ℕ) → length (numbers_from first n) ≡ n
length-numbers_from first zero = refl
length-numbers_from first (suc n) = let e = length-numbers_from first n in omega (arith, length-append (numbers_from first n) ((first + n) ∷ []), e)

-- the places below a number are those of so many first entries
pub first_places : (xs : List Entry) (n : ℕ) → n ≤ length xs → in_places xs (numbers_from 0 n) ≡ take n xs
first_places xs zero h = refl
first_places xs (suc n) h =
    let f : ℕ → List Entry = λ p. option_to_list (slice_get xs p) in
    let below : n < length xs = omega (arith, h) in
    let found : (x : Entry) × (slice_get xs n ≡ Some x) = slice_get_some xs n below in
    let same : 0 + n ≡ n = omega arith in
    flat_map-append f (numbers_from 0 n) ((0 + n) ∷ [])
    ∙ (λ i. first_places xs n (omega (arith, h)) i ++ (f (same i) ++ []))
    ∙ ap (λ r. take n xs ++ r) (append-nil (f n)) ∙ ap (λ o. take n xs ++ option_to_list o) found.1
    ∙ ap (λ x. take n xs ++ x ∷ []) (sym (get_or_from_slice_get xs n found.0 found.0 found.1))
    ∙ sym (take_more xs n found.0 below) ∙ ap (λ m. take m xs) (add-one n)

-- after so many numbers come those from there on
pub numbers_more : (n k : ℕ) → numbers_from 0 n ++ numbers_from n k ≡ numbers_from 0 (n + k)
numbers_more n zero = append-nil (numbers_from 0 n) ∙ ap (numbers_from 0) (sym (add-zero n))
numbers_more n (suc k) =
    let next : n + suc k ≡ suc (n + k) = omega arith in let same : n + k ≡ 0 + (n + k) = omega arith in
    sym (append_assoc (numbers_from 0 n) (numbers_from n k) ((n + k) ∷ [])) ∙ (λ i. numbers_more n k i ++ same i ∷ []) ∙ ap (numbers_from 0) (sym next)

-- and the places from one on are those of so many entries from there on
pub next_places : (xs : List Entry) (n k : ℕ) → n + k ≤ length xs → in_places xs (numbers_from n k) ≡ take k (drop n xs)
next_places xs n k within =
    let here = in_places xs (numbers_from n k) in let few : n ≤ length xs = omega (arith, within) in
    let all : take n xs ++ here ≡ take (n + k) xs =
    ap (λ ys. ys ++ here) (sym (first_places xs n few)) ∙ sym (flat_map-append (λ p. option_to_list (slice_get xs p)) (numbers_from 0 n) (numbers_from n k))
    ∙ ap (in_places xs) (numbers_more n k) ∙ first_places xs (n + k) within
    in
    sym (drop_at (take n xs) here n (length-take-le n xs few)) ∙ ap (drop n) all ∙ drop-take n k xs

-- the same dialogue begins with the same core
pub start_tied : {d : ℕ} {t : Story} {row : Row} → IsTied d t row → start_in d t ≡ start_of row
start_tied k =
    λ i. fresh (sym k.birth i) (option_map_or (λ (b : Beginning). b.moment) (k.begins i) 0)

-- and served the same
pub served_tied : {d : ℕ} {t : Story} {row : Row} → IsTied d t row → served_in t ≡ served_of row
served_tied {row} k =
    (λ i. in_places (k.accepts i) (k.serves i)) ∙ first_places row.accepted row.served row.served_within

pub core_tied : {d : ℕ} {t : Story} {row : Row} → IsTied d t row → core_in d t ≡ row.core
core_tied {row} k = (λ i. core_after (start_tied k i) (served_tied k i)) ∙ sym row.core_is

-- so it requests the same frames
pub asked_tied : {d : ℕ} {t : Story} {row : Row} → IsTied d t row → asked_in d t ≡ frames_of row
asked_tied k = λ i. map (frame_from (k.begins i)) (requests (start_tied k i) (served_tied k i))

pub prefix_trans : {X : Type 0} → (xs ys zs : List X) → IsPrefix xs ys → IsPrefix ys zs → IsPrefix xs zs
prefix_trans xs ys zs p q =
    (p.0 ++ q.0, sym (append_assoc xs p.0 q.0) ∙ ap (λ r. r ++ q.0) p.1 ∙ q.1)

prefix_same : {X : Type 0} → (xs ys us vs : List X) → xs ≡ us → ys ≡ vs → IsPrefix us vs → IsPrefix xs ys
prefix_same xs ys us vs a b p = (p.0, ap (λ r. r ++ p.0) a ∙ p.1 ∙ sym b)

-- so many were served
pub count_tied : {d : ℕ} {t : Story} {row : Row} → IsTied d t row → length t.places ≡ row.served
count_tied {row} k = ap length k.serves ∙ length-numbers_from 0 row.served

-- and the same entries weren't
pub unserved_tied : (h : List Event) {row : Row} {d : ℕ} → IsTied d (story h d) row → unserved h d ≡ row_unserved row
unserved_tied h k = λ i. drop (count_tied k i) (k.accepts i)

-- the story of a dialogue that is held is straight
pub straight_tied : RowsKeepTheirOrder → {d : ℕ} {t : Story} {row : Row} → IsTied d t row → IsStraight d t
straight_tied law {t} {row} k =
    let o : KeepsOrder row = law row in let asked = asked_tied k in
    let sent_queued : IsPrefix (sent_of row) (queued_of row) = prefix_trans _ _ _ o.sent o.kept in
    record {
      served_first = prefix_same _ _ _ _ (served_tied k) (ap (λ c. cut c t.accepts) (start_tied k) ∙ ap (cut (start_of row)) k.accepts) o.served;
      sent_first = prefix_same _ _ _ _ k.sends asked (prefix_trans _ _ _ sent_queued o.queued);
      each_once = k.serves ∙ ap (numbers_from 0) (sym (count_tied k));
      each_there = ap length (served_tied k) ∙ length-take-le row.served row.accepted row.served_within ∙ sym (count_tied k);
      sent_queued = prefix_same _ _ _ _ k.sends k.queues sent_queued;
      queued_first = prefix_same _ _ _ _ k.queues asked o.queued;
    }

-- it takes messages where the row does
pub live_tied : {d : ℕ} {t : Story} {row : Row} → IsTied d t row → (not (is_some t.ended) && not (is_over (core_in d t))) ≡ is_admitted row
live_tied k = λ i. not (is_some (k.ends i)) && not (is_over (core_tied k i))

-- and an entry of it waits where one of the row does
pub waits_tied : {d : ℕ} {t : Story} {row : Row} → IsTied d t row → waits_in d t ≡ waits row
waits_tied k =
    λ i. not (is_closed (k.ends i)) && (not (is_over (core_tied k i)) && nat_lt (count_tied k i) (length (k.accepts i)))

-- what goes is gone
pub gone_tied : RowsKeepTheirOrder → (births : ℕ) {d : ℕ} {t : Story} {row : Row} → IsTied d t row → NotHeld row → IsGone births d t
gone_tied law births {d} {row} k none = record {
  straight = straight_tied law k;
  admitted = and_right (nat_lt 0 d && nat_le d births) _ (live_tied k ∙ none.admitted);
  waits = waits_tied k ∙ none.waits;
  outs = k.outs ∙ turns_none row none.is_out;
  all_sent = λ live.
      let same : row.sent ≡ row.kept = omega (arith, none.sent, row.sent_within) in
      k.sends ∙ ap (λ n. take n (frames_of row)) same ∙ (law row).all_kept (sym k.ends ∙ live) ∙ sym (asked_tied k);
}

-- it began as it did
pub same_beginning : {before after : Row} → IsSame before after → beginning_of after ≡ beginning_of before
same_beginning same =
    λ i. record { local = same.local i; peer = octets_of (same.peer i); moment = same.opened i }

-- the same dialogue, of which nothing else changed that its story tells
pub tied_same : {d : ℕ} {t : Story} (x : ℕ) {before after : Row} → IsTied d t before → IsSame before after → after.accepted ≡ before.accepted → after.served ≡ before.served → queued_of after ≡ queued_of before
    → sent_of after ≡ sent_of before → after.core ≡ before.core → after.ended ≡ before.ended → after.out ≡ x → IsTied d (record t { out = x }) after
tied_same x k same accepted served queued sent core ended out = let begins = k.begins ∙ ap Some (sym (same_beginning same)) in grind arith

-- A book and its dialogues

-- no dialogue has the identifier of an Abort of the provider
pub none_named : (h : List Event) → Opened h → named h 0 ≡ None
none_named h g = by_option (λ o. o ≡ None) (named h 0) (λ is. refl) (λ d is.
    let there : (0 ≡ local_of h d) × (0 < d) × (d ≤ births h) = g.names 0 d is in
    absurd (let zero_is : 0 ≡ local_of h d = there.0 in omega (arith, zero_is, g.not_zero d there.1 there.2)))

-- a row is a dialogue's by its birth
pub own_row : (d : ℕ) (row : Row) → row.birth ≡ d → row_of d (Some row) ≡ Some row
own_row d row is = ap (λ b. cond b (Some row) None) (eq-eqb row.birth d is)

pub row_there : (d : ℕ) (o : Option Row) (row : Row) → row_of d o ≡ Some row → (o ≡ Some row) × (row.birth ≡ d)
row_there d None row is = absurd (cc)
row_there d (Some other) row is =
    let same = cond_some (eqb other.birth d) other row is in
    (ap Some same.1, ap (λ (r : Row). r.birth) (sym same.1) ∙ eqb-true other.birth d same.0)

pub other_row : (d : ℕ) (row : Row) → eqb row.birth d ≡ false → row_of d (Some row) ≡ None
other_row d row ne = ap (λ b. cond b (Some row) None) ne

-- the row of the dialogue that an identifier names is the one under it
pub row_named : {h : List Event} {s : Shelf} (local d : ℕ) → Tied h s → named h local ≡ Some d → row_at h s d ≡ get s.rows local
row_named {h} {s} local d t name =
    ap (λ l. row_of d (get s.rows l)) (sym (t.opened.names local d name).0)
    ∙ by_option (λ o. row_of d o ≡ o) (get s.rows local) (λ was. refl) (λ row was. own_row d row (same_Some row.birth d (sym (t.names local row was) ∙ name)))

-- a dialogue that a book holds, under this identifier and with this birth
pub record Held (h : List Event) (local d : ℕ) (row : Row) : Type 0 where
  pub name : named h local ≡ Some d
  pub place : local ≡ local_of h d
  pub first : 0 < d
  pub last : d ≤ births h
  pub tied : IsTied d (story h d) row

pub held_of : {h : List Event} {s : Shelf} (local : ℕ) (row : Row) → Tied h s → get s.rows local ≡ Some row → Held h local row.birth row
held_of {h} {s} local row t was =
    let b = row.birth in let name = t.names local row was in
    let there : (local ≡ local_of h b) × (0 < b) × (b ≤ births h) = t.opened.names local b name in
    record { name = name; place = there.0; first = there.1; last = there.2; tied = subst (TiedAt (births h) b (story h b)) (row_named local b t name ∙ was) (t.rows b) }

pub held_at : {h : List Event} {s : Shelf} (d : ℕ) (row : Row) → Tied h s → row_at h s d ≡ Some row → Held h (local_of h d) d row
held_at {h} {s} d row t is =
    let there = row_there d (get s.rows (local_of h d)) row is in
    subst (λ b. Held h (local_of h d) b row) there.1 (held_of (local_of h d) row t there.0)

-- one that it doesn't hold is another one
pub not_gone : {h : List Event} {s : Shelf} (local : ℕ) (row : Row) (d : ℕ) → Tied h s → get s.rows local ≡ Some row → row_at h s d ≡ None → eqb d row.birth ≡ false
not_gone {h} {s} local row d t was none = ne_eqb d row.birth (λ same. none-some row (sym none ∙ ap (row_at h s) same ∙ row_named local row.birth t (t.names local row was) ∙ was))

-- it isn't under the identifier of an Abort of the provider
pub not_abort : {h : List Event} {s : Shelf} (local : ℕ) (row : Row) → Tied h s → get s.rows local ≡ Some row → eqb local 0 ≡ false
not_abort {h} {s} local row t was =
    ne_eqb local 0 (λ zero_is. none-some row.birth (sym (none_named h t.opened) ∙ ap (named h) (sym zero_is) ∙ t.names local row was))

-- where one changes, the others have the rows that they had
pub row_own : {h : List Event} {old : Shelf} (new : Shelf) {local : ℕ} (before : Row) (left : Option Row) → Tied h old → OneChanges old.rows new.rows local (Some before) left
    → ((row : Row) → left ≡ Some row → row.birth ≡ before.birth) → row_at h new before.birth ≡ left
row_own new {local} before left t one is =
    let b = before.birth in
    ap (λ l. row_of b (get new.rows l)) (sym (held_of local before t one.was).place) ∙ ap (row_of b) one.there ∙ by_option (λ o. row_of b o ≡ o) left (λ none. refl) (λ row e. own_row b row (is row e))

pub row_other : (h : List Event) (old new : Shelf) {local : ℕ} (b : ℕ) {before : Option Row} (left : Option Row) (d : ℕ) → OneChanges old.rows new.rows local before left
    → ((row : Row) → before ≡ Some row → row.birth ≡ b) → ((row : Row) → left ≡ Some row → row.birth ≡ b) → eqb d b ≡ false → row_at h new d ≡ row_at h old d
row_other h old new {local} b {before} left d one was is ne =
    let none : (o : Option Row) → ((row : Row) → o ≡ Some row → row.birth ≡ b) → row_of d o ≡ None =
    λ o of. by_option (λ o. row_of d o ≡ None) o (λ e. refl) (λ row e. other_row d row (ap (λ n. eqb n d) (of row e) ∙ eqb_swap d b ne))
    in
    by_local (local_of h d) local (λ l. row_of d (get new.rows l) ≡ row_of d (get old.rows l))
    (ap (row_of d) one.there ∙ none left is ∙ sym (ap (row_of d) one.was ∙ none before was)) (λ other. ap (row_of d) (one.others (local_of h d) other))

-- the same row has the same birth
pub same_birth : (before row : Row) → Some before ≡ Some row → row.birth ≡ before.birth
same_birth before row same = ap (λ (r : Row). r.birth) (sym (same_Some before row same))

-- what is left of a dialogue is tied, or it is gone
pub left_tied : RowsKeepTheirOrder → (n : ℕ) {d : ℕ} {t : Story} {after : Row} → IsTied d t after → TiedAt n d t (left_of after)
left_tied law n {d} {t} {after} k = by_held after (TiedAt n d t) (λ _. k) (λ none. gone_tied law n k (not_held after none))

-- the dialogues of a book where one is put in its place, or what is left of it
pub one_put : (old new : Shelf) (local : ℕ) (before : Option Row) (after : Row) → get old.rows local ≡ before → new.rows ≡ insert old.rows local after
    → OneChanges old.rows new.rows local before (Some after)
one_put old new local before after was is = subst (λ rows. OneChanges old.rows rows local before (Some after)) (sym is) (inserted old.rows local before after was)

pub one_left : (old new : Shelf) (local : ℕ) (before after : Row) → get old.rows local ≡ Some before → new.rows ≡ keep old.rows local after
    → OneChanges old.rows new.rows local (Some before) (left_of after)
one_left old new local before after was is = subst (λ rows. OneChanges old.rows rows local (Some before) (left_of after)) (sym is) (kept old.rows local (Some before) after was)

-- Which births were given

pub born_at : (d n : ℕ) → 0 < d → d ≤ n → (nat_lt 0 d && nat_le d n) ≡ true
born_at d n first last = grind (arith, nat_tests)

-- none that isn't opened yet takes messages
pub not_born : (h : List Event) (d : ℕ) → births h < d → admits h d ≡ false
not_born h d past = and_left (nat_lt 0 d && nat_le d (births h)) _ (and_right (nat_lt 0 d) (nat_le d (births h)) (lt-leb d (births h) past))
