-- The serials that come back once nothing is left of a dialogue.
use Rattle.std.proofs.Common.{◌≡◌, ℕ, ◌<◌, ◌+◌, Bool, true, false, cond, eqb, nat_lt, not, ◌&&◌, ◌||◌, Option, Some, None, List, [], ◌∷◌, ◌++◌, length, map, refl, sym, ◌∙◌, ap, subst, arith, append_assoc, append-nil, ⊎_elim}
use Rattle.std.specs.FinMap as fin
use Rattle.std.specs.List.{filter}
use Rattle.std.proofs.lemmas.Bool.{cases_Bool, false≢true}
use Rattle.std.proofs.lemmas.List.Sums.{sum_by-append}
use Rattle.fp_book.specs.declared.parcel.Waiting.{Waiting}
use Rattle.fp_book.specs.Calls.{joins}
use Rattle.fp_book.specs.Shelf.{Shelf, Sound, frame_out, frames_for, free_with, of_row}
use Rattle.fp_book.proofs.Changes.{by_held, not_held}
use Rattle.fp_book.proofs.Sums.{OneChanges, left_of}
use Rattle.fp_row.specs.declared.row.Row.{Row}
use Rattle.fp_row.specs.Row.{has_turn_out, is_admitted, is_held, is_ready, kept_of, sent_of, waits}
use Rattle.fp_tids.specs.Identifiers.{serial_of}
use Rattle.fp_ask.specs.Tied.{Rows}
use Rattle.fp_ask.specs.proof_only.Serving.{Concerned, Concerns, HasClock, KeepsFree, all_free, is_leaving, senders}
use Rattle.fp_ask.proofs.Dialogues.{by_number, count, count-cons, count_own, none_if, swapped, unit}
use Rattle.fp_ask.proofs.Resting.{all_sent, not_less, waits_by}

-- ONE DIALOGUE

-- the serial that comes back of it: none of one that is in the list
abbrev pub own_serial : ℕ → Option Row → List ℕ
own_serial d o = map serial_of (cond (is_leaving o) (d ∷ []) [])

-- a dialogue of the list is held,
admitted_by : (a b : Bool) → a ≡ true → (a || b) ≡ true
admitted_by a b is = ap (λ a. a || b) is

pub admitted_held : (row : Row) → is_admitted row ≡ true → is_held row ≡ true
admitted_held row is = admitted_by (is_admitted row) (has_turn_out row || (waits row || nat_lt row.sent row.kept)) is

-- and so is one with frames that weren't sent
kept_by : (a b c d : Bool) → d ≡ true → (a || (b || (c || d))) ≡ true
kept_by true b c d is = refl
kept_by false true c d is = refl
kept_by false false true d is = refl
kept_by false false false d is = is

pub frames_held : (row : Row) → nat_lt row.sent row.kept ≡ true → is_held row ≡ true
frames_held row is = kept_by (is_admitted row) (has_turn_out row) (waits row) (nat_lt row.sent row.kept) is

-- a dialogue of the list hasn't left it
pub leaving_left : (row : Row) → is_admitted row ≡ true → is_leaving (left_of row) ≡ false
leaving_left row is = by_held row (λ o. is_leaving o ≡ false) (λ h. ap not is) (λ h. refl)

-- and one that hasn't left it is in the list
in_list_by : (b : Bool) → not b ≡ false → b ≡ true
in_list_by true is = refl
in_list_by false is = absurd (false≢true (sym is))

pub in_list : (row : Row) → is_leaving (Some row) ≡ false → is_admitted row ≡ true
in_list row is = in_list_by (is_admitted row) is

-- its serial has come back if nothing of it is left, and else it will
pub free_left : (free : List ℕ) (d : ℕ) (row : Row) → free_with free d row ++ own_serial d (left_of row) ≡ free ++ own_serial d (Some row)
free_left free d row = ⊎_elim
    (λ h. λ i. cond (h i) free (free ++ serial_of d ∷ []) ++ own_serial d (cond (h i) (Some row) None))
    (λ h.
    (λ i. cond (h i) free (free ++ serial_of d ∷ []) ++ own_serial d (cond (h i) (Some row) None))
    ∙ append-nil (free ++ serial_of d ∷ [])
    ∙ sym (ap (λ b. free ++ map serial_of (cond (not b) (d ∷ []) [])) (not_held row h).admitted))
    (cases_Bool (is_held row))

-- what is held keeps its serial
pub held_free : (free : List ℕ) (d : ℕ) (row : Row) → is_held row ≡ true → free_with free d row ≡ free
held_free free d row held = ap (λ b. cond b free (free ++ serial_of d ∷ [])) held

-- ENTRIES OF ONE DIALOGUE

-- the serial that comes back if they end it
abbrev pub returned_at : ℕ → Row → Row → List ℕ
returned_at d before then = cond (is_admitted before && not (is_admitted then)) (serial_of d ∷ []) []

served_by : (before then : Bool) (d : ℕ) → (before ≡ false → then ≡ false)
    → map serial_of (cond (not then) (d ∷ []) []) ≡ map serial_of (cond (not before) (d ∷ []) []) ++ cond (before && not then) (serial_of d ∷ []) []
served_by true true d stays = refl
served_by true false d stays = refl
served_by false then d stays = ap (λ b. map serial_of (cond (not b) (d ∷ []) [])) (stays refl)

-- it left the list before, or by them, or not at all
pub own_served : (d : ℕ) (before then : Row) → (is_admitted before ≡ false → is_admitted then ≡ false) → own_serial d (Some then) ≡ own_serial d (Some before) ++ returned_at d before then
own_served d before then stays = served_by (is_admitted before) (is_admitted then) d stays

-- NUMBERS IN LISTS

pub count-append : (k : ℕ) (xs ys : List ℕ) → count k (xs ++ ys) ≡ count k xs + count k ys
count-append k xs ys = sum_by-append (λ (x : ℕ). cond {A = ℕ} (eqb x k) 1 0) xs ys

-- one number, as often as a list is long,
pub count_same : {A : Type 0} (d : ℕ) (xs : List A) → count d (map (λ _. d) xs) ≡ length xs
count_same d [] = refl
count_same d (x ∷ xs) = omega (arith, count_own d (map (λ _. d) xs), count_same d xs)

pub count_other : {A : Type 0} (d k : ℕ) (xs : List A) → eqb d k ≡ false → count k (map (λ _. d) xs) ≡ 0
count_other d k [] ne = refl
count_other d k (x ∷ xs) ne = omega (arith, count-cons k d (map (λ _. d) xs), ap unit ne, count_other d k xs ne)

-- a queue that one dialogue joins has no other
pub count_joins : (d k : ℕ) (b : Bool) → eqb d k ≡ false → count k (joins d b) ≡ 0
count_joins d k true ne = omega (arith, count-cons k d [], ap unit ne)
count_joins d k false ne = refl

-- of which none meets a test
pub filter_none : {A : Type 0} (test : ℕ → Bool) (d : ℕ) (xs : List A) → test d ≡ false → filter test (map (λ _. d) xs) ≡ []
filter_none test d [] fails = refl
filter_none test d (x ∷ xs) fails = (λ i. cond (fails i) (d ∷ filter test (map (λ _. d) xs)) (filter test (map (λ _. d) xs))) ∙ filter_none test d xs fails

-- two tests that agree on what is in a list
pub filter_same : (test other : ℕ → Bool) (xs : List ℕ) → ((x : ℕ) → 0 < count x xs → test x ≡ other x) → filter test xs ≡ filter other xs
filter_same test other [] same = refl
filter_same test other (x ∷ xs) same =
    let own = same x (omega (arith, count_own x xs)) in
    let rest = filter_same test other xs (λ y more. same y (omega (arith, more, count-cons y x xs))) in
    λ i. cond (own i) (x ∷ rest i) (rest i)

-- NO DIALOGUE CHANGES

-- the dialogues, the queue and the frames that wait are the same
pub frees_same : (s new : Shelf) → new.rows ≡ s.rows → new.free ≡ s.free → new.ready ≡ s.ready → new.outbox.frames ≡ s.outbox.frames → KeepsFree s new
frees_same s new rows free ready frames (Concerned.one d) c = (
  λ other ne. (ap (count other) ready ∙ (c other ne).0, ap (λ (r : Rows). is_leaving (fin.get r other)) rows ∙ (c other ne).1),
  λ i. free i ++ own_serial d (fin.get (rows i) d),
)
frees_same s new rows free ready frames Concerned.due c =
    let waits : senders new.outbox ≡ senders s.outbox = ap (λ (frames : List Waiting). map (λ (w : Waiting). w.local) frames) frames in (
      (
        λ k some. subst (λ (r : Rows). HasClock (fin.get r k)) (sym rows) (c.0 k (omega (arith, some, ap (count k) ready))),
        λ k. omega (arith, c.1 k, ap (count k) waits, ap (count k) ready),
      ),
      λ i. free i ++ map serial_of (filter (λ k. is_leaving (fin.get (rows i) k)) (waits i)),
    )

-- A FRAME IS SENT

-- no frame of a dialogue waits
no_frames : (d : ℕ) (frames : List Waiting) → count d (map (λ (w : Waiting). w.local) frames) ≡ 0 → frames_for d frames ≡ []
no_frames d [] none = refl
no_frames d (w ∷ ws) none =
    let parts = count-cons d w.local (map (λ (w : Waiting). w.local) ws) in
    (λ i. cond (none_if (eqb w.local d) (omega (arith, none, parts)) i) (w.frame ∷ []) [] ++ frames_for d ws) ∙ no_frames d ws (omega (arith, none, parts))

not_held_by : (a o w k : Bool) → a ≡ false → o ≡ false → w ≡ false → k ≡ false → (a || (o || (w || k))) ≡ false
not_held_by a o w k x y z u = λ i. x i || (y i || (z i || u i))

-- a dialogue that left the list isn't held once nothing of it waits
pub nothing_left : (s : Shelf) (d : ℕ) (row : Row) → Sound s → fin.get s.rows d ≡ left_of row → has_turn_out row ≡ false → is_ready row ≡ false → s.outbox.out ≡ None
    → count d (senders s.outbox) ≡ 0 → is_admitted row ≡ false → is_held row ≡ false
nothing_left s d row sound was out unready none_out none gone = ⊎_elim
    (λ held.
    let there : fin.get s.rows d ≡ Some row = was ∙ ap (λ b. cond b (Some row) None) held in
    let frames : sent_of row ≡ kept_of row =
    sym (append-nil (sent_of row)) ∙ (λ i. of_row sent_of (sym there i) ++ (frame_out d (sym none_out i) ++ sym (no_frames d s.outbox.frames none) i)) ∙ sound.frames d ∙ ap (of_row kept_of) there in
    not_held_by (is_admitted row) (has_turn_out row) (waits row) (nat_lt row.sent row.kept) gone out (waits_by (has_turn_out row) (waits row) out unready)
    (not_less row.sent row.kept (all_sent row frames)))
    (λ h. h)
    (cases_Bool (is_held row))

-- what is known of it
pub record OneLeft (s new : Shelf) (w : Waiting) (before after : Row) : Type 0 where
  pub row : OneChanges s.rows new.rows w.local (Some before) (left_of after)
  pub stays : is_admitted after ≡ is_admitted before
  pub free : new.free ≡ free_with s.free w.local after
  pub frames : s.outbox.frames ≡ w ∷ new.outbox.frames
  pub ready : new.ready ≡ []
  pub last : is_admitted after ≡ false → count w.local (senders new.outbox) ≡ 0 → is_held after ≡ false

module _ {s new : Shelf} {w : Waiting} {before after : Row} (l : OneLeft s new w before after) where
  -- a dialogue of the list stays in it,
  stays_in : is_leaving (fin.get s.rows w.local) ≡ false → is_admitted after ≡ true
  stays_in is = l.stays ∙ in_list before (sym (ap is_leaving l.row.was) ∙ is)

  -- and its serial is its own
  free_stays : is_admitted after ≡ true → new.free ≡ s.free
  free_stays is = l.free ∙ held_free s.free w.local after (admitted_held after is)

  senders_are : senders s.outbox ≡ w.local ∷ senders new.outbox
  senders_are = ap (λ (frames : List Waiting). map (λ (w : Waiting). w.local) frames) l.frames

  -- the serials that will have come back are the same: of one dialogue,
  sent_one : (d : ℕ) → Concerns (Concerned.one d) s → Concerns (Concerned.one d) new × (all_free (Concerned.one d) new ≡ all_free (Concerned.one d) s)
  sent_one d alone = (
    λ other ne. (
      ap (count other) l.ready,
      by_number other w.local (λ k. is_leaving (fin.get s.rows k) ≡ false → is_leaving (fin.get new.rows k) ≡ false)
          (λ is. ap is_leaving l.row.there ∙ leaving_left after (stays_in is))
          (λ ne is. ap is_leaving (l.row.others other ne) ∙ is) (alone other ne).1,
    ),
    by_number d w.local (λ d. Concerns (Concerned.one d) s → all_free (Concerned.one d) new ≡ all_free (Concerned.one d) s)
        (λ _.
        (λ i. l.free i ++ own_serial w.local (l.row.there i)) ∙ free_left s.free w.local after
        ∙ ap (λ b. s.free ++ map serial_of (cond (not b) (w.local ∷ []) [])) l.stays ∙ sym (ap (λ o. s.free ++ own_serial w.local o) l.row.was))
        (λ ne alone. λ i. free_stays (stays_in (alone w.local (swapped d w.local ne)).1) i ++ own_serial d (l.row.others d ne i)) alone,
  )

  -- or of those that were due
  sent_due : Concerns Concerned.due s → Concerns Concerned.due new × (all_free Concerned.due new ≡ all_free Concerned.due s)
  sent_due c =
      let more : (k : ℕ) → count k (senders s.outbox) ≡ unit (eqb w.local k) + count k (senders new.outbox) =
      λ k. ap (count k) senders_are ∙ count-cons k w.local (senders new.outbox) in
      let none : count w.local (senders new.outbox) ≡ 0 = omega (arith, c.1 w.local, ap (count w.local) senders_are, count_own w.local (senders new.outbox)) in
      let rest : filter (λ k. is_leaving (fin.get new.rows k)) (senders new.outbox) ≡ filter (λ k. is_leaving (fin.get s.rows k)) (senders new.outbox) =
      filter_same (λ k. is_leaving (fin.get new.rows k)) (λ k. is_leaving (fin.get s.rows k)) (senders new.outbox)
      (λ k some. by_number k w.local (λ k. 0 < count k (senders new.outbox) → is_leaving (fin.get new.rows k) ≡ is_leaving (fin.get s.rows k))
      (λ some. absurd (omega (arith, some, none))) (λ ne _. ap is_leaving (l.row.others k ne)) some) in
      let others = filter (λ k. is_leaving (fin.get s.rows k)) (senders new.outbox) in
      let before_is : (b : Bool) → is_leaving (fin.get s.rows w.local) ≡ b → all_free Concerned.due s ≡ s.free ++ map serial_of (cond b (w.local ∷ others) others) =
      λ b is. ap (λ xs. s.free ++ map serial_of (filter (λ k. is_leaving (fin.get s.rows k)) xs)) senders_are ∙ ap (λ b. s.free ++ map serial_of (cond b (w.local ∷ others) others)) is in (
        (λ k some. absurd (omega (arith, some, ap (count k) l.ready)), λ k. omega (arith, c.1 k, more k, ap (count k) l.ready)),
        (λ i. l.free i ++ map serial_of (rest i))
            ∙ ⊎_elim
            (λ is.
            let a : is_admitted before ≡ true = is in
            ap (λ f. f ++ map serial_of others) (sym l.free ∙ free_stays (l.stays ∙ a)) ∙ sym (before_is false (ap is_leaving l.row.was ∙ ap not a)))
            (λ is.
            let a : is_admitted before ≡ false = is in
            let held = l.last (l.stays ∙ a) none in
            ap (λ b. cond b s.free (s.free ++ serial_of w.local ∷ []) ++ map serial_of others) held ∙ append_assoc s.free (serial_of w.local ∷ []) (map serial_of others)
            ∙ sym (before_is true (ap is_leaving l.row.was ∙ ap not a)))
            (cases_Bool (is_admitted before)),
      )

  pub sent_frees : KeepsFree s new
  sent_frees (Concerned.one d) c = sent_one d c
  sent_frees Concerned.due c = sent_due c
