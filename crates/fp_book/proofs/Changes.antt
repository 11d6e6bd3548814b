-- One dialogue of a link changes, comes or goes: what its book keeps then.
use Rattle.fp_book.proofs.Names.{AreBorn, Bool, Closed, IsOwn, IsSame, List, None, Option, Outbox, Row, Shelf, Some, Sound, Totals, [], accepted_by, add-zero, all_entries, and_right, ap, arith, base, base_of, cases_Bool, cond, cond_both, count_by, eqb, eqb-true, false, frames_for, frames_held, frames_of, gone_with, has_turn_out, identifier, is_admitted, is_free, is_held, is_ready, is_some, keep, kept_of, le_refl, length, length-append, link_with_tag, ltb-false, most_aborts_waiting, most_dialogues, most_places, nat_lt, nat_tests, not, of_row, one_if, or_parts, places_held, ready_count, refl, sent_by, sent_of, served_by, subst, sum_of, sym, take, true, turns_of, unsent_for, unsent_frames, waits, with_row, ℕ, ⊎_elim, ◌++◌, ◌+◌, ◌<◌, ◌||◌, ◌∙◌, ◌∷◌, ◌≡◌, ◌≤◌, ◌*◌}
use Rattle.std.specs.FinMap as map
use Rattle.fp_book.proofs.Serials.{SerialsChange}
use Rattle.fp_book.proofs.Sums.{OneChanges, Rows, amount, kept, left_of, len-sum}

-- how often a dialogue is in a queue
abbrev pub count : ℕ → List ℕ → ℕ
count local queue = count_by (λ other. eqb other local) queue

-- what the sums add up
abbrev pub admitted : Row → ℕ
admitted row = one_if (is_admitted row)

abbrev pub ready : Row → ℕ
ready row = one_if (is_ready row)

abbrev pub entries_of : Row → ℕ
entries_of row = length row.accepted

abbrev pub one : Row → ℕ
one row = 1

-- the order of service, in which a dialogue was so often, and is so often then
pub record QueueChanges (old new : List ℕ) (local was is : ℕ) : Type 0 where
  pub own : count local new ≡ is
  pub others : (d : ℕ) → eqb d local ≡ false → count d new ≡ count d old
  pub length_is : length new + was ≡ length old + is

-- what is to be sent, if one dialogue changes
pub record OutboxChanges (s : Shelf) (outbox : Outbox) (local : ℕ) (before : Option Row) (after : Row) : Type 0 where
  pub other_dropped : (d : ℕ) → eqb d local ≡ false → frames_for d s.outbox.frames ≡ [] → frames_for d outbox.frames ≡ []
  pub own_frames : sent_of after ++ unsent_for local outbox ≡ kept_of after
  pub other_frames : (d : ℕ) → eqb d local ≡ false → unsent_for d outbox ≡ unsent_for d s.outbox
  pub others_born : (d birth : ℕ) → eqb d local ≡ false → AreBorn d birth (unsent_frames s.outbox) → AreBorn d birth (unsent_frames outbox)
  pub places : frames_held outbox + turns_of after + places_held s ≤ frames_held s.outbox + amount turns_of before + most_places
  pub aborts : length outbox.aborts ≤ most_aborts_waiting
  pub quiet : s.is_down ≡ true → (outbox.aborts ≡ []) × (outbox.frames ≡ [])

-- what is counted, if one dialogue changes
pub record CountsChange (old new : Shelf) (before : Option Row) (after : Row) : Type 0 where
  pub accepted : new.totals.accepted + amount accepted_by before ≡ old.totals.accepted + accepted_by after
  pub served : new.totals.served + amount served_by before ≡ old.totals.served + served_by after
  pub sent : new.totals.sent + amount sent_by before ≡ old.totals.sent + sent_by after
  pub all_entries : entries_of after + old.entries ≤ new.entries + amount entries_of before
  pub few_accepted : new.totals.accepted ≤ new.entries
  pub few_sent : after.sent ≤ after.served

-- the link is the same; a Begin may have been accepted
pub record LinkStays (old new : Shelf) : Type 0 where
  pub link : link_with_tag new.link new.tag ≡ link_with_tag old.link old.tag
  pub births : old.births ≤ new.births
  pub few_births : new.births ≤ new.entries
  pub down : new.is_down ≡ old.is_down

pub link_stays : (old new : Shelf) → Sound old → link_with_tag new.link new.tag ≡ link_with_tag old.link old.tag → new.births ≡ old.births → old.entries ≤ new.entries → new.is_down ≡ old.is_down → LinkStays old new
link_stays old new s link births entries down = record {
  link = link;
  births = omega (arith, births);
  few_births = omega (arith, births, entries, s.births);
  down = down;
}

-- a dialogue that changes has the birth that it had, so no other has it
pub still_apart : (s : Shelf) (local : ℕ) (before after : Row) → Sound s → map.get s.rows local ≡ Some before → after.birth ≡ before.birth
    → (q : ℕ) (held : Row) → eqb q local ≡ false → map.get s.rows q ≡ Some held → after.birth ≡ held.birth → local ≡ q
still_apart s local before after k was same q held ne there alike = k.births_apart local q before held was there (sym same ∙ alike)

-- one dialogue changes; `before` is what there was, and `after` what it is then, whether or not something of it is left
pub record Change (old new : Shelf) (local : ℕ) (before : Option Row) (after : Row) : Type 0 where
  pub was : map.get old.rows local ≡ before
  pub rows : new.rows ≡ keep old.rows local after
  pub gone : new.gone ≡ gone_with old.gone after
  pub link : LinkStays old new
  pub serials : SerialsChange old new.free local before (left_of after)
  -- no other dialogue has its birth
  pub apart : (q : ℕ) (held : Row) → eqb q local ≡ false → map.get old.rows q ≡ Some held → after.birth ≡ held.birth → local ≡ q
  pub entries : new.entries + sum_of admitted old.rows + admitted after ≤ all_entries + 2 * most_dialogues + amount admitted before
  pub room : map.len old.rows < most_dialogues + amount one before
  pub own : is_held after ≡ true → IsOwn new local after
  pub queue : QueueChanges old.ready new.ready local (amount ready before) (ready after)
  pub outbox : OutboxChanges old new.outbox local before after
  pub counts : CountsChange old new before after

-- an identifier is this one, or another
pub by_local : (d local : ℕ) (P : ℕ → Type 0) → P local → (eqb d local ≡ false → P d) → P d
by_local d local P own other = ⊎_elim (λ e. subst P (sym (eqb-true d local e)) own) other (cases_Bool (eqb d local))

-- something is left of a dialogue, or nothing is
pub by_held : (row : Row) (P : Option Row → Type 0) → (is_held row ≡ true → P (Some row)) → (is_held row ≡ false → P None) → P (left_of row)
by_held row P = cond_both (is_held row) (Some row) None P

-- no entry of a dialogue is out if it has no turn out
none_by : (n : ℕ) → nat_lt 0 n ≡ false → n ≡ 0
none_by n out = grind (arith, nat_tests)

pub turns_none : (row : Row) → has_turn_out row ≡ false → turns_of row ≡ 0
turns_none row = none_by row.out

-- what is not held
pub record NotHeld (row : Row) : Type 0 where
  pub admitted : is_admitted row ≡ false
  pub is_out : has_turn_out row ≡ false
  pub waits : waits row ≡ false
  pub sent : row.kept ≤ row.sent

pub not_held : (row : Row) → is_held row ≡ false → NotHeld row
not_held row h =
    let a : (is_admitted row ≡ false) × ((has_turn_out row || (waits row || nat_lt row.sent row.kept)) ≡ false) = or_parts (is_admitted row) (has_turn_out row || (waits row || nat_lt row.sent row.kept)) h in
    let b : (has_turn_out row ≡ false) × ((waits row || nat_lt row.sent row.kept) ≡ false) = or_parts (has_turn_out row) (waits row || nat_lt row.sent row.kept) a.1 in
    let c : (waits row ≡ false) × (nat_lt row.sent row.kept ≡ false) = or_parts (waits row) (nat_lt row.sent row.kept) b.1 in
    record { admitted = a.0; is_out = b.0; waits = c.0; sent = ltb-false row.sent row.kept c.1 }

not_ready : (row : Row) → NotHeld row → is_ready row ≡ false
not_ready row h = and_right (not (has_turn_out row)) (waits row) h.waits

-- it adds nothing to what only those that are held have
pub amount_left : (f : Row → ℕ) (row : Row) → (NotHeld row → f row ≡ 0) → amount f (left_of row) ≡ f row
amount_left f row none = by_held row (λ o. amount f o ≡ f row) (λ h. refl) (λ h. sym (none (not_held row h)))

pub admitted_left : (row : Row) → amount admitted (left_of row) ≡ admitted row
admitted_left row = amount_left admitted row (λ h. ap one_if h.admitted)

pub ready_left : (row : Row) → amount ready (left_of row) ≡ ready row
ready_left row = amount_left ready row (λ h. ap one_if (not_ready row h))

pub turns_left : (row : Row) → amount turns_of (left_of row) ≡ turns_of row
turns_left row = amount_left turns_of row (λ h. turns_none row h.is_out)

pub one_left : (row : Row) → amount one (left_of row) ≤ 1
one_left row = by_held row (λ o. amount one o ≤ 1) (λ h. omega arith) (λ h. omega arith)

-- nothing comes after a list that it leaves as it is
none_behind : (xs ys : List (List ℕ)) → xs ++ ys ≡ xs → ys ≡ []
none_behind xs [] e = refl
none_behind xs (y ∷ ys) e = absurd (let n : length (xs ++ y ∷ ys) ≡ length xs = ap length e in omega (arith, length-append xs (y ∷ ys)))

-- if nothing is left, all that is kept was sent
all_sent : (row : Row) (unsent : List (List ℕ)) → NotHeld row → sent_of row ++ unsent ≡ kept_of row → unsent ≡ []
all_sent row unsent h e =
    let same : row.kept ≡ row.sent = omega (arith, h.sent, row.sent_within) in
    none_behind (sent_of row) unsent (e ∙ ap (λ n. take n (frames_of row)) same)

pub frames_left : (row : Row) (unsent : List (List ℕ)) → sent_of row ++ unsent ≡ kept_of row → of_row sent_of (left_of row) ++ unsent ≡ of_row kept_of (left_of row)
frames_left row unsent e = by_held row (λ o. of_row sent_of o ++ unsent ≡ of_row kept_of o) (λ h. e) (λ h. all_sent row unsent (not_held row h) e)

pub one_by : (b : Bool) → cond {A = ℕ} b 1 0 ≡ one_if b
one_by true = refl
one_by false = refl

pub one_if_most : (b : Bool) → one_if b ≤ 1
one_if_most true = omega arith
one_if_most false = omega arith

pub one_most : (b : Bool) → cond {A = ℕ} b 1 0 ≤ 1
one_most b = omega (arith, one_by b, one_if_most b)

-- a dialogue is in the queue once, if it is ready
pub count_is : (o : Option Row) → ready_count o ≡ amount ready o
count_is None = refl
count_is (Some row) = one_by (is_ready row)

-- what was counted of a dialogue is still counted
pub record GoneWith (gone gone_then : Totals) (row : Row) (left : Option Row) : Type 0 where
  pub accepted : gone_then.accepted + amount accepted_by left ≡ gone.accepted + accepted_by row
  pub served : gone_then.served + amount served_by left ≡ gone.served + served_by row
  pub sent : gone_then.sent + amount sent_by left ≡ gone.sent + sent_by row
  pub all_entries : gone_then.served + amount entries_of left ≤ gone.served + entries_of row
  pub few_sent : gone.sent ≤ gone.served → gone_then.sent ≤ gone_then.served

gone_by : (gone : Totals) (row : Row) → row.sent ≤ row.served → (b : Bool) → GoneWith gone (cond b gone (with_row gone row)) row (cond b (Some row) None)
gone_by gone row few true = record { accepted = refl; served = refl; sent = refl; all_entries = le_refl _; few_sent = λ le. le }
gone_by gone row few false = record {
  accepted = add-zero _;
  served = add-zero _;
  sent = add-zero _;
  all_entries = let within : row.served ≤ length row.accepted = row.served_within in omega (arith, within);
  few_sent = λ le. omega (arith, le, few);
}

-- what of a dialogue stays if it changes
pub own_after : (old new : Shelf) (d : ℕ) (before after : Row) → IsOwn old d before → IsSame before after → base new ≡ base old → (is_held after ≡ true → new.free ≡ old.free) → old.births ≤ new.births
    → AreBorn d before.birth (unsent_frames new.outbox) → (is_some after.ended ≡ true → frames_for d new.outbox.frames ≡ []) → (new.is_down ≡ true → after.ended ≡ Some Closed) → is_held after ≡ true → IsOwn new d after
own_after old new d before after own same link free births born dropped closed held = record {
  local_is = same.local ∙ own.local_is;
  is_left = held;
  born = (let more : 0 < before.birth = own.born.0 in omega (arith, same.birth), let most : before.birth ≤ old.births = own.born.1 in omega (arith, same.birth));
  serial = (own.serial.0, own.serial.1, own.serial.2, own.serial.3 ∙ ap (λ l. identifier l own.serial.0) (sym link), ap (is_free own.serial.0) (free held) ∙ own.serial.4);
  frames_born = subst (λ n. AreBorn d n (unsent_frames new.outbox)) (sym same.birth) born;
  dropped = dropped;
  closed = closed;
}

-- what holds of a dialogue still holds of it
pub stays_own : (old new : Shelf) (d : ℕ) (row : Row) → base new ≡ base old → ((serial : ℕ) → d ≡ identifier (base old) serial → is_free serial old.free ≡ false → is_free serial new.free ≡ false)
    → old.births ≤ new.births → new.is_down ≡ old.is_down → (AreBorn d row.birth (unsent_frames old.outbox) → AreBorn d row.birth (unsent_frames new.outbox))
    → (frames_for d old.outbox.frames ≡ [] → frames_for d new.outbox.frames ≡ []) → IsOwn old d row → IsOwn new d row
stays_own old new d row link given births down born dropped own = record {
  local_is = own.local_is;
  is_left = own.is_left;
  born = (own.born.0, let most : row.birth ≤ old.births = own.born.1 in omega (arith, most, births));
  serial = (own.serial.0, own.serial.1, own.serial.2, own.serial.3 ∙ ap (λ l. identifier l own.serial.0) (sym link), given own.serial.0 own.serial.3 own.serial.4);
  frames_born = born own.frames_born;
  dropped = λ e. dropped (own.dropped e);
  closed = λ e. own.closed (sym down ∙ e);
}

pub left_by : (b : Bool) (after row : Row) → cond b (Some after) None ≡ Some row → (b ≡ true) × (after ≡ row)
left_by true after row e = (refl, cc)
left_by false after row e = absurd (cc)

own_left : (s : Shelf) (local : ℕ) (after row : Row) → (is_held after ≡ true → IsOwn s local after) → left_of after ≡ Some row → IsOwn s local row
own_left s local after row own e =
    let is : (is_held after ≡ true) × (after ≡ row) = left_by (is_held after) after row e in
    subst (IsOwn s local) is.1 (own is.0)

-- no two dialogues have one birth still
apart_by : (old new : Rows) (local : ℕ) (before left : Option Row) → OneChanges old new local before left
    → ((d q : ℕ) (row held : Row) → map.get old d ≡ Some row → map.get old q ≡ Some held → row.birth ≡ held.birth → d ≡ q)
    → ((q : ℕ) (held row : Row) → eqb q local ≡ false → map.get old q ≡ Some held → left ≡ Some row → row.birth ≡ held.birth → local ≡ q)
    → (d q : ℕ) (row held : Row) → map.get new d ≡ Some row → map.get new q ≡ Some held → row.birth ≡ held.birth → d ≡ q
apart_by old new local before left one apart own d q row held was there same =
    by_local d local (λ d. map.get new d ≡ Some row → d ≡ q)
    (λ here.
    by_local q local (λ q. map.get new q ≡ Some held → local ≡ q) (λ _. refl)
    (λ ne there. own q held row ne (sym (one.others q ne) ∙ there) (sym one.there ∙ here) same) there)
    (λ ne here.
    by_local q local (λ q. map.get new q ≡ Some held → d ≡ q) (λ there. sym (own d row held ne (sym (one.others d ne) ∙ here) (sym one.there ∙ there) (sym same)))
    (λ other there. apart d q row held (sym (one.others d ne) ∙ here) (sym (one.others q other) ∙ there) same) there)
    was

pub Sound-change : (old new : Shelf) (local : ℕ) (before : Option Row) (after : Row) → Sound old → Change old new local before after → Sound new
Sound-change old new local before after s g =
    let rows : OneChanges old.rows new.rows local before (left_of after) = subst (λ r. OneChanges old.rows r local before (left_of after)) (sym g.rows) (kept old.rows local before after g.was) in
    let gone : GoneWith old.gone new.gone after (left_of after) = subst (λ t. GoneWith old.gone t after (left_of after)) (sym g.gone) (gone_by old.gone after g.counts.few_sent (is_held after)) in
    record {
      links = let same : new.link ≡ old.link = ap (λ (p : ℕ × ℕ). p.0) g.link.link in omega (arith, same, s.links);
      tags = let same : new.tag ≡ old.tag = ap (λ (p : ℕ × ℕ). p.1) g.link.link in omega (arith, same, s.tags);
      serials = g.serials.serials;
      serial_count = λ up. omega (arith, g.serials.count, s.serial_count (sym g.link.down ∙ up), rows.sums one, len-sum new.rows, len-sum old.rows);
      births = g.link.few_births;
      births_apart = apart_by old.rows new.rows local before (left_of after) rows s.births_apart
          (λ q held row ne there left same.
          let is : after ≡ row = (left_by (is_held after) after row left).1 in
          g.apart q held ne there (ap (λ (r : Row). r.birth) is ∙ same));
      entries = omega (arith, g.entries, rows.sums admitted, admitted_left after);
      own = λ d row.
          by_local d local (λ d. map.get new.rows d ≡ Some row → IsOwn new d row)
          (λ e. own_left new local after row g.own (sym rows.there ∙ e))
          (λ ne e.
          stays_own old new d row (ap (λ (p : ℕ × ℕ). base_of p.0 p.1) g.link.link) (λ serial. g.serials.others d serial ne) g.link.births g.link.down (g.outbox.others_born d row.birth ne) (g.outbox.other_dropped d ne)
          (s.own d row (sym (rows.others d ne) ∙ e)));
      held = omega (arith, rows.sums one, one_left after, g.room, len-sum new.rows, len-sum old.rows);
      frames = λ d.
          by_local d local (λ d. of_row sent_of (map.get new.rows d) ++ unsent_for d new.outbox ≡ of_row kept_of (map.get new.rows d))
          (subst (λ o. of_row sent_of o ++ unsent_for local new.outbox ≡ of_row kept_of o) (sym rows.there) (frames_left after (unsent_for local new.outbox) g.outbox.own_frames))
          (λ ne.
          subst (λ o. of_row sent_of o ++ unsent_for d new.outbox ≡ of_row kept_of o) (sym (rows.others d ne))
          (ap (λ r. of_row sent_of (map.get old.rows d) ++ r) (g.outbox.other_frames d ne) ∙ s.frames d));
      ready = λ d.
          by_local d local (λ d. count d new.ready ≡ ready_count (map.get new.rows d))
          (g.queue.own ∙ sym (ready_left after) ∙ sym (count_is (left_of after)) ∙ ap ready_count (sym rows.there))
          (λ ne. g.queue.others d ne ∙ s.ready d ∙ ap ready_count (sym (rows.others d ne)));
      ready_length = omega (arith, g.queue.length_is, s.ready_length, rows.sums ready, ready_left after);
      places = omega (arith, g.outbox.places, s.places, rows.sums turns_of, turns_left after);
      aborts = g.outbox.aborts;
      quiet = λ e. g.outbox.quiet (sym g.link.down ∙ e);
      accepted = omega (arith, g.counts.accepted, s.accepted, rows.sums accepted_by, gone.accepted);
      served = omega (arith, g.counts.served, s.served, rows.sums served_by, gone.served);
      sent = omega (arith, g.counts.sent, s.sent, rows.sums sent_by, gone.sent);
      all_entries = omega (arith, g.counts.all_entries, s.all_entries, rows.sums entries_of, gone.all_entries);
      few_accepted = g.counts.few_accepted;
      gone_sent = gone.few_sent s.gone_sent;
    }
