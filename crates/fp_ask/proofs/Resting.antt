-- A book in which nothing waits.
use Rattle.std.proofs.Common.{◌≡◌, ℕ, ◌≤◌, Bool, true, false, cond, eqb, not, ◌&&◌, ◌||◌, nat_le, nat_lt, Option, Some, None, is_some, List, [], ◌∷◌, ◌++◌, length, drop, refl, sym, ◌∙◌, ap, arith, append-nil}
use Rattle.std.specs.FinMap as fin
use Rattle.std.specs.Option.{option_and_then, option_map_or}
use Rattle.std.proofs.lemmas.Bool.{cond_both, eq-eqb, false≢true}
use Rattle.std.proofs.lemmas.Bool.Decides.{nat_tests}
use Rattle.std.proofs.lemmas.List.{length-take-le}
use Rattle.fp_book.specs.Limits.{all_entries}
use Rattle.fp_book.specs.Rules as book
use Rattle.fp_book.specs.Shelf.{Shelf, Sound, base, of_row, ready_count, unsent_for}
use Rattle.fp_book.proofs.Sums.{len-sum, removed, sum-none}
use Rattle.fp_book.proofs.Changes.{turns_none}
use Rattle.fp_entry.specs.declared.entry.Entry.{Entry}
use Rattle.fp_entry.specs.declared.prepared.Prepared.{Prepared}
use Rattle.fp_entry.specs.Entries.{place_count}
use Rattle.fp_entry.specs.Prepared.{arrival_of}
use Rattle.fp_q773.specs.Tid.{octets_of}
use Rattle.fp_row.specs.declared.ending.Ending.{Ending}
use Rattle.fp_row.specs.declared.row.Row.{Row}
use Rattle.fp_row.specs.Row.{frames_of, is_admitted, is_closed, is_ready, kept_of, places_taken, sent_of, unserved, waiting_of, waits, has_turn_out}
use Rattle.fp_row.proofs.Keeping.{queued_within, sent_within}
use Rattle.fp_service.specs.Dialogue.{is_over}
use Rattle.fp_tids.specs.Identifiers.{identifier, is_free}
use Rattle.fp_ask.specs.Solo.{Dialogue, LinkState, facts, found, going, is_full, named, verdict}
use Rattle.fp_ask.specs.Tied.{Matches, Rest, Rows, Same, is_out, live, dialogue_of, times}
use Rattle.fp_ask.specs.proof_only.Serving.{is_leaving}
use Rattle.fp_ask.proofs.Rows.{none_waits}
use Rattle.fp_ask.proofs.Dialogues.{by_number, count, none_if, swapped, times-cons, unit}

-- of a dialogue that is not ready, and of which no turn is out, nothing waits
pub waits_by : (out waits : Bool) → out ≡ false → (not out && waits) ≡ false → waits ≡ false
waits_by out waits o h = grind (arith, nat_tests)

-- as many frames were sent as are counted, and kept as are counted
pub all_sent : (row : Row) → sent_of row ≡ kept_of row → row.sent ≡ row.kept
all_sent row same =
    let n = length (frames_of row) in
    let kept : row.kept ≤ n = omega (arith, row.kept_within, queued_within row) in
    omega (arith, ap length same, length-take-le row.sent (frames_of row) (sent_within row), length-take-le row.kept (frames_of row) kept)

-- what is held only because it takes messages takes them
held_by : (a o w k : Bool) → (a || (o || (w || k))) ≡ true → o ≡ false → w ≡ false → k ≡ false → a ≡ true
held_by a o w k h x y z = grind (arith, nat_tests)

-- equal numbers are not less
pub not_less : (m n : ℕ) → m ≡ n → nat_lt m n ≡ false
not_less m n e = grind (arith, nat_tests)

-- what is known of a dialogue then
pub record Quiet (row : Row) : Type 0 where
  pub is_out : has_turn_out row ≡ false
  pub unready : is_ready row ≡ false
  pub waiting : waiting_of row ≡ []
  pub admitted : is_admitted row ≡ true
  pub unserved : unserved row ≡ []

-- if nothing waits everything was served
unserved_by : (ended : Option Ending) (over : Bool) (k : ℕ) (xs : List Entry) → (not (is_some ended) && not over) ≡ true → k ≡ 0
    → cond (is_closed ended || over) [] (drop k xs) ≡ [] → xs ≡ []
unserved_by None false k xs a o h = sym (ap (λ k. drop k xs) o) ∙ h
unserved_by ended over k xs a o h = absurd (cc)

-- it is known of each dialogue that is held
pub quiet : (s : Shelf) → Rest s → (d : ℕ) (row : Row) → fin.get s.rows d ≡ Some row → Quiet row
quiet s r d row was =
    let sound = r.sound in
    let out : has_turn_out row ≡ false = sym (ap is_out was) ∙ r.idle d in
    let unready : is_ready row ≡ false = none_if (is_ready row) (sym (sound.ready d ∙ ap ready_count was) ∙ ap (count d) r.ready) in
    let none = none_waits row out unready in
    let frames : sent_of row ≡ kept_of row =
    sym (append-nil (sent_of row)) ∙ (λ i. of_row sent_of (sym was i) ++ unsent_for d (sym r.outbox i)) ∙ sound.frames d ∙ ap (of_row kept_of) was in
    let admitted : is_admitted row ≡ true =
    held_by (is_admitted row) (has_turn_out row) (waits row) (nat_lt row.sent row.kept) (sound.own d row was).is_left out (waits_by (has_turn_out row) (waits row) out unready) (not_less row.sent row.kept (all_sent row frames)) in
    record {
      is_out = out;
      unready = unready;
      waiting = none;
      admitted = admitted;
      unserved = unserved_by row.ended (is_over row.core) row.out (unserved row) admitted (turns_none row out) none;
    }

-- none has left the list and is held
leaving_none : (o : Option Row) → ((row : Row) → o ≡ Some row → is_admitted row ≡ true) → is_leaving o ≡ false
leaving_none None h = refl
leaving_none (Some row) h = ap not (h row refl)

pub not_leaving : (s : Shelf) → Rest s → (d : ℕ) → is_leaving (fin.get s.rows d) ≡ false
not_leaving s r d = leaving_none (fin.get s.rows d) (λ row was. (quiet s r d row was).admitted)

-- THE FACTS OF A BOOK ARE THOSE OF THE LIST

-- no entry of a dialogue is unserved
places_none : (s : Shelf) → Rest s → (d : ℕ) (o : Option Row) → fin.get s.rows d ≡ o → option_map_or places_taken o 0 ≡ 0
places_none s r d None was = refl
places_none s r d (Some row) was = ap place_count (quiet s r d row was).unserved

-- nor of the one that a message names, if it names one
unserved_none : (s : Shelf) → Rest s → (dialogue : Option ℕ) → option_map_or places_taken (option_and_then (fin.get s.rows) dialogue) 0 ≡ 0
unserved_none s r None = refl
unserved_none s r (Some d) = places_none s r d (fin.get s.rows d) refl

-- a dialogue that is in no list isn't found,
pub not_found : (d : ℕ) (dialogues : List Dialogue) → times d dialogues ≡ 0 → found d dialogues ≡ None
not_found d [] h = refl
not_found d (t ∷ dialogues) h = cond_both (eqb t.local d) (Some t) (found d dialogues) (λ o. o ≡ None)
    (λ e. absurd (omega (arith, ap unit e, h, times-cons d t dialogues))) (λ _. not_found d dialogues (omega (arith, h, times-cons d t dialogues)))

-- and one that isn't found is in no list
pub stands_nowhere : (d : ℕ) (dialogues : List Dialogue) → found d dialogues ≡ None → times d dialogues ≡ 0
stands_nowhere d [] h = refl
stands_nowhere d (t ∷ dialogues) h = grind (arith, times-cons, stands_nowhere d dialogues)

found_first : (t : Dialogue) (dialogues : List Dialogue) → found t.local (t ∷ dialogues) ≡ Some t
found_first t dialogues = ap (λ b. cond b (Some t) (found t.local dialogues)) (eq-eqb t.local t.local refl)

-- a dialogue of the list is held,
live_some : (o : Option Row) (t : Dialogue) → live o ≡ Some t → (row : Row) × (o ≡ Some row)
live_some None t e = absurd (cc)
live_some (Some row) t e = (row, refl)

-- and one that is held is in the list
live_none : (o : Option Row) → ((row : Row) → o ≡ Some row → is_admitted row ≡ true) → live o ≡ None → o ≡ None
live_none None h e = refl
live_none (Some row) h e = grind (arith, h row refl)

abbrev AllGoOn : Rows → Type 0
AllGoOn rows = (d : ℕ) (row : Row) → fin.get rows d ≡ Some row → is_admitted row ≡ true

-- a list and a map of the same dialogues are of one size
same_size : (dialogues : List Dialogue) (rows : Rows) → Same dialogues rows → AllGoOn rows → ((d : ℕ) → times d dialogues ≤ 1) → length dialogues ≡ fin.len rows
same_size [] rows same all once =
    sym (len-sum rows ∙ sum-none (λ _. 1) rows (λ d. live_none (fin.get rows d) (all d) (sym (same d))))
same_size (t ∷ dialogues) rows same all once =
    let d = t.local in
    let there = live_some (fin.get rows d) t (sym (same d) ∙ found_first t dialogues) in
    let gone = removed rows d (Some there.0) there.1 in
    let rest = fin.remove rows d in
    let own : times d dialogues ≡ 0 = omega (arith, once d, times-cons d t dialogues, ap unit (eq-eqb d d refl)) in
    let fewer : (k : ℕ) → times k dialogues ≤ 1 = λ k. omega (arith, once k, times-cons k t dialogues) in
    let same_rest : Same dialogues rest = λ k. by_number k d (λ k. found k dialogues ≡ live (fin.get rest k))
    (not_found d dialogues own ∙ sym (ap live gone.there))
    (λ ne. sym (ap (λ b. cond b (Some t) (found k dialogues)) (swapped k d ne)) ∙ same k ∙ ap live (sym (gone.others k ne))) in
    let all_rest : AllGoOn rest = λ k row was. by_number k d (λ k. fin.get rest k ≡ Some row → is_admitted row ≡ true)
    (λ was. absurd (let clash : None ≡ Some row = sym gone.there ∙ was in cc)) (λ ne was. all k row (sym (gone.others k ne) ∙ was)) was in
    let fewer_rows = gone.sums (λ _. 1) in
    let size : length dialogues ≡ fin.len rest = same_size dialogues rest same_rest all_rest fewer in
    omega (arith, size, fewer_rows, len-sum rows, len-sum rest)

-- as many dialogues go on as are held
size_is : (s : Shelf) (w : LinkState) → Rest s → Matches w s → length w.dialogues ≡ fin.len s.rows
size_is s w r m = same_size w.dialogues s.rows m.same (λ d row was. (quiet s r d row was).admitted) m.once

-- the link has accepted all that it accepts
pub full_test : (s : Shelf) (w : LinkState) → Matches w s → is_full w ≡ book.is_full s
full_test s w m = ap (nat_le all_entries) m.entries

some_by : (b : Bool) (t : Dialogue) → is_some (cond b (Some t) None) ≡ b
some_by b t = grind arith

some_live : (o : Option Row) → is_some (live o) ≡ option_map_or is_admitted o false
some_live None = refl
some_live (Some row) = some_by (is_admitted row) (dialogue_of row)

going_test : (s : Shelf) (w : LinkState) → Matches w s → (d : ℕ) → going w d ≡ book.admitted s.rows d
going_test s w m d = ap (λ b. cond b (Some d) None) (ap is_some (m.same d) ∙ some_live (fin.get s.rows d))

named_by : (s : Shelf) (w : LinkState) → Matches w s → (o : Option ℕ) → option_and_then (going w) o ≡ option_and_then (book.admitted s.rows) o
named_by s w m None = refl
named_by s w m (Some d) = going_test s w m d

-- the dialogue that a message names
named_is : (s : Shelf) (w : LinkState) (came : Prepared) → Matches w s → named w came ≡ book.named s (arrival_of came).ids
named_is s w came m = named_by s w m (option_and_then (λ tid. book.number_of (octets_of tid)) (arrival_of came).ids.dest)

-- and the facts
facts_are : (s : Shelf) (w : LinkState) (came : Prepared) → Rest s → Matches w s → facts w came ≡ book.facts_of s came
facts_are s w came r m = λ i. record {
  is_down = sym r.up i;
  names_one = is_some (named_is s w came m i);
  unserved = sym (unserved_none s r (book.named s (arrival_of came).ids)) i;
  entries = m.entries i;
  held = size_is s w r m i;
}

-- so the same is done with the message
pub verdict_is : (s : Shelf) (w : LinkState) (came : Prepared) → Rest s → Matches w s → verdict w came ≡ book.verdict s came
verdict_is s w came r m = λ i. book.verdict_by (book.rule (facts_are s w came r m i) came) (named_is s w came m i) (arrival_of came).ids.orig

-- no dialogue has the identifier of the next serial
fresh_by : (s : Shelf) (serial : ℕ) (rest : List ℕ) (o : Option Row) → Sound s → s.free ≡ serial ∷ rest → fin.get s.rows (identifier (base s) serial) ≡ o → o ≡ None
fresh_by s serial rest None sound first was = refl
fresh_by s serial rest (Some row) sound first was =
    let own = (sound.own (identifier (base s) serial) row was).serial in
    let names : identifier (base s) serial ≡ identifier (base s) own.0 = own.3 in
    let same : own.0 ≡ serial = omega (arith, names) in
    absurd (false≢true (sym own.4 ∙ ap (is_free own.0) first ∙ ap (λ b. b || is_free own.0 rest) (eq-eqb own.0 serial same)))

pub is_fresh : (s : Shelf) (serial : ℕ) (rest : List ℕ) → Sound s → s.free ≡ serial ∷ rest → fin.get s.rows (identifier (base s) serial) ≡ None
is_fresh s serial rest sound first = fresh_by s serial rest (fin.get s.rows (identifier (base s) serial)) sound first refl
