-- Books whose parcel comes back, and books whose link goes down: to close all dialogues keeps what a book keeps.
use Rattle.fp_book.proofs.Names.{AreBorn, AreTimed, AsksOnceAtMost, Bool, Closed, Closes, ClosesAt, Content, GoesDown, Inside, IsKept, IsOwn, List, LoggedStep, None, Option, Outbox, Parcel, Row, Sends, SendsAt, Shelf, Some, Sound, Unsends, [], accepted_by, ap, append-nil, arith, being_sent, birth_of, component_count, dialogue_of, false≢true, frame_out, frames_for, inl, inr, is_frame_of, is_held, is_unsent, kept_of, le_refl, length, length-append, logged, nat_tests, nil_from_length, of_row, one_if, one_sent, places_out, refl, sending, sent_by, sent_of, served_by, shelf_of, subst, sum_of, sym, take, true, turns_of, unsent_for, unsent_frames, with_dialogue, with_nothing_out, ℕ, ◌++◌, ◌+◌, ◌<◌, ◌^◌, ◌∙◌, ◌∷◌, ◌≡◌, ◌≤◌, ◌⊎◌}
use Rattle.fp_book.proofs.LowerLaws.{LowerLaws}
use Rattle.std.specs.FinMap as map
use Rattle.fp_book.proofs.Born.{born_front}
use Rattle.fp_book.proofs.Changes.{admitted, admitted_left, amount_left, by_held, count_is, entries_of, frames_left, left_by, one, one_left, ready, ready_left, turns_left, own_after}
use Rattle.fp_book.proofs.Extends.{closed_then, ended_frames, front, none_admitted, not_served, sent_count, kept_count}
use Rattle.fp_book.proofs.Sums.{Rows, amount, len-sum, sum-zero, sums-le, zero_of, sum-le}
use Rattle.fp_book.proofs.Turns.{few_sent, frames_at}
use Rattle.fp_book.specs.declared.line.LoggedStep.TheVariants as line
use Rattle.fp_book.proofs.Kept.{Deadlines, Leaves, few_entries}
use Rattle.fp_book.proofs.Unsent.{first_own}
use Rattle.fp_book.specs.declared.parcel.Content.TheVariants as content

-- what is still being sent: what was, or nothing
abbrev StillOut : Shelf → Option Content → Type 0
StillOut s out = (out ≡ s.outbox.out) ⊎ (out ≡ None)

-- a dialogue that is left was there, and was closed
closed_by : (sends : Bool) (o left : Option Row) (row : Row) → ClosesAt sends o left → left ≡ Some row → (before : Row) × (o ≡ Some before) × Closes sends before left
closed_by sends None left row closes is = absurd (let clash : None ≡ Some row = sym closes ∙ is in cc)
closed_by sends (Some before) left row closes is = (before, refl, closes)

-- each dialogue is closed
abbrev pub AllClose : Option Content → Rows → Rows → Type 0
AllClose out old new = (q : ℕ) → ClosesAt (is_frame_of q out) (map.get old q) (map.get new q)

pub closed_sums : (a b c d : Row → ℕ) (out : Option Content) (old new : Rows) → AllClose out old new
    → ((sends : Bool) (row : Row) (left : Option Row) → Closes sends row left → a row + amount b left ≤ c row + amount d left) → sum_of a old + sum_of b new ≤ sum_of c old + sum_of d new
closed_sums a b c d out old new close adds =
    let closes : (q : ℕ) (o : Option Row) → map.get old q ≡ o → ClosesAt (is_frame_of q out) o (map.get new q) = λ q o e. subst (λ o. ClosesAt (is_frame_of q out) o (map.get new q)) e (close q) in
    sums-le a b c d old new (λ q e. closes q None e) (λ q row e. adds (is_frame_of q out) row (map.get new q) (closes q (Some row) e))

-- what is kept of the frames of a dialogue that is closed
kept_then : (s : Shelf) (out : Option Content) (d : ℕ) (row : Row) → StillOut s out → sent_of row ++ unsent_for d s.outbox ≡ kept_of row
    → sent_of row ++ frame_out d out ≡ take (row.sent + sending (is_frame_of d out)) (kept_of row)
kept_then s out d row (inl same) all = subst (λ o. sent_of row ++ frame_out d o ≡ take (row.sent + sending (is_frame_of d o)) (kept_of row)) (sym same) (ended_frames s d row all)
kept_then s out d row (inr none) all =
    subst (λ o. sent_of row ++ frame_out d o ≡ take (row.sent + sending (is_frame_of d o)) (kept_of row)) (sym none)
    (sym (ap (take (row.sent + 0)) (sym all) ∙ front (row.sent + 0) (sent_of row) [] (unsent_for d s.outbox) (omega (arith, sent_count row))))

none_out : (s : Shelf) (out : Option Content) (d : ℕ) → StillOut s out → unsent_for d s.outbox ≡ [] → frame_out d out ≡ []
none_out s out d (inl same) none = ap (frame_out d) same ∙ nil_from_length (frame_out d s.outbox.out) (omega (arith, ap length none, length-append (frame_out d s.outbox.out) (frames_for d s.outbox.frames)))
none_out s out d (inr e) none = ap (frame_out d) e

no_more_out : (s : Shelf) (out : Option Content) → StillOut s out → places_out out ≤ places_out s.outbox.out
no_more_out s out (inl same) = omega (arith, ap places_out same)
no_more_out s out (inr e) = omega (arith, ap places_out e)

frames_by : (s : Shelf) (out : Option Content) (d : ℕ) (o left : Option Row) → StillOut s out → Sound s → map.get s.rows d ≡ o → ClosesAt (is_frame_of d out) o left
    → of_row sent_of left ++ (frame_out d out ++ []) ≡ of_row kept_of left
frames_by s out d None left still k was closes =
    ap (λ o. of_row sent_of o ++ (frame_out d out ++ [])) closes ∙ append-nil (frame_out d out) ∙ none_out s out d still (frames_at s d None k was)
    ∙ ap (of_row kept_of) (sym closes)
frames_by s out d (Some row) left still k was closes =
    subst (λ o. of_row sent_of o ++ (frame_out d out ++ []) ≡ of_row kept_of o) (sym closes.left_is)
    (frames_left closes.after (frame_out d out ++ [])
    (ap (λ r. r ++ (frame_out d out ++ [])) closes.ends.sent_frames ∙ ap (λ r. sent_of row ++ r) (append-nil (frame_out d out))
    ∙ kept_then s out d row still (frames_at s d (Some row) k was) ∙ sym closes.ends.kept_frames))

-- what is left isn't ready
left_not_ready : (sends : Bool) (row : Row) (left : Option Row) → Closes sends row left → amount ready left ≡ 0
left_not_ready sends row left g = ap (amount ready) g.left_is ∙ ready_left g.after ∙ ap one_if (not_served sends row g.after g.ends)

not_ready_by : (sends : Bool) (o left : Option Row) → ClosesAt sends o left → amount ready left ≡ 0
not_ready_by sends None left closes = ap (amount ready) closes
not_ready_by sends (Some row) left closes = left_not_ready sends row left closes

pub left_turns : (sends : Bool) (row : Row) (left : Option Row) → Closes sends row left → amount turns_of left ≡ turns_of row
left_turns sends row left g = ap (amount turns_of) g.left_is ∙ turns_left g.after ∙ g.ends.out

-- what was served of it, and what it accepted
left_entries : (sends : Bool) (row : Row) (left : Option Row) → Closes sends row left → served_by row + amount entries_of left ≤ entries_of row + amount served_by left
left_entries sends row left g =
    subst (λ o. served_by row + amount entries_of o ≤ entries_of row + amount served_by o) (sym g.left_is)
    (by_held g.after (λ o. served_by row + amount entries_of o ≤ entries_of row + amount served_by o)
    (λ _. omega (arith, g.ends.served, ap length g.ends.accepted)) (λ _. omega (arith, row.served_within)))

-- what of it was sent
left_sent : LowerLaws → (sends : Bool) (row : Row) (left : Option Row) → Closes sends row left → sent_by row + amount served_by left ≤ served_by row + amount sent_by left
left_sent law sends row left g =
    subst (λ o. sent_by row + amount served_by o ≤ served_by row + amount sent_by o) (sym g.left_is)
    (by_held g.after (λ o. sent_by row + amount served_by o ≤ served_by row + amount sent_by o)
    (λ _. omega (arith, g.ends.served, g.ends.sent)) (λ _. omega (arith, few_sent law.asks row)))

-- what is still being sent has the birth that it had
still_born : (s : Shelf) (out : Option Content) (d birth : ℕ) → StillOut s out → AreBorn d birth (unsent_frames s.outbox) → AreBorn d birth (being_sent out ++ [])
still_born s out d birth (inl same) all =
    subst (λ o. AreBorn d birth (being_sent o ++ [])) (sym same) (subst (AreBorn d birth) (sym (append-nil (being_sent s.outbox.out))) (born_front d birth (being_sent s.outbox.out) s.outbox.frames all))
still_born s out d birth (inr none) all = subst (λ o. AreBorn d birth (being_sent o ++ [])) (sym none) tt

-- a dialogue that is left has the birth that it had
birth_by : (sends : Bool) (before : Row) (left : Option Row) (row : Row) → Closes sends before left → left ≡ Some row → before.birth ≡ row.birth
birth_by sends before left row closes is =
    let same : closes.after ≡ row = (left_by (is_held closes.after) closes.after row (sym closes.left_is ∙ is)).1 in
    sym closes.ends.same.birth ∙ ap (λ (r : Row). r.birth) same

births_by : (s : Shelf) (out : Option Content) (d q : ℕ) (left other : Option Row) (row held : Row) → Sound s → left ≡ left → other ≡ other → ClosesAt (is_frame_of d out) (map.get s.rows d) left → ClosesAt (is_frame_of q out) (map.get s.rows q) other
    → left ≡ Some row → other ≡ Some held → row.birth ≡ held.birth → d ≡ q
births_by s out d q left other row held k _ _ closes closing there here same =
    let was = closed_by (is_frame_of d out) (map.get s.rows d) left row closes there in
    let were = closed_by (is_frame_of q out) (map.get s.rows q) other held closing here in
    k.births_apart d q was.0 were.0 was.1 were.1 (birth_by (is_frame_of d out) was.0 left row was.2 there ∙ same ∙ sym (birth_by (is_frame_of q out) were.0 other held were.2 here))

pub Sound-down : LowerLaws → (out : Option Content) (old : Shelf) (step : LoggedStep) (new : Shelf) → Sound old → StillOut old out → GoesDown out old step new → Sound new
Sound-down law out old step new s still g =
    let outbox : Outbox = record { aborts = []; frames = []; out = out } in
    let then : Shelf = record old {
      rows = new.rows;
      ready = [];
      outbox = outbox;
      gone = new.gone;
      log = logged old.log step;
      is_down = true;
    } in
    let sums : (a b c d : Row → ℕ) → ((sends : Bool) (row : Row) (left : Option Row) → Closes sends row left → a row + amount b left ≤ c row + amount d left) → sum_of a old.rows + sum_of b new.rows ≤ sum_of c old.rows + sum_of d new.rows =
    λ a b c d. closed_sums a b c d out old.rows new.rows g.rows in
    let admits = sums zero_of admitted admitted zero_of (λ sends row left g. omega (arith, ap (amount admitted) g.left_is, admitted_left g.after, ap one_if (none_admitted Closed sends row g.after g.ends))) in
    let turns = sums zero_of turns_of turns_of zero_of (λ sends row left g. omega (arith, left_turns sends row left g)) in
    let readies = sums zero_of ready zero_of zero_of (λ sends row left g. omega (arith, left_not_ready sends row left g)) in
    let ones = sums zero_of one one zero_of (λ sends row left g. omega (arith, ap (amount one) g.left_is, one_left g.after)) in
    let entries = sums served_by entries_of entries_of served_by left_entries in
    let sents = sums sent_by served_by served_by sent_by (left_sent law) in
    let no_old = sum-zero old.rows in
    let no_new = sum-zero new.rows in
    let sound : Sound then =
    record {
      links = s.links;
      tags = s.tags;
      serials = s.serials;
      serial_count = λ up. absurd (false≢true (sym up));
      births = s.births;
      births_apart = λ d q row held there here same. births_by old out d q (map.get new.rows d) (map.get new.rows q) row held s refl refl (g.rows d) (g.rows q) there here same;
      entries = omega (arith, s.entries, admits, no_old, no_new);
      own = λ d row e.
          let was = closed_by (is_frame_of d out) (map.get old.rows d) (map.get new.rows d) row (g.rows d) e in
          let closes : Closes (is_frame_of d out) was.0 (map.get new.rows d) = was.2 in
          let held : (is_held closes.after ≡ true) × (closes.after ≡ row) = left_by (is_held closes.after) closes.after row (sym closes.left_is ∙ e) in
          subst (IsOwn then d) held.1
          (own_after old then d was.0 closes.after (s.own d was.0 was.1) closes.ends.same refl (λ _. refl) (le_refl old.births)
          (still_born old out d was.0.birth still (s.own d was.0 was.1).frames_born) (λ _. refl) (λ _. closes.ends.ended ∙ closed_then was.0.ended) held.0);
      held = omega (arith, s.held, ones, no_old, no_new, len-sum old.rows, len-sum new.rows);
      frames = λ d. frames_by old out d (map.get old.rows d) (map.get new.rows d) still s refl (g.rows d);
      ready = λ d. sym (count_is (map.get new.rows d) ∙ not_ready_by (is_frame_of d out) (map.get old.rows d) (map.get new.rows d) (g.rows d));
      ready_length = omega (arith, readies, no_old, no_new);
      places = omega (arith, s.places, turns, no_old, no_new, no_more_out old out still);
      aborts = omega arith;
      quiet = λ _. (refl, refl);
      accepted = omega (arith, s.accepted, g.accepted);
      served = omega (arith, s.served, g.served);
      sent = omega (arith, s.sent, g.sent);
      all_entries = omega (arith, s.all_entries, g.served, entries);
      few_accepted = s.few_accepted;
      gone_sent = omega (arith, s.gone_sent, g.sent, g.served, sents);
    }
    in
    subst Sound (sym g.new_is) sound

pub Sound-goes_down : LowerLaws → (old new : Shelf) → Sound old → GoesDown old.outbox.out old line.Down new → Sound new
Sound-goes_down law old new s g = Sound-down law old.outbox.out old line.Down new s (inl refl) g

pub Sound-unsends : LowerLaws → (old new : Shelf) (parcel : Parcel) → Sound old → Unsends old parcel new → Sound new
Sound-unsends law old new parcel s g = Sound-down law None old _ new s (inr refl) g.down

-- an Abort that was sent comes back
pub abort_sends : (old new : Shelf) (content : Content) → None ≡ dialogue_of content → old.outbox.out ≡ Some content → new ≡ record old { outbox = with_nothing_out old.outbox; log = logged old.log (line.Sent 0) } → Sends old content new
abort_sends old new (content.Frame w) none was_out is = absurd (let clash : None ≡ Some w.local = none in cc)
abort_sends old new (content.Abort frame) none was_out is = record { was_out = was_out; new_is = is }

-- the frame of a dialogue that was sent comes back
pub frame_sends : (old new : Shelf) (content : Content) (local : ℕ) (held : Bool) (rows : Rows) → Some local ≡ dialogue_of content → old.outbox.out ≡ Some content → (h : SendsAt old.rows local held rows)
    → new ≡ record (with_dialogue old local h.after) { outbox = with_nothing_out old.outbox; totals = one_sent old.totals; log = logged old.log (line.Sent (birth_of content)) } → Sends old content new
frame_sends old new (content.Abort frame) local held rows some was_out h is = absurd (let clash : Some local ≡ None = some in cc)
frame_sends old new (content.Frame w) local held rows some was_out h is =
    let same : local ≡ w.local = let e : Some local ≡ Some w.local = some in cc in
    let sent : ℕ → Row → Shelf = λ l after. record (with_dialogue old l after) { outbox = with_nothing_out old.outbox; totals = one_sent old.totals; log = logged old.log (line.Sent w.birth) } in
    record { before = h.before; after = h.after; was_out = was_out; was = ap (map.get old.rows) (sym same) ∙ h.was; sends = h.does.0; new_is = is ∙ ap (λ l. sent l h.after) same }

unsent_by : (frame : List ℕ) (rest : List (List ℕ)) (there : Option Row) → of_row sent_of there ++ frame ∷ rest ≡ of_row kept_of there → is_unsent there ≡ true
unsent_by frame rest None all = absurd (let clash : frame ∷ rest ≡ [] = all in cc)
unsent_by frame rest (Some row) all =
    let count : length (sent_of row ++ frame ∷ rest) ≡ length (kept_of row) = ap length all in
    let less : row.sent < row.kept = omega (arith, count, length-append (sent_of row) (frame ∷ rest), sent_count row, kept_count row) in
    grind (arith, nat_tests)

-- the frame that is being sent is kept, and wasn't sent
pub unsent_out : (b : Inside) (content : Content) (local : ℕ) → IsKept b → Some local ≡ dialogue_of content → b.outbox.out ≡ Some content → is_unsent (map.get b.rows local) ≡ true
unsent_out b (content.Abort frame) local k some was_out = absurd (let clash : Some local ≡ None = some in cc)
unsent_out b (content.Frame w) local k some was_out =
    let same : w.local ≡ local = let e : Some local ≡ Some w.local = some in cc in
    let waits_for = frames_for w.local b.outbox.frames in
    subst (λ l. is_unsent (map.get b.rows l) ≡ true) same
    (unsent_by w.frame waits_for (map.get b.rows w.local)
    (ap (λ r. of_row sent_of (map.get b.rows w.local) ++ (r ++ waits_for)) (sym (first_own w.local w [] refl))
    ∙ ap (λ o. of_row sent_of (map.get b.rows w.local) ++ (frame_out w.local o ++ waits_for)) (sym was_out) ∙ k.sound.frames w.local))

-- one more may be counted as sent
pub sent_fits : AsksOnceAtMost → (b : Inside) → IsKept b → b.totals.sent + 1 < 2 ^ 64
sent_fits law b k =
    let few : sum_of sent_by b.rows ≤ sum_of (λ (row : Row). length row.accepted) b.rows =
    sum-le sent_by (λ (row : Row). length row.accepted) b.rows (λ row. let a : row.sent ≤ row.served = few_sent law row in let c : row.served ≤ length row.accepted = row.served_within in omega (arith, a, c))
    in
    omega (arith, few, k.sound.sent, k.sound.gone_sent, k.sound.all_entries, few_entries (shelf_of b) k.sound)

-- it adds no more to a sum than it did
no_more : (f : Row → ℕ) (out : Option Content) (old new : Rows) → AllClose out old new → ((sends : Bool) (row : Row) (left : Option Row) (g : Closes sends row left) → f g.after ≡ f row) → sum_of f new ≤ sum_of f old
no_more f out old new close same =
    let adds : (sends : Bool) (row : Row) (left : Option Row) → Closes sends row left → zero_of row + amount f left ≤ f row + amount zero_of left =
    λ sends row left g. omega (arith, subst (λ o. amount f o ≤ f row) (sym g.left_is) (by_held g.after (λ o. amount f o ≤ f row) (λ _. omega (arith, same sends row left g)) (λ _. omega arith)))
    in
    omega (arith, closed_sums zero_of f f zero_of out old new close adds, sum-zero old, sum-zero new)

-- the turns stay out
turns_stay : (out : Option Content) (old new : Rows) → AllClose out old new → sum_of turns_of old ≡ sum_of turns_of new
turns_stay out old new close =
    let most = closed_sums zero_of turns_of turns_of zero_of out old new close (λ sends row left g. omega (arith, left_turns sends row left g)) in
    let least = closed_sums turns_of zero_of zero_of turns_of out old new close (λ sends row left g. omega (arith, left_turns sends row left g, ap (amount zero_of) g.left_is, amount_left zero_of g.after (λ _. refl))) in
    omega (arith, most, least, sum-zero old, sum-zero new)

-- a book that is down
abbrev pub down_book : Inside → Rows → Deadlines → List ℕ → Outbox → List LoggedStep → Inside
down_book b rows deadlines ready outbox log = record b { rows = rows; deadlines = deadlines; ready = ready; outbox = outbox; log = log; is_down = true }

-- a book whose link goes down leaves what it should; `out` is what is still being sent
pub gone_down : (b : Inside) (out : Option Content) (step : LoggedStep) (rows : Rows) (deadlines : Deadlines) (ready : List ℕ) (outbox : Outbox) (log : List LoggedStep)
    → ((new : Shelf) → GoesDown out (shelf_of b) step new → Sound new) → IsKept b → AllClose out b.rows rows → AreTimed deadlines rows → ready ≡ []
    → outbox ≡ record { aborts = []; frames = []; out = out } → log ≡ logged b.log step → Leaves (down_book b rows deadlines ready outbox log) (λ new. GoesDown out (shelf_of b) step new)
gone_down b out step rows deadlines ready outbox log law k close timed ready_is outbox_is log_is =
    let old : Shelf = shelf_of b in
    let made : Inside = down_book b rows deadlines ready outbox log in
    let new : Shelf = shelf_of made in
    let then : List ℕ → Outbox → List LoggedStep → Shelf = λ ready outbox log. record old {
      rows = rows;
      ready = ready;
      outbox = outbox;
      gone = new.gone;
      log = log;
      is_down = true;
    } in
    let accepted : sum_of accepted_by rows ≤ sum_of accepted_by b.rows = no_more accepted_by out b.rows rows close (λ _ _ _ g. ap component_count g.ends.accepted) in
    let served : sum_of served_by rows ≤ sum_of served_by b.rows = no_more served_by out b.rows rows close (λ _ _ _ g. g.ends.served) in
    let sent : sum_of sent_by rows ≤ sum_of sent_by b.rows = no_more sent_by out b.rows rows close (λ _ _ _ g. g.ends.sent) in
    let down : GoesDown out old step new =
    record {
      rows = close;
      accepted = omega (arith, accepted, k.sound.accepted);
      served = omega (arith, served, k.sound.served);
      sent = omega (arith, sent, k.sound.sent);
      new_is =
          ap (λ r. then r outbox log) ready_is ∙ ap (λ o. then [] o log) outbox_is
          ∙ ap (then [] (record { aborts = []; frames = []; out = out })) log_is;
    }
    in
    record {
      kept = record { sound = law new down; links = k.links; turns = k.turns ∙ turns_stay out b.rows rows close; timed = timed };
      is = down;
    }
