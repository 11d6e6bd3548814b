-- The tokens that a run keeps are those that its book handed out.
use Rattle.fp_steps.proofs.Names.{AbortCause, Answers, Bool, ClosesOne, Content, Done, EndsDialogue, ExtendsDialogue, FinMap, Follows, Given, GivesDone, Holds, IsOwn, List, LoggedStep, None, OneChanges, OpensDialogue, Option, Parcel, ParcelIs, Posted, Prepared, PutsTurnBack, Refuses, Row, Sends, Shelf, Some, Sound, TakesFirst, TakesOut, TakesTurn, Tid, Turn, Verdict, [], abort_for, add-one, and_parts, ap, append-nil, arith, arrival_of, base, by_held, by_local, common_remove as remove, cond, cond_some, drop, eq-eqb, eqb, eqb-true, false, false≢true, filter, filter-append, find, get, identifier, inserted, is_free, kept, last_serial, left_of, length, ltb-false, ltb-true, nat_cmp, nat_lt, nat_tests, not, not-true, not_held, option_map, option_to_list, passes_at_first, position, position_or_len, refl, row_turn as turn_out, row_waits as waits, rules, slice_index_or, split_at_first, subst, suc, sym, take, take_all, true, turn_of, turns_at, ℕ, ◌++◌, ◌+◌, ◌<◌, ◌||◌, ◌∙◌, ◌∷◌, ◌≡◌, ◌≤◌}
use Rattle.fp_row.specs.Row as row
use Rattle.fp_row.specs.Row.{has_turn_out}
use Rattle.fp_steps.proofs.HeldDialogues.{one_put, by_option, eqb_swap}

-- nothing is done with the turns and the parcel that are out
pub record Untouched (old new : Shelf) : Type 0 where
  pub turns_stay : (local : ℕ) → turn_of (get new.rows local) ≡ turn_of (get old.rows local)
  pub link_is : new.link ≡ old.link
  pub tag_is : new.tag ≡ old.tag
  pub out_is : new.outbox.out ≡ old.outbox.out

parcel_at : (parcel : Option Parcel) (old new : Shelf) → new.link ≡ old.link → new.outbox.out ≡ old.outbox.out → ParcelIs parcel old → ParcelIs parcel new
parcel_at None old new link out is = out ∙ is
parcel_at (Some parcel) old new link out is = (is.0 ∙ sym link, out ∙ is.1)

pub holds_untouched : {turns : List Turn} {parcel : Option Parcel} {old new : Shelf} → Untouched old new → Holds turns parcel old → Holds turns parcel new
holds_untouched {parcel} {old} {new} u k = record {
  turns_are = λ local. k.turns_are local ∙ ap option_to_list (sym (u.turns_stay local));
  parcel_is = parcel_at parcel old new u.link_is u.out_is k.parcel_is;
}

pub untouched_log : (s : Shelf) (log : List LoggedStep) → Untouched s (record s { log = log })
untouched_log s log = record { turns_stay = λ local. refl; link_is = refl; tag_is = refl; out_is = refl }

untouched_same : (old new : Shelf) → new ≡ old → Untouched old new
untouched_same old new same = subst (Untouched old) (sym same) (record { turns_stay = λ local. refl; link_is = refl; tag_is = refl; out_is = refl })

pub untouched_then : {a b c : Shelf} → Untouched a b → Untouched b c → Untouched a c
untouched_then u v = grind arith

-- where no turn is out none is told
no_turn : (r : Row) → has_turn_out r ≡ false → turn_out r ≡ None
no_turn r e = ap (λ b. cond b (Some (row.turn_of r (row.entries_out r))) None) e

-- what goes has no turn out
pub turn_left : (r : Row) → turn_of (left_of r) ≡ turn_out r
turn_left r = by_held r (λ o. turn_of o ≡ turn_out r) (λ held. refl) (λ none. sym (no_turn r (not_held r none).is_out))

one_turn : {old rows : FinMap nat_cmp Row} {local : ℕ} {before left : Option Row} → OneChanges old rows local before left → turn_of left ≡ turn_of before → (l : ℕ) → turn_of (get rows l) ≡ turn_of (get old l)
one_turn {old} {rows} {local} one same l =
    by_local l local (λ l. turn_of (get rows l) ≡ turn_of (get old l))
    (ap turn_of one.there ∙ same ∙ sym (ap turn_of one.was)) (λ ne. ap turn_of (one.others l ne))

-- messages

closes_untouched : (old : Shelf) (closes : Option ℕ) (closed : Shelf) → ClosesOne old closes closed → Untouched old closed
closes_untouched old None closed g = untouched_same old closed g
closes_untouched old (Some local) closed g = subst (Untouched old) (sym g.new_is)
    (let stays = one_turn (kept old.rows local (Some g.before) g.after g.was) (turn_left g.after ∙ g.ends.turn) in search rules)

answers_untouched : (old : Shelf) (closes : Option ℕ) (abort : Option (Tid × AbortCause)) (answer : Posted) (answered : Shelf) → Answers old closes abort answer answered → Untouched old answered
answers_untouched old closes None answer answered g = untouched_same old answered g.1
answers_untouched old closes (Some (peer, cause)) answer answered g =
    subst (Untouched old) (sym g.1.new_is) (record { turns_stay = λ local. refl; link_is = refl; tag_is = refl; out_is = refl })

-- the serial that is given next is one, and no dialogue's that is held
pub first_serial : {s : Shelf} {serial : ℕ} {rest : List ℕ} → Sound s → s.free ≡ serial ∷ rest → (0 < serial) × (serial ≤ last_serial)
first_serial {s} {serial} {rest} k first = k.serials.within serial (ap (is_free serial) first ∙ ap (λ b. b || is_free serial rest) (eq-eqb serial serial refl))

pub above_zero : (base serial : ℕ) → 0 < serial → 0 < identifier base serial
above_zero base serial some = omega (arith, some)

pub fresh_at : {s : Shelf} {serial : ℕ} {rest : List ℕ} → Sound s → s.free ≡ serial ∷ rest → get s.rows (identifier (base s) serial) ≡ None
fresh_at {s} {serial} {rest} k first = by_option (λ o. o ≡ None) (get s.rows (identifier (base s) serial)) (λ was. refl) (λ row was.
    let own : IsOwn s (identifier (base s) serial) row = k.own (identifier (base s) serial) row was in
    let is : identifier (base s) serial ≡ identifier (base s) own.serial.0 = own.serial.3 in
    let same : serial ≡ own.serial.0 = omega (arith, is) in
    absurd (false≢true (sym own.serial.4 ∙ ap (λ n. is_free n s.free) (sym same) ∙ ap (is_free serial) first ∙ ap (λ b. b || is_free serial rest) (eq-eqb serial serial refl))))

opens_untouched : {old new : Shelf} {peer : Tid} {came : Prepared} {answer : Posted} → Sound old → OpensDialogue old peer came answer new → Untouched old new
opens_untouched {old} k g =
    let l = identifier (base old) g.serial in let none : get old.rows l ≡ None = fresh_at k g.first in
    subst (Untouched old) (sym g.new_is)
    (let stays = one_turn (inserted old.rows l None g.after none) (g.extends.turn ∙ no_turn g.opened (ap (nat_lt 0) g.opens.out)) in search rules)

extends_untouched : {old new : Shelf} {local : ℕ} {came : Prepared} {answer : Posted} → ExtendsDialogue old local came answer new → Untouched old new
extends_untouched {old} {local} g = subst (Untouched old) (sym g.new_is)
    (let stays = one_turn (inserted old.rows local (Some g.before) g.after g.was) g.extends.turn in search rules)

ends_untouched : {old new : Shelf} {local : ℕ} {came : Prepared} {answer : Posted} → EndsDialogue old local came answer new → Untouched old new
ends_untouched {old} {local} g = subst (Untouched old) (sym g.new_is)
    (let stays = one_turn (kept old.rows local (Some g.before) g.after g.was) (turn_left g.after ∙ g.ends.turn ∙ g.extends.turn) in search rules)

refuses_untouched : {old new : Shelf} {cause : Option AbortCause} {closes : Option ℕ} {came : Prepared} {answer : Posted} → Refuses old cause closes came answer new → Untouched old new
refuses_untouched {old} {cause} {closes} {came} {answer} g = subst (Untouched old) (sym g.new_is)
    (untouched_then (untouched_then (closes_untouched old closes g.closed g.closing)
    (answers_untouched g.closed closes (abort_for (length old.outbox.aborts) cause (arrival_of came).ids.orig) answer g.answered g.answering))
    (untouched_log g.answered _))

pub follows_untouched : (v : Verdict) (old new : Shelf) (came : Prepared) (answer : Posted) → Sound old → Follows v old came answer new → Untouched old new
follows_untouched Verdict.Discard old new came answer k g = subst (Untouched old) (sym g.new_is) (untouched_log old _)
follows_untouched (Verdict.Refuse cause closes) old new came answer k g = refuses_untouched g
follows_untouched (Verdict.Open peer) old new came answer k g = opens_untouched k g
follows_untouched (Verdict.Extend local false) old new came answer k g = extends_untouched g
follows_untouched (Verdict.Extend local true) old new came answer k g = ends_untouched g

-- parcels

sends_turns : (old : Shelf) (content : Content) (new : Shelf) → Sends old content new → (l : ℕ) → turn_of (get new.rows l) ≡ turn_of (get old.rows l)
sends_turns old (Content.Abort frame) new g l = ap (λ (s : Shelf). turn_of (get s.rows l)) g.new_is
sends_turns old (Content.Frame w) new g l = ap (λ (s : Shelf). turn_of (get s.rows l)) g.new_is
    ∙ one_turn (kept old.rows w.local (Some g.before) g.after g.was) (turn_left g.after ∙ g.sends.turn) l

sends_out : (old : Shelf) (content : Content) (new : Shelf) → Sends old content new → new.outbox.out ≡ None
sends_out old (Content.Abort frame) new g = ap (λ (s : Shelf). s.outbox.out) g.new_is
sends_out old (Content.Frame w) new g = ap (λ (s : Shelf). s.outbox.out) g.new_is

pub holds_sends : {turns : List Turn} {parcel : Option Parcel} {old : Shelf} (content : Content) (new : Shelf) → Sends old content new → Holds turns parcel old → Holds turns None new
holds_sends {old} content new g k = record {
  turns_are = λ local. k.turns_are local ∙ ap option_to_list (sym (sends_turns old content new g local));
  parcel_is = sends_out old content new g;
}

-- turns

pub holds_takes : {turns : List Turn} {parcel : Option Parcel} {old new : Shelf} {turn : Turn} → TakesTurn old turn new → Holds turns parcel old → Holds (turns ++ turn ∷ []) parcel new
holds_takes {turns} {parcel} {old} {new} {turn} g k =
    let l = turn.local in
    let one = one_put old new l (Some g.before) g.after g.was (ap (λ (s : Shelf). s.rows) g.new_is) in
    let free : turn_out g.before ≡ None = no_turn g.before (not-true (has_turn_out g.before) (and_parts (not (has_turn_out g.before)) (waits g.before) g.takes.was_ready).0) in
    record {
      turns_are = λ d. filter-append (λ (t : Turn). eqb t.local d) turns (turn ∷ [])
          ∙ by_local d l (λ d. turns_at d turns ++ turns_at d (turn ∷ []) ≡ option_to_list (turn_of (get new.rows d)))
          (ap (λ ts. ts ++ turns_at l (turn ∷ [])) (k.turns_are l ∙ ap (λ o. option_to_list (turn_of o)) g.was ∙ ap option_to_list free)
          ∙ ap (λ b. cond b (turn ∷ []) []) (eq-eqb l l refl)
          ∙ sym (ap option_to_list (ap turn_of one.there ∙ g.takes.turn_is)))
          (λ ne.
          ap (λ b. turns_at d turns ++ cond b (turn ∷ []) []) (eqb_swap d l ne) ∙ append-nil (turns_at d turns) ∙ k.turns_are d
          ∙ ap (λ o. option_to_list (turn_of o)) (sym (one.others d ne)));
      parcel_is = parcel_at parcel old new (ap (λ (s : Shelf). s.link) g.new_is) (ap (λ (s : Shelf). s.outbox.out) g.new_is) k.parcel_is;
    }

-- none passes before the first that does
none_before : (p : Turn → Bool) (xs : List Turn) → filter p (take (position_or_len p xs) xs) ≡ []
none_before p [] = refl
none_before p (x ∷ xs) =
    let next : 1 + position_or_len p xs ≡ suc (position_or_len p xs) = omega arith in grind (arith, nat_tests, next, none_before p xs)

-- the first turn of a dialogue is taken out
pub took_out : (turns seen : List Turn) (local index : ℕ) (t : Turn) (o : Option ℕ) → seen ≡ turns → o ≡ position (λ (t : Turn). eqb t.local local) seen → o ≡ Some index → t ≡ slice_index_or turns index t
    → TakesFirst local turns t (remove turns index)
took_out turns seen local index t o same is found value =
    let p : Turn → Bool = λ (t : Turn). eqb t.local local in let n = position_or_len p turns in
    let first = cond_some (nat_lt n (length turns)) n index (ap (position p) (sym same) ∙ sym is ∙ found) in
    let within : n < length turns = ltb-true _ _ first.0 in
    let there : slice_index_or turns n t ≡ t = ap (λ n. slice_index_or turns n t) first.1 ∙ sym value in
    let rest = drop (suc n) turns in
    let parts : turns ≡ take n turns ++ t ∷ rest = split_at_first p turns t within ∙ ap (λ x. take n turns ++ x ∷ drop (n + 1) turns) there ∙ ap (λ n. take (position_or_len p turns) turns ++ t ∷ drop n turns) (add-one n) in
    let own : p t ≡ true = ap p (sym there) ∙ passes_at_first p turns t within in
    let none : (ys : List Turn) → turns_at local (take n turns ++ ys) ≡ turns_at local ys = λ ys. filter-append p (take n turns) ys ∙ ap (λ xs. xs ++ turns_at local ys) (none_before p turns) in
    let is_own = eqb-true t.local local own in
    subst (λ m. TakesFirst local turns t (remove turns m)) first.1 (record {
      local_is = is_own;
      stays = λ d.
          by_local d local (λ d. turns_at d turns ≡ turns_at d (t ∷ (take n turns ++ rest)))
          (ap (turns_at local) parts ∙ none (t ∷ rest) ∙ ap (λ xs. cond (p t) (t ∷ xs) xs) (sym (none rest)))
          (λ ne.
          let q : Turn → Bool = λ (t : Turn). eqb t.local d in
          let other : q t ≡ false = ap (λ n. eqb n d) is_own ∙ eqb_swap d local ne in
          ap (filter q) parts ∙ filter-append q (take n turns) (t ∷ rest) ∙ ap (λ b. filter q (take n turns) ++ cond b (t ∷ filter q rest) (filter q rest)) other
          ∙ sym (filter-append q (take n turns) rest) ∙ ap (λ b. cond b (t ∷ filter q (take n turns ++ rest)) (filter q (take n turns ++ rest))) (sym other));
    })

cond_none : (b : Bool) (n : ℕ) → cond b (Some n) None ≡ None → b ≡ false
cond_none b n e = grind (arith, nat_tests)

pub none_took : (turns seen : List Turn) (local : ℕ) (o : Option ℕ) → seen ≡ turns → o ≡ position (λ (t : Turn). eqb t.local local) seen → o ≡ None → TakesOut local turns None turns
none_took turns seen local o same is found =
    let p : Turn → Bool = λ (t : Turn). eqb t.local local in let n = position_or_len p turns in
    let past : length turns ≤ n = ltb-false _ _ (cond_none (nat_lt n (length turns)) n (ap (position p) (sym same) ∙ sym is ∙ found)) in
    (ap (turns_at local) (sym (take_all n turns past)) ∙ none_before p turns, refl)

no_turns : (o : Option Turn) → option_to_list o ≡ [] → o ≡ None
no_turns None e = refl
no_turns (Some t) e = absurd (let x : t ∷ [] ≡ [] = e in cc)

-- no turn of the dialogue is kept, so none is out
pub none_kept : {turns : List Turn} (rest : List Turn) {parcel : Option Parcel} {s : Shelf} (local : ℕ) → Holds turns parcel s → TakesOut local turns None rest → turn_of (get s.rows local) ≡ None
none_kept rest {s} local k out = no_turns (turn_of (get s.rows local)) (sym (k.turns_are local) ∙ out.0)

only : (o : Option Turn) (t : Turn) (xs : List Turn) → option_to_list o ≡ t ∷ xs → (o ≡ Some t) × (xs ≡ [])
only None t xs e = absurd (let x : [] ≡ t ∷ xs = e in cc)
only (Some u) t xs e = let x : u ∷ [] ≡ t ∷ xs = e in let same : u ≡ t = cc in let none : xs ≡ [] = cc in (ap Some same, none)

-- a turn that is taken out is the one that is out, and the others are those of the others
pub record Out (rest : List Turn) (s : Shelf) (t : Turn) : Type 0 where
  pub is : turn_of (get s.rows t.local) ≡ Some t
  pub none : turns_at t.local rest ≡ []
  pub others : (d : ℕ) → eqb d t.local ≡ false → turns_at d rest ≡ option_to_list (turn_of (get s.rows d))

pub taken_out : {turns rest : List Turn} {parcel : Option Parcel} {s : Shelf} {local : ℕ} {t : Turn} (u : Turn) → Holds turns parcel s → TakesFirst local turns t rest → u ≡ t → Out rest s u
taken_out {rest} {s} {t} u k out same =
    let one : option_to_list (turn_of (get s.rows t.local)) ≡ t ∷ turns_at t.local rest =
    sym (k.turns_are t.local) ∙ out.stays t.local ∙ ap (λ b. cond b (t ∷ turns_at t.local rest) (turns_at t.local rest)) (eq-eqb t.local t.local refl)
    in
    let it = only (turn_of (get s.rows t.local)) t (turns_at t.local rest) one in
    subst (Out rest s) (sym same) (record {
      is = it.0;
      none = it.1;
      others = λ d ne. sym (ap (λ b. cond b (t ∷ turns_at d rest) (turns_at d rest)) (eqb_swap d t.local ne)) ∙ sym (out.stays d) ∙ k.turns_are d;
    })

turn_back : {rest : List Turn} (parcel : Option Parcel) {old : Shelf} (new : Shelf) {t : Turn} (before after : Row) → Out rest old t → ParcelIs parcel old
    → OneChanges old.rows new.rows t.local (Some before) (left_of after) → turn_out after ≡ None → new.link ≡ old.link → new.outbox.out ≡ old.outbox.out → Holds rest parcel new
turn_back {rest} parcel {old} new {t} before after o p one none link out = record {
  turns_are = λ d.
      by_local d t.local (λ d. turns_at d rest ≡ option_to_list (turn_of (get new.rows d)))
      (o.none ∙ ap option_to_list (sym (ap turn_of one.there ∙ turn_left after ∙ none))) (λ ne. o.others d ne ∙ ap (λ o. option_to_list (turn_of o)) (sym (one.others d ne)));
  parcel_is = parcel_at parcel old new link out p;
}

pub holds_gives : {rest : List Turn} (parcel : Option Parcel) {old new : Shelf} {done : Done} {given : Given} → Out rest old done.turn → ParcelIs parcel old → GivesDone old done given new → Holds rest parcel new
holds_gives {rest} parcel {old} {done} o p g =
    subst (Holds rest parcel) (sym g.new_is) (turn_back parcel _ g.before g.after o p (kept old.rows done.turn.local (Some g.before) g.after g.was) g.gives.turn refl refl)

pub holds_puts_back : {rest : List Turn} (parcel : Option Parcel) {old new : Shelf} {turn : Turn} → Out rest old turn → ParcelIs parcel old → PutsTurnBack old turn new → Holds rest parcel new
holds_puts_back {rest} parcel {old} {turn} o p g =
    subst (Holds rest parcel) (sym g.new_is) (turn_back parcel _ g.before g.after o p (kept old.rows turn.local (Some g.before) g.after g.was) g.puts.no_turn refl refl)

-- the only element that passes is the one that is found
pub found : {X Y : Type 0} → (p : Turn → Bool) (xs : List Turn) (o : Option Turn) (f : Turn → X) (g : X → Y) → filter p xs ≡ option_to_list o → option_map g (option_map f (find p xs)) ≡ option_map (λ t. g (f t)) o
found p [] None f g e = refl
found p [] (Some t) f g e = absurd (let clash : [] ≡ t ∷ [] = e in cc)
found p (x ∷ xs) None f g e = grind (arith, nat_tests, found p xs None f g)
found p (x ∷ xs) (Some t) f g e = grind (arith, nat_tests, found p xs (Some t) f g)

-- at first nothing is out
pub holds_none : (s : Shelf) → ((local : ℕ) → get s.rows local ≡ None) → s.outbox.out ≡ None → Holds [] None s
holds_none s rows out = record { turns_are = λ local. ap (λ o. option_to_list (turn_of o)) (sym (rows local)); parcel_is = out }
