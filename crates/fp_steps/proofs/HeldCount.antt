-- A dialogue is held where something of it is left.
use Rattle.fp_steps.proofs.Names.{AllByRecursion, Bool, Content, Event, IsOwn, KeepsOrder, Lined, List, None, Option, QueuedFrame, Row, RowsKeepTheirOrder, Shelf, Some, Sound, Tied, TiedAt, [], admits, amount, ap, append-nil, arith, as_waiting, births, cond, dialogue_held as is_held, eqb, false, false≢true, frame_is_out, frame_out, frames_at, frames_for, get, handed, has_frame, held, is_admitted, is_one, is_some, kept_of, len, len-sum, length, list_any, local_of, ltb-true, map_list, named, nat_lt, nat_tests, ne_eqb, none-some, option_map, option_map_or, or_parts, refl, row_at, row_waits, sent_of, story, sym, true, true_from_ne_false, unsent_for, waiting, ℕ, ◌++◌, ◌<◌, ◌||◌, ◌∙◌, ◌∷◌, ◌≡◌}
use Rattle.fp_steps.proofs.HeldDialogues.{by_option, held_at, is_own, none_named, not_gone, row_there, waits_tied}
use Rattle.fp_steps.proofs.HeldFrames.{IsHeld, out_of, waiting_held, waiting_named}
use Rattle.fp_steps.proofs.SumsOverBirths.{sum_is}
use Rattle.fp_steps.proofs.TieAtMessages.{admits_is}
use Rattle.fp_steps.proofs.TieAtParcels.{out_there}
use Rattle.fp_row.specs.Row.{has_turn_out}

-- a frame of a dialogue is among those

abbrev any_of : ℕ → List QueuedFrame → Bool
any_of d xs = list_any (λ (a : QueuedFrame). eqb a.dialogue d) xs

-- not of one that isn't held
none_any : (h : List Event) (s : Shelf) (d : ℕ) (xs : List QueuedFrame) → row_at h s d ≡ None → AllByRecursion (λ (a : QueuedFrame). IsHeld h s a.dialogue) xs → any_of d xs ≡ false
none_any h s d [] none all = refl
none_any h s d (a ∷ xs) none (one, all) =
    let other : eqb a.dialogue d ≡ false = ne_eqb a.dialogue d (λ same. none-some one.0 (sym none ∙ ap (row_at h s) (sym same) ∙ one.1)) in
    ap (λ b. b || any_of d xs) other ∙ none_any h s d xs none all

-- none under its identifier is another one's
any_none : (h : List Event) (n d : ℕ) (xs : List QueuedFrame) → AllByRecursion (λ (a : QueuedFrame). eqb (local_of h a.dialogue) n ≡ eqb a.dialogue d) xs → any_of d xs ≡ false → frames_for n (map_list (as_waiting h) xs) ≡ []
any_none h n d [] all e = refl
any_none h n d (a ∷ xs) (same, all) e = grind (arith, nat_tests, same, any_none h n d xs all)

-- none of one that isn't held is out to be sent
out_none : {h : List Event} {s : Shelf} (d : ℕ) (o : Option Content) → Tied h s → Sound s → row_at h s d ≡ None → s.outbox.out ≡ o → out_of d (option_map (handed h) o) ≡ false
out_none d None t k none is = refl
out_none {h} {s} d (Some (Content.Abort frame)) t k none is = ap (λ o. is_one o d) (none_named h t.opened)
out_none {h} {s} d (Some (Content.Frame w)) t k none is =
    let row = out_there w k is in ap (λ o. is_one o d) (t.names w.local row.0 row.1) ∙ not_gone w.local row.0 d t row.1 none

-- what is out under an identifier is of the dialogue that this names
none_out : (h : List Event) (n d : ℕ) (o : Option Content) → named h n ≡ Some d → out_of d (option_map (handed h) o) ≡ false → frame_out n o ≡ []
none_out h n d None name other = refl
none_out h n d (Some (Content.Abort frame)) name other = refl
none_out h n d (Some (Content.Frame w)) name other =
    let elsewhere : eqb w.local n ≡ false = ne_eqb w.local n (λ same. false≢true (sym other ∙ is_own (named h w.local) d (ap (named h) same ∙ name))) in
    grind (arith, nat_tests, elsewhere)

-- of a dialogue that is gone nothing is left
gone_at : {h : List Event} {s : Shelf} (d : ℕ) → Tied h s → Sound s → row_at h s d ≡ None → (has_frame h d ≡ false) × (frame_is_out h d ≡ false)
gone_at {h} {s} d t k none = (none_any h s d (waiting h) none (waiting_held t), ap (out_of d) t.is_out ∙ out_none d s.outbox.out t k none refl)

-- of one that isn't, a frame that is kept and wasn't sent waits, or is out
left_at : RowsKeepTheirOrder → {h : List Event} {s : Shelf} (local d : ℕ) (row : Row) → Tied h s → Sound s → Lined h s → named h local ≡ Some d
    → get s.rows local ≡ Some row → nat_lt row.sent row.kept ≡ true → (has_frame h d || frame_is_out h d) ≡ true
left_at law {h} {s} n d row t k l name was less =
    let order : KeepsOrder row = law row in
    true_from_ne_false (has_frame h d || frame_is_out h d)
    (λ e.
    let parts = or_parts (has_frame h d) (frame_is_out h d) e in
    let none_out : frame_out n s.outbox.out ≡ [] = none_out h n d s.outbox.out name (ap (out_of d) (sym t.is_out) ∙ parts.1) in
    let none_wait : frames_for n s.outbox.frames ≡ [] = ap (frames_for n) (sym l.frames) ∙ any_none h n d (waiting h) (waiting_named n d t name) parts.0 in
    let none : unsent_for n s.outbox ≡ [] = ap (λ r. r ++ frames_for n s.outbox.frames) none_out ∙ none_wait in
    let all : sent_of row ≡ kept_of row = sym (append-nil (sent_of row)) ∙ ap (λ r. sent_of row ++ r) (sym none) ∙ frames_at _ n (Some row) k was in
    let lt : row.sent < row.kept = ltb-true row.sent row.kept less in
    omega (arith, ap length all, order.sent_count, order.kept_count, lt))

some_left : (a b c x y : Bool) → (a || (b || (c || x))) ≡ true → (x ≡ true → y ≡ true) → (a || (b || (c || y))) ≡ true
some_left a b c x y e f = grind (arith, nat_tests)

-- a dialogue is held, as its history tells, if the book holds it, and else isn't
pub held_as : RowsKeepTheirOrder → {h : List Event} {s : Shelf} (d : ℕ) → Tied h s → Sound s → Lined h s → is_held h d ≡ is_some (row_at h s d)
held_as law {h} {s} d t k l = by_option (λ o. TiedAt (births h) d (story h d) o → is_held h d ≡ is_some o) (row_at h s d)
    (λ none g. let gone = gone_at d t k none in λ i. g.admitted i || (nat_lt 0 (g.outs i) || (g.waits i || (gone.0 i || gone.1 i))))
    (λ row is g.
    let n = local_of h d in let was : get s.rows n ≡ Some row = (row_there d (get s.rows n) row is).0 in
    let own : IsOwn s n row = k.own n row was in
    let y = has_frame h d || frame_is_out h d in
    let admits_so : admits h d ≡ is_admitted row = admits_is d t ∙ ap (λ o. option_map_or is_admitted o false) is in
    (λ i. admits_so i || (nat_lt 0 (g.outs i) || (waits_tied g i || y)))
    ∙ some_left (is_admitted row) (has_turn_out row) (row_waits row) (nat_lt row.sent row.kept) y own.is_left (λ less. left_at law n d row t k l (held_at d row t is).name was less))
    (t.rows d)

one_each : (o : Option Row) → amount (λ row. 1) o ≡ cond {A = ℕ} (is_some o) 1 0
one_each None = refl
one_each (Some row) = refl

pub held_is : RowsKeepTheirOrder → {h : List Event} {s : Shelf} → Tied h s → Sound s → Lined h s → held h ≡ len s.rows
held_is law {h} {s} t k l =
    sum_is (λ row. 1) (λ d. cond {A = ℕ} (is_held h d) 1 0) t (λ d first last. one_each (row_at h s d) ∙ ap (λ b. cond {A = ℕ} b 1 0) (sym (held_as law d t k l)))
    ∙ sym (len-sum s.rows)
