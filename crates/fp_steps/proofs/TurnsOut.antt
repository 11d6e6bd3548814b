-- Which identifier the dialogue of a turn has that is out.
use Rattle.fp_steps.proofs.Names.{AllByRecursion, Bool, Event, Holds, IsOut, KeepsOrder, List, None, Option, Parcel, Row, RowsKeepTheirOrder, Shelf, Some, Tied, TiedAt, Turn, [], ap, append_assoc, births, cases_Bool, cond, eq-eqb, eqb, eqb-true, false, false_from_ne_true, false≢true, filter, filter-append, find, get, known_turn, local_if_out, local_of, nat_lt, option_map, option_to_list, refl, row_at, row_turn, same_Some, story, subst, sym, true, turn_birth, turn_local, turn_of, turn_out, turns_at, ℕ, ⊎_elim, ◌++◌, ◌∙◌, ◌∷◌, ◌≡◌}
use Rattle.fp_row.specs.Row.{has_turn_out}
use Rattle.fp_steps.proofs.HeldDialogues.{Held, by_option, held_of, row_there}

-- LISTS

none_here : {X : Type 0} → (xs ys : List X) (y : X) → [] ≡ xs ++ y ∷ ys → ⊥
none_here [] ys y e = cc
none_here (x ∷ xs) ys y e = cc

-- who is in the list of an option is its value
is_value : (o : Option Turn) (xs ys : List Turn) (t : Turn) → option_to_list o ≡ xs ++ t ∷ ys → o ≡ Some t
is_value None xs ys t e = absurd (none_here xs ys t e)
is_value (Some u) [] ys t e = let same : u ≡ t = cc in ap Some same
is_value (Some u) (x ∷ xs) ys t e = absurd (none_here xs ys t (let rest : [] ≡ xs ++ t ∷ ys = cc in rest))

-- what is found passes, and is in the list
found_is : (P : Turn → Type 0) (p : Turn → Bool) (xs : List Turn) (t : Turn) → AllByRecursion P xs → find p xs ≡ Some t → P t × (p t ≡ true)
found_is P p [] t all e = absurd (cc)
found_is P p (x ∷ xs) t all e = ⊎_elim
    (λ is.
    let same : x ≡ t = same_Some x t (sym (ap (λ b. cond b (Some x) (find p xs)) is) ∙ e) in
    (subst P same all.0, ap p (sym same) ∙ is))
    (λ not. found_is P p xs t all.1 (sym (ap (λ b. cond b (Some x) (find p xs)) not) ∙ e))
    (cases_Bool (p x))

-- one that passes is found
not_found : (p q : Turn → Bool) (xs : List Turn) (u : Turn) (ys : List Turn) → filter q xs ≡ u ∷ ys → p u ≡ true → find p xs ≡ None → ⊥
not_found p q [] u ys e is none = cc
not_found p q (x ∷ xs) u ys e is none = ⊎_elim
    (λ passes. let clash : Some x ≡ None = sym (ap (λ b. cond b (Some x) (find p xs)) passes) ∙ none in cc)
    (λ not. ⊎_elim
    (λ own.
    let first : x ∷ filter q xs ≡ u ∷ ys = sym (ap (λ b. cond b (x ∷ filter q xs) (filter q xs)) own) ∙ e in
    let same : x ≡ u = cc in false≢true (sym not ∙ ap p same ∙ is))
    (λ other. not_found p q xs u ys (sym (ap (λ b. cond b (x ∷ filter q xs) (filter q xs)) other) ∙ e) is (sym (ap (λ b. cond b (Some x) (find p xs)) not) ∙ none))
    (cases_Bool (q x)))
    (cases_Bool (p x))

-- TURNS

-- each turn that is kept is the one that is out of its dialogue
each_out : (s : Shelf) (seen rest turns : List Turn) → turns ≡ seen ++ rest → ((local : ℕ) → turns_at local turns ≡ option_to_list (turn_of (get s.rows local)))
    → AllByRecursion (λ (t : Turn). turn_of (get s.rows t.local) ≡ Some t) rest
each_out s seen [] turns is k = tt
each_out s seen (t ∷ rest) turns is k = (
  is_value (turn_of (get s.rows t.local)) (turns_at t.local seen) (turns_at t.local rest) t
      (sym (k t.local) ∙ ap (turns_at t.local) is ∙ filter-append (λ (u : Turn). eqb u.local t.local) seen (t ∷ rest)
      ∙ ap (λ b. turns_at t.local seen ++ cond b (t ∷ turns_at t.local rest) (turns_at t.local rest)) (eq-eqb t.local t.local refl)),
  each_out s (seen ++ t ∷ []) rest turns (is ∙ sym (append_assoc seen (t ∷ []) rest)) k,
)

-- its dialogue has the turn's birth, and its turn is out
pub record IsOutOf (h : List Event) (t : Turn) : Type 0 where
  pub place : t.local ≡ local_of h (turn_birth t)
  pub out : turn_out h (turn_birth t) ≡ true

out_of : RowsKeepTheirOrder → {h : List Event} {s : Shelf} (t : Turn) (o : Option Row) → Tied h s → get s.rows t.local ≡ o → turn_of o ≡ Some t → IsOutOf h t
out_of law t None k was is = absurd (cc)
out_of law {h} t (Some row) k was is =
    let held : Held h t.local row.birth row = held_of t.local row k was in
    let out : IsOut row t = known_turn row t is in let order : KeepsOrder row = law row in
    let birth : row.birth ≡ turn_birth t = sym order.birth ∙ ap turn_birth out.turn_is in
    subst (λ b. (t.local ≡ local_of h b) → (turn_out h b ≡ true) → IsOutOf h t) (sym birth) (λ place there. record { place = place; out = there }) held.place (ap (nat_lt 0) held.tied.outs ∙ out.is_out)

none_out : RowsKeepTheirOrder → {h : List Event} {s : Shelf} {turns : List Turn} {parcel : Option Parcel} (d : ℕ) → Tied h s → Holds turns parcel s → find (λ (t : Turn). eqb (turn_birth t) d) turns ≡ None → turn_out h d ≡ false
none_out law {h} {s} {turns} d k holds found =
    let l = local_of h d in
    by_option (λ o. row_at h s d ≡ o → TiedAt (births h) d (story h d) o → turn_out h d ≡ false) (row_at h s d)
    (λ none is gone. ap (nat_lt 0) gone.outs)
    (λ row some is tied. false_from_ne_true (turn_out h d) (λ out.
    let there = row_there d (get s.rows l) row is in let order : KeepsOrder row = law row in
    let has : has_turn_out row ≡ true = sym (ap (nat_lt 0) tied.outs) ∙ out in
    by_option (λ o. row_turn row ≡ o → ⊥) (row_turn row) (λ none e. order.next has e)
    (λ u some e.
    let birth : turn_birth u ≡ d = sym (ap turn_birth (known_turn row u e).turn_is) ∙ order.birth ∙ there.1 in
    let kept : turns_at l turns ≡ u ∷ [] = holds.turns_are l ∙ ap (λ o. option_to_list (turn_of o)) there.0 ∙ ap option_to_list e in
    not_found (λ (t : Turn). eqb (turn_birth t) d) (λ (t : Turn). eqb t.local l) turns u [] kept (eq-eqb (turn_birth u) d birth) found)
    refl))
    refl (k.rows d)

-- the identifier of the turn with this birth is that of its dialogue, if its turn is out
pub local_found : RowsKeepTheirOrder → {h : List Event} {s : Shelf} {turns : List Turn} {parcel : Option Parcel} (d : ℕ) → Tied h s → Holds turns parcel s → turn_local turns d ≡ local_if_out h d
local_found law {h} {s} {turns} d k holds =
    let p : Turn → Bool = λ (t : Turn). eqb (turn_birth t) d in
    by_option (λ o. find p turns ≡ o → option_map (λ (t : Turn). t.local) o ≡ local_if_out h d) (find p turns)
    (λ none found. sym (ap (λ b. cond b (Some (local_of h d)) None) (none_out law d k holds found)))
    (λ t some found.
    let at = found_is (λ (t : Turn). turn_of (get s.rows t.local) ≡ Some t) p turns t (each_out s [] turns turns refl holds.turns_are) found in
    let is : IsOutOf h t = out_of law t (get s.rows t.local) k refl at.0 in
    let same : turn_birth t ≡ d = eqb-true (turn_birth t) d at.1 in
    ap Some is.place ∙ ap (λ n. Some (local_of h n)) same ∙ sym (ap (λ b. cond b (Some (local_of h d)) None) (ap (turn_out h) (sym same) ∙ is.out)))
    refl
