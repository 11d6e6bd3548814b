-- Totals, and what each output adds to them.
use Rattle.fp_steps.proofs.Names.{AreFew, Bool, Event, Handed, List, None, Option, Output, Totals, [], added_by, all_entries, ap, arith, capped, capped_totals, components_of, cond, entries_served, frames_sent, length, local_after, local_out, map_list, most_dialogues, no_totals, option_map, out, out_after, outputs_of, plus, refl, reverse, reverse-append, reverse-reverse, reverse_onto, slice_index_or, subst, sum_by_push, sym, take, take_all, take_more, totals_of, ℕ, ◌*◌, ◌++◌, ◌+◌, ◌<◌, ◌∙◌, ◌∷◌, ◌≡◌, ◌≤◌}

abbrev pub one_if : Bool → ℕ
one_if b = cond {A = ℕ} b 1 0

abbrev pub make : ℕ → ℕ → ℕ → Totals
make accepted served sent = record { accepted = accepted; served = served; sent = sent }

-- totals of the same numbers are the same
pub same : (a b : Totals) → a.accepted ≡ b.accepted → a.served ≡ b.served → a.sent ≡ b.sent → a ≡ b
same a b accepted served sent = λ i. make (accepted i) (served i) (sent i)

pub none_more : (n : ℕ) → n ≡ n + 0
none_more n = omega arith

-- where nothing is added
pub plus_none : (a : Totals) → a ≡ plus a no_totals
plus_none a = same a (plus a no_totals) (none_more a.accepted) (none_more a.served) (none_more a.sent)

-- OUTPUTS

newest : (list : List Output) (output : Output) → reverse (list ++ output ∷ []) ≡ output ∷ reverse list
newest list output = reverse-append list (output ∷ [])

-- one output more
totals_more : (list : List Output) (output : Output) → totals_of (list ++ output ∷ []) ≡ plus (totals_of list) (added_by output (local_out (reverse list)))
totals_more list output =
    same (totals_of (list ++ output ∷ [])) (plus (totals_of list) (added_by output (local_out (reverse list))))
    (sum_by_push components_of list output) (sum_by_push entries_served list output) (ap frames_sent (newest list output))

-- HISTORIES

-- the identifier of what is out
abbrev pub local_in : Option Handed → Option ℕ
local_in o = option_map (λ (handed : Handed). handed.local) o

-- what is out, as the outputs tell it
pub local_more : (output : Output) (h : List Event) (o : Option Handed) (before : Option ℕ) → before ≡ local_in o → local_after output before ≡ local_in (out_after output h o)
local_more (Output.Picked local frame) h o before is = refl
local_more Output.Sent h o before is = refl
local_more Output.Unsent h o before is = refl
local_more output h o before is = is

locals : (h : List Event) → local_out (map_list (λ (e : Event). e.output) h) ≡ local_in (out h)
locals [] = refl
locals (e ∷ h) = local_more e.output h (out h) (local_out (map_list (λ (e : Event). e.output) h)) (locals h)

-- the outputs in order, with one more
pub outputs_more : (h : List Event) (e : Event) → outputs_of (e ∷ h) ≡ outputs_of h ++ e.output ∷ []
outputs_more h e = reverse_onto (map_list (λ (e : Event). e.output) h) e.output []

-- what an event adds
abbrev pub added : List Event → Event → Totals
added h e = added_by e.output (local_in (out h))

pub totals_next : (h : List Event) (e : Event) → totals_of (outputs_of (e ∷ h)) ≡ plus (totals_of (outputs_of h)) (added h e)
totals_next h e = ap totals_of (outputs_more h e) ∙ totals_more (outputs_of h) e.output
    ∙ ap (λ o. plus (totals_of (outputs_of h)) (added_by e.output o)) (ap local_out (reverse-reverse (map_list (λ (e : Event). e.output) h)) ∙ locals h)

-- THE LOOP OVER OUTPUTS

capped_more : (s c : ℕ) → capped (capped s + c) ≡ capped (s + c)
capped_more s c = omega arith

capped_plus : (a b : Totals) → capped_totals (plus (capped_totals a) b) ≡ capped_totals (plus a b)
capped_plus a b = same (capped_totals (plus (capped_totals a) b)) (capped_totals (plus a b))
    (capped_more a.accepted b.accepted) (capped_more a.served b.served) (capped_more a.sent b.sent)

-- what was counted so far
pub record CountedSoFar (list : List Output) (totals : Totals) (out : Option ℕ) : Type 0 where
  pub totals_are : totals ≡ capped_totals (totals_of list)
  pub out_is : out ≡ local_out (reverse list)

pub so_far_none : CountedSoFar [] no_totals None
so_far_none = record { totals_are = refl; out_is = refl }

so_far_more : {list : List Output} (output : Output) {old : Totals} (new : Totals) {before : Option ℕ} (after : Option ℕ) → CountedSoFar list old before → new ≡ capped_totals (plus old (added_by output before)) → after ≡ local_after output before → CountedSoFar (list ++ output ∷ []) new after
so_far_more {list} output new {before} after k new_is after_is = record {
  totals_are = new_is ∙ ap (λ t. capped_totals (plus t (added_by output before))) k.totals_are ∙ capped_plus (totals_of list) (added_by output before)
      ∙ ap (λ o. capped_totals (plus (totals_of list) (added_by output o))) k.out_is ∙ ap capped_totals (sym (totals_more list output));
  out_is = after_is ∙ ap (local_after output) k.out_is ∙ ap local_out (sym (newest list output));
}

pub so_far_next : (list : List Output) (i : ℕ) (output : Output) {old : Totals} (new : Totals) {before : Option ℕ} (after : Option ℕ) → CountedSoFar (take i list) old before → i < length list → output ≡ slice_index_or list i output
    → new ≡ capped_totals (plus old (added_by output before)) → after ≡ local_after output before → CountedSoFar (take (i + 1) list) new after
so_far_next list i output new after k within at new_is after_is =
    subst (λ xs. CountedSoFar xs new after) (sym (take_more list i output within ∙ ap (λ o. take i list ++ o ∷ []) (sym at)))
    (so_far_more output new after k new_is after_is)

pub so_far_all : (list : List Output) (i : ℕ) {totals : Totals} {out : Option ℕ} → CountedSoFar (take i list) totals out → length list ≤ i → totals ≡ capped_totals (totals_of list)
so_far_all list i k end = k.totals_are ∙ ap (λ xs. capped_totals (totals_of xs)) (take_all i list end)

-- 64 bits hold the totals of a run
fits : (n : ℕ) → n ≤ all_entries + 2 * most_dialogues → capped n ≡ n
fits n le = omega (arith, le)

pub exact : (list : List Output) → AreFew (totals_of list) → capped_totals (totals_of list) ≡ totals_of list
exact list k = same (capped_totals (totals_of list)) (totals_of list) (fits _ k.accepted) (fits _ k.served) (fits _ k.sent)
