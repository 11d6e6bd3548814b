-- Which dialogue an identifier names, and of which a turn may be out, by the answers of a history.
use Rattle.fp_steps.proofs.Names.{IsNext, aborts_waiting, waiting, Beginning, Bool, Event, IsAnswer, IsLongestReady, List, None, Opened, OpenedTo, Option, Output, Posted, Prepared, Some, Step, [], ap, arith, arrival_of, began_with, beginning, beginning_after, births, births_after, cases_Bool, cond, cond_both, eq-eqb, eqb, eqb-true, false, false≢true, gave, if_out, inl, inr, is_one, local_of, named, named_after, nat_lt, nat_tests, ne_eqb, opened_in, out, posted, put_back, refl, same_Some, sender_of, subst, sym, true, turn_out, ℕ, ⊎_elim, ⊤, ◌+◌, ◌<◌, ◌∙◌, ◌∷◌, ◌≡◌, ◌≤◌, ◌⊎◌}
use Rattle.fp_steps.proofs.Cases.{IsPost}
use Rattle.fp_steps.proofs.HeldDialogues.{by_option}

-- WHICH ANSWERS A STEP HAS

-- which step has which answer: a message alone is posted, a turn is taken at a Take, and a parcel picked at a Pick
abbrev Fits : Output → Step → Type 0
Fits (Output.Posted answer components) step = IsPost step
Fits (Output.Picked local octets) Step.Pick = ⊤
Fits (Output.Picked local octets) step = ⊥
Fits (Output.Took local position count) Step.Take = ⊤
Fits (Output.Took local position count) step = ⊥
Fits output step = ⊤

fits : (base : ℕ) (h : List Event) (step : Step) (came : Option Prepared) (output : Output) → IsAnswer base h step came output → Fits output step
fits base h (Step.Post table frame moment) (Some came) output is = subst (λ o. Fits o (Step.Post table frame moment)) (sym is) tt
fits base h (Step.Lost frame moment) (Some came) output is = subst (λ o. Fits o (Step.Lost frame moment)) (sym is) tt
fits base h (Step.Post table frame moment) None output is = subst (λ o. Fits o (Step.Post table frame moment)) (sym is) tt
fits base h (Step.Lost frame moment) None output is = subst (λ o. Fits o (Step.Lost frame moment)) (sym is) tt
fits base h (Step.Tick moment) came output is = subst (λ o. Fits o (Step.Tick moment)) (sym is) tt
fits base h (Step.Give lo) came output is = subst (λ o. Fits o (Step.Give lo)) (sym is)
    (by_option (λ o. Fits (gave h lo o) (Step.Give lo)) (named h lo) (λ name. tt) (λ d name. cond_both (turn_out h d) _ _ (λ o. Fits o (Step.Give lo)) (λ e. tt) (λ e. tt)))
fits base h (Step.PutBack lo) came output is = subst (λ o. Fits o (Step.PutBack lo)) (sym is)
    (by_option (λ o. Fits (put_back h o) (Step.PutBack lo)) (named h lo) (λ name. tt) (λ d name. cond_both (turn_out h d) _ _ (λ o. Fits o (Step.PutBack lo)) (λ e. tt) (λ e. tt)))
fits base h Step.Sent came output is = subst (λ o. Fits o Step.Sent) (sym is) (by_option (λ o. Fits (if_out o Output.Sent) Step.Sent) (out h) (λ none. tt) (λ handed some. tt))
fits base h Step.Unsent came output is = subst (λ o. Fits o Step.Unsent) (sym is) (by_option (λ o. Fits (if_out o Output.Unsent) Step.Unsent) (out h) (λ none. tt) (λ handed some. tt))
fits base h Step.Down came output is = subst (λ o. Fits o Step.Down) (sym is) tt
fits base h step came (Output.Posted answer components) is = absurd is
fits base h Step.Pick came (Output.Took local position count) is = absurd is
fits base h Step.Take came (Output.Picked local octets) is = absurd is
fits base h step came output is = tt

-- an event opens no dialogue, or one for a message, and not with the identifier of an Abort of the provider
abbrev pub OpensNext : Option ℕ → Option Prepared → Type 0
OpensNext None came = ⊤
OpensNext (Some local) None = ⊥
OpensNext (Some local) (Some came) = 0 < local

-- a turn is taken for the dialogue that has been ready longest
pub took_is : (base : ℕ) (h : List Event) (step : Step) (came : Option Prepared) (local position count : ℕ) → IsAnswer base h step came (Output.Took local position count) → IsLongestReady h local position count
took_is base h Step.Take came local position count is = is.0
took_is base h step came local position count is = absurd (fits base h step came (Output.Took local position count) is)

-- and a parcel is picked that is next
pub picked_is : (base : ℕ) (h : List Event) (step : Step) (came : Option Prepared) (local : ℕ) (octets : List ℕ) → IsAnswer base h step came (Output.Picked local octets) → IsNext h (aborts_waiting h) (waiting h) local octets
picked_is base h Step.Pick came local octets is = is.1
picked_is base h step came local octets is = absurd (fits base h step came (Output.Picked local octets) is)

-- and a message is posted by the rules of receipt
pub posted_so : (base : ℕ) (h : List Event) (step : Step) (came : Option Prepared) (answer : Posted) (components : ℕ) → IsAnswer base h step came (Output.Posted answer components) → Output.Posted answer components ≡ posted base h came
posted_so base h (Step.Post table frame moment) came answer components is = is
posted_so base h (Step.Lost frame moment) came answer components is = is
posted_so base h step came answer components is = absurd (fits base h step came (Output.Posted answer components) is)

-- THE DIALOGUES THAT WERE OPENED

pub the_one : (o : Option ℕ) (d : ℕ) → is_one o d ≡ true → o ≡ Some d
the_one None d e = absurd (false≢true e)
the_one (Some x) d e = ap Some (sym (eqb-true d x e))

-- those that are opened then
pub opened_after : {n : ℕ} {naming : ℕ → Option ℕ} {began : ℕ → Option Beginning} (o : Option ℕ) (came : Option Prepared) → OpenedTo n naming began → OpensNext o came
    → OpenedTo (births_after o n) (λ local. named_after o (n + 1) (naming local) local) (λ d. beginning_after o came (eqb d (n + 1)) (began d))
opened_after None came g is = g
opened_after (Some l) None g is = absurd is
opened_after (Some l) (Some came) g is = record {
  begins = λ d b at. grind (arith, nat_tests, g.begins d b);
  not_zero = λ d first last. grind (arith, nat_tests, g.not_zero d first);
  names = λ local d at. grind (arith, nat_tests, g.names local d);
}

-- none is opened yet
pub opened_none : Opened []
opened_none = record { begins = λ d b is. absurd (cc); not_zero = λ d first last. absurd (omega (arith, first, last)); names = λ local d is. absurd (cc) }

-- WHAT IDENTIFIERS NAME, IN EACH HISTORY

-- one that was opened
born_then : (o : Option ℕ) (n local d : ℕ) (naming : Option ℕ) → (naming ≡ Some d → d ≤ n) → named_after o (n + 1) naming local ≡ Some d → d ≤ births_after o n
born_then None n local d naming before is = before is
born_then (Some l) n local d naming before is = grind (arith, nat_tests, before)

pub named_born : (h : List Event) (local d : ℕ) → named h local ≡ Some d → d ≤ births h
named_born [] local d is = absurd (cc)
named_born (e ∷ h) local d is = born_then (opened_in e.output) (births h) local d (named h local) (named_born h local d) is

-- no two identifiers name one dialogue
one_then : (o : Option ℕ) (n l m d : ℕ) (at_l at_m : Option ℕ) → (at_l ≡ Some d → d ≤ n) → (at_m ≡ Some d → d ≤ n) → (at_l ≡ Some d → at_m ≡ Some d → l ≡ m)
    → named_after o (n + 1) at_l l ≡ Some d → named_after o (n + 1) at_m m ≡ Some d → l ≡ m
one_then None n l m d at_l at_m born_l born_m same is also = same is also
one_then (Some k) n l m d at_l at_m born_l born_m same is also = grind (arith, nat_tests, born_l, born_m, same)

pub same_name : (h : List Event) (l m d : ℕ) → named h l ≡ Some d → named h m ≡ Some d → l ≡ m
same_name [] l m d is also = absurd (cc)
same_name (e ∷ h) l m d is also = one_then (opened_in e.output) (births h) l m d (named h l) (named h m) (named_born h l d) (named_born h m d) (same_name h l m d) is also

-- a dialogue's identifier names one
named_then : (l n : ℕ) (naming : Option ℕ) (local : ℕ) → ((c : ℕ) × (naming ≡ Some c) × (0 < c)) → (c : ℕ) × (cond (eqb local l) (Some (n + 1)) naming ≡ Some c) × (0 < c)
named_then l n naming local there = ⊎_elim
    (λ e. (n + 1, ap (λ x. cond x (Some (n + 1)) naming) e, omega arith))
    (λ ne. (there.0, ap (λ x. cond x (Some (n + 1)) naming) ne ∙ there.1, there.2))
    (cases_Bool (eqb local l))

began_named : (o : Option ℕ) (came : Option Prepared) (n d : ℕ) (naming : ℕ → Option ℕ) (began : Option Beginning) (b : Beginning) → (began ≡ Some b → (c : ℕ) × (naming b.local ≡ Some c) × (0 < c))
    → beginning_after o came (eqb d (n + 1)) began ≡ Some b → (c : ℕ) × (named_after o (n + 1) (naming b.local) b.local ≡ Some c) × (0 < c)
began_named None came n d naming began b before is = before is
began_named (Some l) None n d naming began b before is = named_then l n (naming b.local) b.local (before is)
began_named (Some l) (Some came) n d naming began b before is = ⊎_elim
    (λ new.
    let start : Beginning = record { local = l; peer = sender_of came; moment = (arrival_of came).moment } in
    let same : start ≡ b = same_Some start b (sym (ap (λ x. cond x (Some start) began) new) ∙ is) in
    (n + 1, ap (λ x. cond x (Some (n + 1)) (naming b.local)) (eq-eqb b.local l (ap (λ (g : Beginning). g.local) (sym same))), omega arith))
    (λ old. named_then l n (naming b.local) b.local (before (sym (ap (λ x. cond x (Some (record { local = l; peer = sender_of came; moment = (arrival_of came).moment })) began) old) ∙ is)))
    (cases_Bool (eqb d (n + 1)))

pub local_named : (h : List Event) (d : ℕ) (b : Beginning) → beginning h d ≡ Some b → (c : ℕ) × (named h b.local ≡ Some c) × (0 < c)
local_named [] d b is = absurd (cc)
local_named (e ∷ h) d b is = began_named (opened_in e.output) e.came (births h) d (named h) (beginning h d) b (local_named h d b) is

-- DIALOGUES STAY

grows : (o : Option ℕ) (n : ℕ) → n ≤ births_after o n
grows None n = omega arith
grows (Some l) n = omega arith

pub births_grow : (h : List Event) (e : Event) (d : ℕ) → d ≤ births h → d ≤ births (e ∷ h)
births_grow h e d last = omega (arith, last, grows (opened_in e.output) (births h))

-- a dialogue keeps its identifier
began_stays : (o : Option ℕ) (came : Option Prepared) (is_new : Bool) (before : Option Beginning) → is_new ≡ false → beginning_after o came is_new before ≡ before
began_stays None came is_new before old = refl
began_stays (Some l) None is_new before old = refl
began_stays (Some l) (Some came) is_new before old = grind (arith, nat_tests)

pub place_stays : (h : List Event) (e : Event) (d : ℕ) → d ≤ births h → local_of (e ∷ h) d ≡ local_of h d
place_stays h e d last = ap began_with (began_stays (opened_in e.output) e.came (eqb d (births h + 1)) (beginning h d) (ne_eqb d (births h + 1) (λ e. omega (arith, e, last))))

-- a turn is out of a dialogue that was born
pub turned_if : (b : Bool) (before : ℕ) → nat_lt 0 (cond {A = ℕ} b 0 before) ≡ true → nat_lt 0 before ≡ true
turned_if true before e = absurd (false≢true e)
turned_if false before e = e

pub taken_if : (b : Bool) (count before : ℕ) → nat_lt 0 (cond b count before) ≡ true → (b ≡ true) ⊎ (nat_lt 0 before ≡ true)
taken_if true count before e = inl refl
taken_if false count before e = inr e
