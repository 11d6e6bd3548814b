-- A local transaction identifier comes back late.
use Rattle.fp_steps.proofs.Names.{AbortCause, AllAnswered, AreSerials, AtEachMoment, Bool, Event, IdentifiersComeBackLate, IdentifiersHold, IsAnswer, List, None, Option, Output, Posted, Prepared, Rule, Some, Tid, [], abort_for, aborts_waiting, addressee, and_parts, answer_by, answer_to, ap, arith, arrival_of, began_with, beginning, beginning_after, births, births_after, cases_lt, cond, cond_both, components_in, dialogue_held as is_held, eq-eqb, eqb, facts_in, false, false_from_ne_true, filter, first_identifier, first_that_fits, free, goes, gone_at, identifier, is_down, is_free, is_none, last_serial, length, local_of, map_list, most_dialogues, none-some, not, numbers_from, opened_in, opened_with, option_map_or, or_parts, refl, refused_by, rule, rules_up, same_Some, serial_of, subst, suc, sym, take, true, true≢false, without_first, zero, ℕ, ⊎_elim, ◌++◌, ◌+◌, ◌-◌, ◌<◌, ◌||◌, ◌∙◌, ◌∷◌, ◌≡◌, ◌≤◌}
use Rattle.std.proofs.lemmas.List.{take-append-le}
use Rattle.std.proofs.lemmas.List.Folds.{list_any-append}
use Rattle.fp_steps.specs.Waiting.{down_after}
use Rattle.fp_steps.proofs.HeldDialogues.{by_option, eqb_swap}
use Rattle.fp_steps.proofs.OpenedDialogues.{place_stays, posted_so}
use Rattle.fp_tids.proofs.Serials.{giving_leaves}

-- how many other dialogues are opened at least before the next one with the same identifier
abbrev others : ℕ
others = last_serial - most_dialogues

-- LISTS OF SERIALS

-- one that isn't among serials isn't among the first of them
none_first : (s n : ℕ) (xs : List ℕ) → is_free s xs ≡ false → is_free s (take n xs) ≡ false
none_first s zero xs none = refl
none_first s (suc n) [] none = refl
none_first s (suc n) (x ∷ xs) none = let parts = or_parts (eqb s x) (is_free s xs) none in ap (λ b. b || is_free s (take n xs)) parts.0 ∙ none_first s n xs parts.1

-- once the front one is given, one fewer comes before it
one_given : (s n x : ℕ) (xs : List ℕ) → is_free s (take n (x ∷ xs)) ≡ false → is_free s (take (n - 1) xs) ≡ false
one_given s zero x xs none = refl
one_given s (suc n) x xs none =
    let same : suc n - 1 ≡ n = omega arith in ap (λ m. is_free s (take m xs)) same ∙ (or_parts (eqb s x) (is_free s (take n xs)) none).1

-- the front one is given next
front_none : (x n : ℕ) (xs : List ℕ) → is_free x (take n (x ∷ xs)) ≡ false → n ≡ 0
front_none x zero xs none = refl
front_none x (suc n) xs none = absurd (true≢false (sym (eq-eqb x x refl) ∙ (or_parts (eqb x x) (is_free x (take n xs)) none).0))

-- what comes back at an event comes after all those
none_after : (o : Option ℕ) (s b c : ℕ) (fs more : List ℕ) → c ≤ b → others ≤ length fs → is_free s (take (others - (b - c)) fs) ≡ false
    → is_free s (take (others - (births_after o b - c)) (without_first o fs ++ more)) ≡ false
none_after None s b c fs more last long none = ap (is_free s) (take-append-le (others - (b - c)) fs more (omega (arith, long))) ∙ none
none_after (Some local) s b c [] more last long none = absurd (omega (arith, long))
none_after (Some local) s b c (x ∷ xs) more last long none =
    let next : others - (b + 1 - c) ≡ others - (b - c) - 1 = omega (arith, last) in
    ap (λ n. is_free s (take n (xs ++ more))) next
    ∙ ap (is_free s) (take-append-le (others - (b - c) - 1) xs more (omega (arith, long)))
    ∙ one_given s (others - (b - c)) x xs none

-- DIALOGUES THAT ARE OPENED

-- an event opens the dialogue with this birth: while the link is up, with the identifier of the front serial
record Opens (base : ℕ) (h : List Event) (e : Event) (d : ℕ) : Type 0 where
  local : ℕ
  opens : opened_in e.output ≡ Some local
  birth : d ≡ births h + 1
  up : is_down h ≡ false
  serial : ℕ
  rest : List ℕ
  first : free h ≡ serial ∷ rest
  place : local_of (e ∷ h) d ≡ identifier base serial

-- which answers to a message open one
abbrev opened_by : ℕ → Posted → Option ℕ
opened_by components answer = opened_in (Output.Posted answer components)

refused_none : (components : ℕ) (abort : Option (Tid × AbortCause)) (closes_none : Bool) → opened_by components (refused_by abort closes_none) ≡ None
refused_none components None true = refl
refused_none components None false = refl
refused_none components (Some (peer, named)) closes_none = refl

opened_next : (components : ℕ) (next : Option ℕ) → opened_by components (opened_with next) ≡ next
opened_next components None = refl
opened_next components (Some local) = refl

rule_opens : (components base : ℕ) (h : List Event) (came : Prepared) (dialogue : Option ℕ) (r : Rule) (local : ℕ) → opened_by components (answer_by base h came dialogue r) ≡ Some local → first_identifier base (free h) ≡ Some local
rule_opens components base h came dialogue Rule.Discard local is = absurd (cc)
rule_opens components base h came dialogue (Rule.Refuse named) local is =
    absurd (none-some local (sym (refused_none components (abort_for (length (aborts_waiting h)) named (arrival_of came).ids.orig) (is_none dialogue)) ∙ is))
rule_opens components base h came dialogue Rule.Open local is =
    let next = first_identifier base (free h) in
    by_option (λ (o : Option Tid). opened_by components (option_map_or (λ (peer : Tid). opened_with next) o Posted.Discarded) ≡ Some local → next ≡ Some local) (arrival_of came).ids.orig
    (λ none is. absurd (cc)) (λ peer some is. sym (opened_next components next) ∙ is) is
rule_opens components base h came None (Rule.Extend ends) local is = absurd (cc)
rule_opens components base h came (Some d) (Rule.Extend ends) local is = absurd (cc)

front_of : (base local : ℕ) (fs : List ℕ) → first_identifier base fs ≡ Some local → (serial : ℕ) × (rest : List ℕ) × (fs ≡ serial ∷ rest) × (local ≡ identifier base serial)
front_of base local [] is = absurd (cc)
front_of base local (x ∷ xs) is = (x, xs, refl, sym (same_Some (identifier base x) local is))

opens : (base : ℕ) (h : List Event) (e : Event) (came : Option Prepared) (output : Output) (local d : ℕ) → e.came ≡ came → e.output ≡ output → IsAnswer base h e.step came output → opened_in output ≡ Some local → d ≡ births h + 1 → Opens base h e d
opens base h e None (Output.Posted answer components) local d c o a is birth = absurd (let none : Output.Posted answer components ≡ Output.Nothing = posted_so base h e.step None answer components a in cc)
opens base h e (Some came) (Output.Posted answer components) local d c o a is birth =
    let so : Output.Posted answer components ≡ Output.Posted (answer_to base h came) (components_in (answer_to base h came) came) = posted_so base h e.step (Some came) answer components a in
    let same : answer ≡ answer_to base h came = cc in
    let opened : opened_by components (answer_to base h came) ≡ Some local = ap (opened_by components) (sym same) ∙ is in
    let dialogue = addressee h came in
    let rest = first_that_fits (rules_up (facts_in h dialogue) came (arrival_of came).ids.kind) in
    let front = front_of base local (free h) (rule_opens components base h came dialogue (rule (facts_in h dialogue) came) local opened) in
    record {
      local = local;
      opens = ap opened_in o ∙ is;
      birth = birth;
      -- where the link is down, nothing is
      up = false_from_ne_true (is_down h) (λ down. none-some local (ap (λ b. opened_by components (answer_by base h came dialogue (cond b Rule.Discard rest))) (sym down) ∙ opened));
      serial = front.0;
      rest = front.1;
      first = front.2;
      place = (λ i. began_with (beginning_after ((ap opened_in o ∙ is) i) (c i) (eq-eqb d (births h + 1) birth i) (beginning h d))) ∙ front.3;
    }
opens base h e came output local d c o a is birth = absurd (cc)

born : (o : Option ℕ) (b d : ℕ) → b < d → d ≤ births_after o b → (local : ℕ) × (o ≡ Some local) × (d ≡ b + 1)
born None b d new last = absurd (omega (arith, new, last))
born (Some local) b d new last = (local, refl, omega (arith, new, last))

-- a dialogue that wasn't opened before an event is opened by it
born_at : (base : ℕ) (h : List Event) (e : Event) (d : ℕ) → IsAnswer base h e.step e.came e.output → births h < d → d ≤ births (e ∷ h) → Opens base h e d
born_at base h e d a new last = let b = born (opened_in e.output) (births h) d new last in opens base h e e.came e.output b.0 d refl refl a b.1 b.2

-- IDENTIFIERS COME BACK LATE

-- the identifier of a dialogue isn't among those that are given next, until so many others were opened
abbrev IsLate : ℕ → List Event → ℕ → Type 0
IsLate base h c = (serial : ℕ) → local_of h c ≡ identifier base serial → is_free serial (take (others - (births h - c)) (free h)) ≡ false

abbrev serials : List Event → List ℕ → List ℕ
serials h ds = map_list (λ d. serial_of (local_of h d)) ds

-- a serial that isn't that of a dialogue that is held doesn't come back
none_gone : (e : Event) (h : List Event) (x : ℕ) (ds : List ℕ) → ((d : ℕ) → is_held h d ≡ true → eqb x (serial_of (local_of h d)) ≡ false)
    → is_free x (serials h (filter (goes e h) ds)) ≡ false
none_gone e h x [] none = refl
none_gone e h x (d ∷ ds) none =
    let rest = filter (goes e h) ds in
    cond_both (goes e h d) (d ∷ rest) rest (λ (xs : List ℕ). is_free x (serials h xs) ≡ false)
    (λ is. ap (λ b. b || is_free x (serials h rest)) (none d (and_parts (is_held h d) (not (is_held (e ∷ h) d)) is).0) ∙ none_gone e h x ds none)
    (λ isnt. none_gone e h x ds none)

-- a dialogue that is opened: its serial isn't free any more
late_born : (base : ℕ) (h : List Event) (e : Event) (d : ℕ) → IdentifiersHold h → Opens base h e d → IsLate base (e ∷ h) d
late_born base h e d k g serial is =
    let x = g.serial in
    let back = serials h (gone_at e h) in
    let at : base + x ≡ base + serial = sym g.place ∙ is in
    let old : is_free x g.rest ≡ false = (giving_leaves x g.rest (subst AreSerials g.first (k.distinct g.up))).2 in
    let gone : is_free x back ≡ false =
    none_gone e h x (numbers_from 1 (births h)) (λ c held.
    let s = serial_of (local_of h c) in
    eqb_swap s x (or_parts (eqb s x) (is_free s g.rest) (ap (is_free s) (sym g.first) ∙ k.taken c g.up held)).0)
    in
    let all : is_free x (free (e ∷ h)) ≡ false =
    (λ i. is_free x (without_first (g.opens i) (g.first i) ++ back)) ∙ list_any-append (eqb x) g.rest back ∙ (λ i. old i || gone i)
    in
    let n = others - (births (e ∷ h) - d) in
    subst (λ s. is_free s (take n (free (e ∷ h))) ≡ false) (omega (arith, at)) (none_first x n (free (e ∷ h)) all)

-- one that was opened before
late_next : (base : ℕ) (h : List Event) (e : Event) (c : ℕ) → IdentifiersHold h → is_down h ≡ false → c ≤ births h → IsLate base h c → IsLate base (e ∷ h) c
late_next base h e c k up last late serial is =
    none_after (opened_in e.output) serial (births h) c (free h) (serials h (gone_at e h)) last (omega (arith, k.all up, k.few))
    (late serial (sym (place_stays h e c last) ∙ is))

-- a link that is up was
up_before : (output : Output) (before : Bool) → down_after output before ≡ false → before ≡ false
up_before Output.Down before up = absurd (true≢false up)
up_before Output.Unsent before up = absurd (true≢false up)
up_before output before up = up

hold_now : (h : List Event) → AtEachMoment IdentifiersHold h → IdentifiersHold h
hold_now [] k = k
hold_now (e ∷ h) k = k.0

-- so it is with all, while the link is up
all_late : (base : ℕ) (h : List Event) → AtEachMoment IdentifiersHold h → AllAnswered base h → is_down h ≡ false → (c : ℕ) → 0 < c → c ≤ births h → IsLate base h c
all_late base [] k a up c first last = absurd (omega (arith, first, last))
all_late base (e ∷ h) k a up c first last =
    let before = up_before e.output (is_down h) up in
    ⊎_elim
    (λ new. late_born base h e c (hold_now h k.1) (born_at base h e c a.0 new last))
    (λ old. late_next base h e c (hold_now h k.1) before old (all_late base h k.1 a.1 before c first old))
    (cases_lt (births h) c)

-- and once its identifier is given again, so many others were
again : (base : ℕ) (h : List Event) → AtEachMoment IdentifiersHold h → AllAnswered base h → (c d : ℕ) → 0 < c → c < d → d ≤ births h → local_of h c ≡ local_of h d → c + others < d
again base [] k a c d first less last same = absurd (omega (arith, first, less, last))
again base (e ∷ h) k a c d first less last same =
    ⊎_elim
    (λ new.
    let g : Opens base h e d = born_at base h e d a.0 new last in
    let older : c ≤ births h = omega (arith, less, g.birth) in
    let n = others - (births h - c) in
    let late : is_free g.serial (take n (free h)) ≡ false = all_late base h k.1 a.1 g.up c first older g.serial (sym (place_stays h e c older) ∙ same ∙ g.place) in
    omega (arith, front_none g.serial n g.rest (ap (λ fs. is_free g.serial (take n fs)) (sym g.first) ∙ late), g.birth, less))
    (λ old. let older : c ≤ births h = omega (arith, less, old) in again base h k.1 a.1 c d first less old (sym (place_stays h e c older) ∙ same ∙ place_stays h e d old))
    (cases_lt (births h) d)

pub come_back_late : IdentifiersComeBackLate
come_back_late tables contexts base steps outputs run = again base run.history run.identifiers run.answers
