-- The totals of a history that retells lines are what can be counted in those.
use Rattle.fp_steps.proofs.Names.{AllAnswered, Beginning, Bool, Contents, Event, Handed, IfSome, IsAnswer, IsCame, IsLost, IsNext, greatest_place, List, LoggedStep, None, Option, Output, Posted, Prepared, QueuedFrame, Retells, RetoldLinesAreCounted, Some, Step, Totals, [], aborts_waiting, added_by, answer_to, ap, arith, began_with, beginning, birth_out, birth_under, components_in, cond, count_by, eq-eqb, eqb, false, false≢true, length, named, nat_le, nat_tests, not, option_map, option_map_or, out, out_after, plus, positions, refl, subst, sum_by, sum_by-cons, sym, told, told_back, told_message, told_tick, true, waiting, ℕ, ⊤, ◌+◌, ◌<◌, ◌∙◌, ◌∷◌, ◌≡◌}
use Rattle.fp_steps.specs.Counted.{accepted_by, accepted_by_line, entries_served, is_sent_frame, totals_in}
use Rattle.fp_steps.proofs.OpenedDialogues.{local_named, picked_is}
use Rattle.fp_steps.proofs.OutputTotals.{added, local_in, make, one_if, same, totals_next}

-- what is counted of a line, whose message was prepared to this
abbrev counted : LoggedStep → Option Prepared → Totals
counted line came = make (accepted_by_line line came) (entries_served line) (one_if (is_sent_frame line))

-- a line counts what its output adds, where this is out to be sent
abbrev Counts : Option Handed → Option Prepared → Output → LoggedStep → Type 0
Counts o came output line = added_by output (local_in o) ≡ counted line came

-- MESSAGES

by_answer : (answer : Posted) (came : Prepared) → components_in answer came ≡ accepted_by answer (Some came)
by_answer (Posted.Opened local) came = refl
by_answer answer came = refl

lost_none : (octets : List ℕ) (moment : ℕ) (answer : Posted) (came : Prepared) → IsLost octets moment came → components_in answer came ≡ 0
lost_none octets moment (Posted.Opened local) (Prepared.Lost a) is = refl
lost_none octets moment answer (Prepared.Lost a) is = refl
lost_none octets moment answer came is = absurd is

answered : (base : ℕ) (h : List Event) (came : Prepared) (answer : Posted) (components : ℕ) → Output.Posted answer components ≡ Output.Posted (answer_to base h came) (components_in (answer_to base h came) came) → components ≡ components_in answer came
answered base h came answer components is =
    let so : answer ≡ answer_to base h came = cc in
    let many : components ≡ components_in (answer_to base h came) came = cc in
    many ∙ ap (λ a. components_in a came) (sym so)

if_line : (P : LoggedStep → Type 0) (b : Bool) (line : LoggedStep) → P line → IfSome (cond b (Some line) None) P
if_line P true line is = is
if_line P false line is = tt

message_counts : (tables : List Contents) (contexts : List (List ℕ)) (base : ℕ) (h : List Event) (step : Step) (came : Option Prepared) (answer : Posted) (components : ℕ) → IsCame tables contexts step came
    → IsAnswer base h step came (Output.Posted answer components) → IfSome (told_message greatest_place step answer) (Counts (out h) came (Output.Posted answer components))
message_counts tables contexts base h (Step.Post table frame moment) None answer components c is = absurd (cc)
message_counts tables contexts base h (Step.Post table frame moment) (Some came) answer components c is =
    if_line (Counts (out h) (Some came) (Output.Posted answer components)) (nat_le table greatest_place) (LoggedStep.Post table moment frame answer)
    (ap (λ n. make n 0 0) (answered base h came answer components is ∙ by_answer answer came))
message_counts tables contexts base h (Step.Lost frame moment) None answer components c is = absurd c
message_counts tables contexts base h (Step.Lost frame moment) (Some came) answer components c is = ap (λ n. make n 0 0) (answered base h came answer components is ∙ lost_none frame moment answer came c)
message_counts tables contexts base h step came answer components c is = tt

-- WHAT IS OUT

-- what is out is an Abort of the provider, or of a dialogue that was opened
abbrev HasBirth : Option Handed → Type 0
HasBirth None = ⊤
HasBirth (Some handed) = eqb handed.local 0 ≡ false → 0 < option_map_or (λ d. d) handed.dialogue 0

place_named : (h : List Event) (d : ℕ) (o : Option Beginning) → beginning h d ≡ o → eqb (began_with o) 0 ≡ false → 0 < option_map_or (λ d. d) (named h (began_with o)) 0
place_named h d None is ne = absurd (false≢true (sym ne))
place_named h d (Some b) is ne =
    let there = local_named h d b is in
    subst (λ o. 0 < option_map_or (λ d. d) o 0) (sym there.1) there.2

next_named : (h : List Event) (aborts : List (List ℕ)) (frames : List QueuedFrame) (local : ℕ) (octets : List ℕ) → IsNext h aborts frames local octets → eqb local 0 ≡ false → 0 < option_map_or (λ d. d) (named h local) 0
next_named h (abort ∷ aborts) frames local octets is ne = absurd (false≢true (sym ne ∙ eq-eqb local 0 is.0))
next_named h [] (first ∷ frames) local octets is ne = subst (λ l. eqb l 0 ≡ false → 0 < option_map_or (λ d. d) (named h l) 0) (sym is.0) (place_named h first.dialogue (beginning h first.dialogue) refl) ne
next_named h [] [] local octets is ne = absurd is

out_has : (base : ℕ) (h : List Event) (e : Event) (output : Output) (o : Option Handed) → IsAnswer base h e.step e.came output → HasBirth o → HasBirth (out_after output h o)
out_has base h e (Output.Picked local frame) o is has = next_named h (aborts_waiting h) (waiting h) local frame (picked_is base h e.step e.came local frame is)
out_has base h e Output.Sent o is has = tt
out_has base h e Output.Unsent o is has = tt
out_has base h e output o is has = has

all_have : (base : ℕ) (h : List Event) → AllAnswered base h → HasBirth (out h)
all_have base [] all = tt
all_have base (e ∷ h) (is, all) = out_has base h e e.output (out h) is (all_have base h all)

retold_answers : (tables : List Contents) (contexts : List (List ℕ)) (base : ℕ) (lines : List LoggedStep) (h : List Event) → Retells tables contexts base lines h → AllAnswered base h
retold_answers tables contexts base [] [] k = tt
retold_answers tables contexts base [] (e ∷ h) k = absurd k
retold_answers tables contexts base (line ∷ lines) [] k = absurd k
retold_answers tables contexts base (line ∷ lines) (e ∷ h) (one, rest) = (one.answer, retold_answers tables contexts base lines h rest)

-- OTHER STEPS

tick_counts : (o : Option Handed) (came : Option Prepared) (step : Step) (many wanting : ℕ) → IfSome (told_tick step many wanting) (Counts o came (Output.Ticked many wanting))
tick_counts o came (Step.Tick moment) many wanting = refl
tick_counts o came step many wanting = tt

over_counts : {X : Type 0} → (P : LoggedStep → Type 0) (a : Option X) (of : X → LoggedStep) → ((x : X) → P (of x)) → IfSome (option_map of a) P
over_counts P None of is = tt
over_counts P (Some x) of is = is x

back_counts : (o : Option Handed) (came : Option Prepared) (h : List Event) (step : Step) → IfSome (told_back h step) (Counts o came Output.WentBack)
back_counts o came h (Step.PutBack lo) = over_counts (Counts o came Output.WentBack) (named h lo) (λ d. LoggedStep.PutBack d (length (positions h d))) (λ d. refl)
back_counts o came h step = tt

-- a dialogue's frame has its birth, which isn't 0
not_zero : (l n : ℕ) → (eqb l 0 ≡ false → 0 < n) → not (eqb l 0) ≡ not (eqb (cond {A = ℕ} (eqb l 0) 0 n) 0)
not_zero l n some = grind (arith, nat_tests, some)

sent_counts : (o : Option Handed) (came : Option Prepared) → HasBirth o → IfSome (option_map (λ d. LoggedStep.Sent d) (option_map (λ (handed : Handed). birth_under handed.local handed.dialogue) o)) (Counts o came Output.Sent)
sent_counts None came has = tt
sent_counts (Some handed) came has = ap (λ b. make 0 0 (one_if b)) (not_zero handed.local (option_map_or (λ d. d) handed.dialogue 0) has)

told_counts : (tables : List Contents) (contexts : List (List ℕ)) (base : ℕ) (h : List Event) (step : Step) (came : Option Prepared) (output : Output) → IsCame tables contexts step came → IsAnswer base h step came output → HasBirth (out h)
    → IfSome (told h step output) (Counts (out h) came output)
told_counts tables contexts base h step came (Output.Posted answer components) c is has = message_counts tables contexts base h step came answer components c is
told_counts tables contexts base h step came (Output.Ticked many wanting) c is has = tick_counts (out h) came step many wanting
told_counts tables contexts base h step came (Output.Took local position count) c is has = over_counts (Counts (out h) came (Output.Took local position count)) (named h local) (λ d. LoggedStep.Take d position count) (λ d. refl)
told_counts tables contexts base h step came (Output.Gave local position served given) c is has = over_counts (Counts (out h) came (Output.Gave local position served given)) (named h local) (λ d. LoggedStep.Give d position served given) (λ d. refl)
told_counts tables contexts base h step came Output.WentBack c is has = back_counts (out h) came h step
told_counts tables contexts base h step came Output.Sent c is has = sent_counts (out h) came has
told_counts tables contexts base h step came Output.Unsent c is has = over_counts (Counts (out h) came Output.Unsent) (birth_out h) (λ d. LoggedStep.Unsent d) (λ x. refl)
told_counts tables contexts base h step came Output.NoRoom c is has = tt
told_counts tables contexts base h step came Output.Busy c is has = tt
told_counts tables contexts base h step came Output.Nothing c is has = tt
told_counts tables contexts base h step came output c is has = refl

-- ALL LINES

-- one line more
lines_next : (lines : List LoggedStep) (h : List Event) (line : LoggedStep) (e : Event) → totals_in (line ∷ lines) (e ∷ h) ≡ plus (totals_in lines h) (counted line e.came)
lines_next lines h line e =
    let served : sum_by entries_served (line ∷ lines) ≡ entries_served line + sum_by entries_served lines = sum_by-cons entries_served line lines in
    let sends : count_by is_sent_frame (line ∷ lines) ≡ one_if (is_sent_frame line) + count_by is_sent_frame lines = sum_by-cons (λ (l : LoggedStep). one_if (is_sent_frame l)) line lines in
    same (totals_in (line ∷ lines) (e ∷ h)) (plus (totals_in lines h) (counted line e.came)) refl (omega (arith, served)) (omega (arith, sends))

pub retold_counted : RetoldLinesAreCounted
retold_counted tables contexts base [] [] k = refl
retold_counted tables contexts base [] (e ∷ h) k = absurd k
retold_counted tables contexts base (line ∷ lines) [] k = absurd k
retold_counted tables contexts base (line ∷ lines) (e ∷ h) (one, rest) =
    let counts : added h e ≡ counted line e.came = subst (λ o. IfSome o (Counts (out h) e.came e.output)) one.tells (told_counts tables contexts base h e.step e.came e.output one.came one.answer (all_have base h (retold_answers tables contexts base lines h rest))) in
    totals_next h e ∙ ap (λ t. plus t (added h e)) (retold_counted tables contexts base lines h rest) ∙ ap (plus (totals_in lines h)) counts ∙ sym (lines_next lines h line e)
