-- The log of a run so far, and what is kept while it is told.
use Rattle.fp_steps.proofs.Names.{AllAnswered, AllByRecursion, Bool, Contents, Event, Handed, HistoryTells as Tells, IsAnswer, IsCame, IsLineOf, IsLog, IsLongestReady, Line, List, LoggedStep, Named, NamesThen, None, Option, Output, Posted, Prepared, Some, Step, [], ap, append-nil, arith, back_by, base_of, birth_out, birth_under, births, births_after, cases_Bool, cond, count_out, eqb, eqb-true, false, false≢true, for_one, get_or, greatest_place, handed_in, is_one, last_place, last_tag, le-leb, length, length-map, length-reverse, length-take, length_push, lines_told, log_of, logged, map-append, map_list, min, name_in, name_of, named, named_after, names_in, nat_lt, nat_tests, numbers_from, opened_in, option_and_then, option_map, option_to_list, others, others_if, out, out_after, outputs_of, place_if, place_in, positions, put_back, refl, reverse, reverse-append, reverse_onto, same_from_push, sending_after, slice_get_within, subst, sym, table_at, take, take_all, take_more, told, told_back, told_message, told_where, true, turn_out, turns_after, written, ℕ, ⊎_elim, ◌++◌, ◌+◌, ◌<◌, ◌∙◌, ◌∷◌, ◌≡◌, ◌≤◌}
use Rattle.fp_steps.specs.declared.log.TurnOut.{TurnOut}
use Rattle.fp_steps.proofs.BookLog.{in_place_of}
use Rattle.fp_steps.proofs.Cases.{read_by}
use Rattle.fp_steps.proofs.HeldDialogues.{eqb_swap}
use Rattle.fp_steps.proofs.OpenedDialogues.{took_is, turned_if}
use Rattle.fp_steps.proofs.OutputTotals.{outputs_more}

-- NAMES

-- the dialogue that an answer is of
abbrev pub name_at : List Event → Step → Output → Option ℕ
name_at h step output = option_and_then (named h) (names_in step output)

-- the names that are kept are those of the history
pub record NamesAre (h : List Event) (names : Named) : Type 0 where
  pub name : (local : ℕ) → name_of names local ≡ named h local
  pub count : names.count ≡ births h

names_by : (f g : ℕ → Option ℕ) (o : Option ℕ) → ((n : ℕ) → f n ≡ g n) → option_and_then f o ≡ option_and_then g o
names_by f g None same = refl
names_by f g (Some n) same = same n

name_is : {h : List Event} {names : Named} (step : Step) (output : Output) → NamesAre h names → name_in names step output ≡ name_at h step output
name_is {h} {names} step output k = names_by (name_of names) (named h) (names_in step output) k.name

names_next : {h : List Event} (e : Event) {names : Named} (then : Named) → NamesAre h names → NamesThen names (opened_in e.output) then → NamesAre (e ∷ h) then
names_next {h} e then k g = record {
  name = λ local. g.names local ∙ (λ i. named_after (opened_in e.output) (k.count i + 1) (k.name local i) local);
  count = g.count ∙ ap (births_after (opened_in e.output)) k.count;
}

-- TURNS

-- a turn that goes out is the one that is found
find_own : (turn : TurnOut) (birth : ℕ) (turns : List TurnOut) → eqb turn.birth birth ≡ true → place_in (others birth turns ++ turn ∷ []) birth ≡ Some turn.position
find_own turn birth [] is = ap (λ b. option_map (λ (t : TurnOut). t.position) (cond b (Some turn) None)) is
find_own turn birth (t ∷ turns) is = grind (arith, nat_tests, find_own turn birth turns is)

-- the turns of all others stay
find_others : (c d : ℕ) (turns more : List TurnOut) → eqb c d ≡ false → place_in more d ≡ None → place_in (others c turns ++ more) d ≡ place_in turns d
find_others c d [] more ne none = none
find_others c d (t ∷ turns) more ne none = grind (arith, nat_tests, find_others c d turns more ne none)

not_found : (turn : TurnOut) (d : ℕ) → eqb turn.birth d ≡ false → place_in (turn ∷ []) d ≡ None
not_found turn d ne = ap (λ b. option_map (λ (t : TurnOut). t.position) (cond b (Some turn) None)) ne

-- the turns that are out have the places that the history tells
abbrev pub AreOut : List Event → List TurnOut → Type 0
AreOut h turns = (d : ℕ) → turn_out h d ≡ true → place_in turns d ≡ Some (length (positions h d))

no_more : (h : List Event) (d : ℕ) → Some (length (positions h d)) ≡ Some (length (positions h d ++ []))
no_more h d = ap (λ xs. Some (length xs)) (sym (append-nil (positions h d)))

-- one whose turn isn't moved
stays : (h : List Event) (turns : List TurnOut) (d : ℕ) → AreOut h turns → turn_out h d ≡ true → place_in (turns ++ []) d ≡ Some (length (positions h d ++ []))
stays h turns d k is = ap (λ ts. place_in ts d) (append-nil turns) ∙ k d is ∙ no_more h d

not_one : (b : Bool) (before : ℕ) → nat_lt 0 (cond {A = ℕ} b 0 before) ≡ true → b ≡ false
not_one true before e = absurd (false≢true e)
not_one false before e = refl

no_place : {X : Type 0} (o : Option ℕ) (d : ℕ) (xs : List X) → is_one o d ≡ false → for_one o d xs ≡ []
no_place None d xs e = refl
no_place (Some other) d xs e = ap (λ b. cond b xs []) e

-- where the turn of another dialogue moves
back_stays : (h : List Event) (turns : List TurnOut) (o : Option ℕ) (d : ℕ) → AreOut h turns → nat_lt 0 (cond {A = ℕ} (is_one o d) 0 (count_out h d)) ≡ true
    → place_in (others_if o turns ++ []) d ≡ Some (length (positions h d ++ []))
back_stays h turns None d k is = stays h turns d k is
back_stays h turns (Some c) d k is =
    find_others c d turns [] (eqb_swap d c (not_one (eqb d c) (count_out h d) is)) refl ∙ k d (turned_if (eqb d c) (count_out h d) is) ∙ no_more h d

-- a turn goes out
took_by : (h : List Event) (turns : List TurnOut) (c position count d : ℕ) → position ≡ length (positions h c) → AreOut h turns → nat_lt 0 (cond (eqb d c) count (count_out h d)) ≡ true
    → place_in (others c turns ++ record { birth = c; position = position } ∷ []) d ≡ Some (length (positions h d ++ []))
took_by h turns c position count d next k is =
    let turn : TurnOut = record { birth = c; position = position } in
    ⊎_elim
    (λ e.
    let same : c ≡ d = eqb-true c d e in
    ap (λ n. place_in (others n turns ++ turn ∷ []) d) same ∙ find_own turn d turns e ∙ ap Some (next ∙ ap (λ n. length (positions h n)) same) ∙ no_more h d)
    (λ ne.
    let was : turn_out h d ≡ true = sym (ap (λ b. nat_lt 0 (cond b count (count_out h d))) (eqb_swap c d ne)) ∙ is in
    find_others c d turns (turn ∷ []) ne (not_found turn d ne) ∙ k d was ∙ no_more h d)
    (cases_Bool (eqb c d))

took_stays : {h : List Event} (turns : List TurnOut) {l position count : ℕ} (d : ℕ) → IsLongestReady h l position count → AreOut h turns → nat_lt 0 (cond (is_one (named h l) d) count (count_out h d)) ≡ true
    → place_in (turns_after (named h l) (Output.Took l position count) turns) d ≡ Some (length (positions h d ++ []))
took_stays {h} turns {l} {position} {count} d taken k =
    subst (λ o. nat_lt 0 (cond (is_one o d) count (count_out h d)) ≡ true → place_in (turns_after o (Output.Took l position count) turns) d ≡ Some (length (positions h d ++ [])))
    (sym taken.name) (took_by h turns taken.dialogue position count d taken.next k)

-- after a step
moved : (base : ℕ) (h : List Event) (turns : List TurnOut) (step : Step) (came : Option Prepared) (output : Output) → IsAnswer base h step came output → AreOut h turns
    → AreOut (record { step = step; came = came; output = output } ∷ h) (turns_after (name_at h step output) output turns)
moved base h turns step came (Output.Took l position count) is k d out_now = took_stays turns d (took_is base h step came l position count is) k out_now
moved base h turns step came (Output.Gave l position served given) is k d out_now =
    back_stays h turns (named h l) d k out_now
    ∙ ap (λ xs. Some (length (positions h d ++ xs))) (sym (no_place (named h l) d (numbers_from position served) (not_one (is_one (named h l) d) (count_out h d) out_now)))
moved base h turns (Step.PutBack lo) came Output.WentBack is k d out_now = back_stays h turns (named h lo) d k out_now
moved base h turns step came output is k d out_now = stays h turns d k out_now

-- WHAT IS TOLD

-- a turn goes back only where it is out
out_there : (h : List Event) (turns : List TurnOut) (o : Option ℕ) → AreOut h turns → Output.WentBack ≡ put_back h o
    → back_by o (place_if o turns) ≡ option_map (λ d. LoggedStep.PutBack d (length (positions h d))) o
out_there h turns None k is = refl
out_there h turns (Some d) k is =
    ⊎_elim (λ e. ap (option_map (λ n. LoggedStep.PutBack d n)) (k d e))
    (λ ne. absurd (let clash : Output.WentBack ≡ Output.Nothing = is ∙ ap (λ b. cond b Output.WentBack Output.Nothing) ne in cc))
    (cases_Bool (turn_out h d))

back_told : (base : ℕ) (h : List Event) (turns : List TurnOut) (step : Step) (came : Option Prepared) → AreOut h turns → IsAnswer base h step came Output.WentBack
    → back_by (name_at h step Output.WentBack) (place_if (name_at h step Output.WentBack) turns) ≡ told_back h step
back_told base h turns (Step.PutBack lo) came k is = out_there h turns (named h lo) k is
back_told base h turns step came k is = refl

-- a message comes by a table up to the last place
message_within : (tables : List Contents) (contexts : List (List ℕ)) (tag base : ℕ) (h : List Event) (step : Step) (came : Option Prepared) (answer : Posted) (components : ℕ) → IsCame (handed_in tag tables) contexts step came
    → IsAnswer base h step came (Output.Posted answer components) → told_message (last_place tag) step answer ≡ told_message greatest_place step answer
message_within tables contexts tag base h (Step.Post table frame moment) None answer components c is = absurd (cc)
message_within tables contexts tag base h (Step.Post table frame moment) (Some came) answer components c is =
    let r = read_by (table_at (handed_in tag tables) table) contexts frame moment came c in
    let at = in_place_of (handed_in tag tables) table r.contents r.is in
    let size = length-take (last_place tag + 1) tables in
    let low : table < length (handed_in tag tables) = slice_get_within (handed_in tag tables) table r.contents at.there in
    let most : table ≤ last_place tag = omega (arith, size, low) in
    ap (λ b. cond b (Some (LoggedStep.Post table moment frame answer)) None) (le-leb table (last_place tag) most ∙ sym at.within)
message_within tables contexts tag base h (Step.Lost frame moment) came answer components c is = refl
message_within tables contexts tag base h step came answer components c is = refl

pub told_is : (tables : List Contents) (contexts : List (List ℕ)) (tag base : ℕ) (h : List Event) (turns : List TurnOut) (step : Step) (came : Option Prepared) (output : Output) → IsCame (handed_in tag tables) contexts step came
    → AreOut h turns → IsAnswer base h step came output → told_where (last_place tag) (name_at h step output) turns (birth_out h) step output ≡ told h step output
told_is tables contexts tag base h turns step came Output.WentBack c k is = back_told base h turns step came k is
told_is tables contexts tag base h turns step came (Output.Posted answer components) c k is = message_within tables contexts tag base h step came answer components c is
told_is tables contexts tag base h turns step came output c k is = refl

-- what is out
abbrev birth_of : Option Handed → Option ℕ
birth_of o = option_map (λ (handed : Handed). birth_under handed.local handed.dialogue) o

sending_more : (h : List Event) (step : Step) (output : Output) (o : Option Handed) (before : Option ℕ) → before ≡ birth_of o → sending_after (name_at h step output) output before ≡ birth_of (out_after output h o)
sending_more h step (Output.Picked local frame) o before is = refl
sending_more h step Output.Sent o before is = refl
sending_more h step Output.Unsent o before is = refl
sending_more h step output o before is = is

-- THE LINES

-- the lines after a history, and what is kept
pub record Telling (link tag : ℕ) (h : List Event) (log : List Line) (names : Named) (turns : List TurnOut) (out_now : Option ℕ) : Type 0 where
  pub lines_are : log ≡ log_of link tag h
  pub names_are : NamesAre h names
  pub turns_are : AreOut h turns
  pub sending_is : out_now ≡ birth_out h

back_to_front : (o : Option LoggedStep) → reverse (option_to_list o) ≡ option_to_list o
back_to_front None = refl
back_to_front (Some step) = refl

log_more : (link tag : ℕ) (h : List Event) (e : Event) → log_of link tag (e ∷ h) ≡ log_of link tag h ++ map_list (Line.Step link) (option_to_list (logged h e.step e.output))
log_more link tag h e =
    let one = option_to_list (logged h e.step e.output) in
    ap (λ xs. Line.Head (link + 1) tag ∷ map_list (Line.Step link) xs) (reverse-append one (lines_told h) ∙ ap (λ xs. reverse (lines_told h) ++ xs) (back_to_front (logged h e.step e.output)))
    ∙ ap (λ xs. Line.Head (link + 1) tag ∷ xs) (map-append (Line.Step link) (reverse (lines_told h)) one)

-- what a step makes of a log and of what is kept, by the dialogue that its answer is of
pub record StepTold (link tag : ℕ) (step : Step) (output : Output) (log : List Line) (names : Named) (turns : List TurnOut) (before : Option ℕ) (more : List Line) (names_then : Named) (then : List TurnOut) (after : Option ℕ) : Type 0 where
  pub lines : more ≡ log ++ map_list (Line.Step link) (option_to_list (written (told_where (last_place tag) (name_in names step output) turns before step output)))
  pub ranges : AllByRecursion (IsLineOf tag) log → AllByRecursion (IsLineOf tag) more
  pub named : NamesThen names (opened_in output) names_then
  pub turns_are : then ≡ turns_after (name_in names step output) output turns
  pub sending : after ≡ sending_after (name_in names step output) output before

-- one step more
telling_more : (tables : List Contents) (contexts : List (List ℕ)) {link tag : ℕ} {h : List Event} (e : Event) {log : List Line} (more : List Line) {names : Named} (names_then : Named) {turns : List TurnOut} (then : List TurnOut) {before : Option ℕ} (after : Option ℕ) → IsCame (handed_in tag tables) contexts e.step e.came → IsAnswer (base_of link tag) h e.step e.came e.output
    → Telling link tag h log names turns before → StepTold link tag e.step e.output log names turns before more names_then then after → Telling link tag (e ∷ h) more names_then then after
telling_more tables contexts {link} {tag} {h} e more {names} names_then {turns} then {before} after c is k g =
    let name : name_in names e.step e.output ≡ name_at h e.step e.output = name_is e.step e.output k.names_are in
    record {
      lines_are =
          let says : told_where (last_place tag) (name_in names e.step e.output) turns before e.step e.output ≡ told h e.step e.output =
          (λ i. told_where (last_place tag) (name i) turns (k.sending_is i) e.step e.output) ∙ told_is tables contexts tag (base_of link tag) h turns e.step e.came e.output c k.turns_are is in
          g.lines ∙ (λ i. k.lines_are i ++ map_list (Line.Step link) (option_to_list (written (says i)))) ∙ sym (log_more link tag h e);
      names_are = names_next e names_then k.names_are g.named;
      turns_are = subst (AreOut (e ∷ h)) (sym (g.turns_are ∙ ap (λ o. turns_after o e.output turns) name)) (moved (base_of link tag) h turns e.step e.came e.output is k.turns_are);
      sending_is = g.sending ∙ ap (λ o. sending_after o e.output before) name ∙ sending_more h e.step e.output (out h) before k.sending_is;
    }

-- whatever the history is of which these are the steps and outputs
abbrev pub SoTold : ℕ → ℕ → List Step → List Output → List Line → Named → List TurnOut → Option ℕ → Type 0
SoTold link tag steps outputs log names turns out_now =
    (tables : List Contents) (contexts : List (List ℕ)) (h : List Event) → Tells (handed_in tag tables) contexts steps outputs h → AllAnswered (base_of link tag) h → Telling link tag h log names turns out_now

no_more_steps : (steps : List Step) (step : Step) → [] ≡ steps ++ step ∷ [] → ⊥
no_more_steps [] step e = cc
no_more_steps (s ∷ steps) step e = cc

told_more : (link tag : ℕ) (steps : List Step) (outputs : List Output) (step : Step) (output : Output) (log more : List Line) (names names_then : Named) (turns then : List TurnOut) (before after : Option ℕ) → SoTold link tag steps outputs log names turns before
    → StepTold link tag step output log names turns before more names_then then after → SoTold link tag (steps ++ step ∷ []) (outputs ++ output ∷ []) more names_then then after
told_more link tag steps outputs step output log more names names_then turns then before after k g tables contexts [] tells all = absurd (no_more_steps steps step tells.steps_are)
told_more link tag steps outputs step output log more names names_then turns then before after k g tables contexts (e ∷ h) tells (is, all) =
    let s = same_from_push (reverse (map_list (λ (e : Event). e.step) h)) steps e.step step (sym (reverse_onto (map_list (λ (e : Event). e.step) h) e.step []) ∙ tells.steps_are) in
    let o = same_from_push (outputs_of h) outputs e.output output (sym (outputs_more h e) ∙ tells.outputs_are) in
    let before_it : Tells (handed_in tag tables) contexts steps outputs h = record { steps_are = s.0; outputs_are = o.0; messages = tells.messages.1 } in
    telling_more tables contexts e more names_then then after tells.messages.0 is (k tables contexts h before_it all)
    (subst (λ st. StepTold link tag st e.output log names turns before more names_then then after) (sym s.1) (subst (λ ou. StepTold link tag step ou log names turns before more names_then then after) (sym o.1) g))

-- THE LOOP

-- the log so far
pub record Logging (link tag : ℕ) (steps : List Step) (outputs : List Output) (log : List Line) (names : Named) (turns : List TurnOut) (out_now : Option ℕ) : Type 0 where
  pub told : SoTold link tag steps outputs log names turns out_now
  pub in_range : AllByRecursion (IsLineOf tag) log
  pub few : names.count ≤ length outputs

told_none : (link tag : ℕ) (steps : List Step) (outputs : List Output) (log : List Line) (names : Named) (turns : List TurnOut) → log ≡ Line.Head (link + 1) tag ∷ [] → ((local : ℕ) → name_of names local ≡ None) → names.count ≡ 0 → turns ≡ []
    → SoTold link tag (take 0 steps) (take 0 outputs) log names turns None
told_none link tag steps outputs log names turns log_is unnamed zero none tables contexts [] tells all = record {
  lines_are = log_is;
  names_are = record { name = unnamed; count = zero };
  turns_are = λ d is. absurd (cc);
  sending_is = refl;
}
told_none link tag steps outputs log names turns log_is unnamed zero none tables contexts (e ∷ h) tells all =
    absurd (no_more_steps (reverse (map_list (λ (e : Event). e.step) h)) e.step (sym (sym (reverse_onto (map_list (λ (e : Event). e.step) h) e.step []) ∙ tells.steps_are)))

pub logging_none : (link tag : ℕ) (steps : List Step) (outputs : List Output) (log : List Line) (names : Named) (turns : List TurnOut) → link < 8 → tag ≤ last_tag → log ≡ Line.Head (link + 1) tag ∷ [] → ((local : ℕ) → name_of names local ≡ None) → names.count ≡ 0 → turns ≡ []
    → Logging link tag (take 0 steps) (take 0 outputs) log names turns None
logging_none link tag steps outputs log names turns low few log_is unnamed zero none = record {
  told = told_none link tag steps outputs log names turns log_is unnamed zero none;
  in_range = subst (AllByRecursion (IsLineOf tag)) (sym log_is) ((omega (arith, low), omega (arith, low), few), tt);
  few = omega (arith, zero);
}

few_more : (o : Option ℕ) (n m k : ℕ) → n ≤ k → m ≡ births_after o n → m ≤ k + 1
few_more None n m k few is = omega (arith, few, is)
few_more (Some l) n m k few is = omega (arith, few, is)

pub logging_next : {link tag : ℕ} (steps : List Step) (outputs : List Output) (i : ℕ) (step : Step) (output : Output) {log : List Line} (more : List Line) {names : Named} (names_then : Named) {turns : List TurnOut} (then : List TurnOut) {before : Option ℕ} (after : Option ℕ) → Logging link tag (take i steps) (take i outputs) log names turns before
    → i < length steps → i < length outputs → step ≡ get_or steps i step → output ≡ get_or outputs i output
    → StepTold link tag step output log names turns before more names_then then after → Logging link tag (take (i + 1) steps) (take (i + 1) outputs) more names_then then after
logging_next {link} {tag} steps outputs i step output {log} more {names} names_then {turns} then {before} after k in_steps in_outputs step_is output_is g =
    subst (λ ss. Logging link tag ss (take (i + 1) outputs) more names_then then after) (sym (take_more steps i step in_steps ∙ ap (λ s. take i steps ++ s ∷ []) (sym step_is)))
    (subst (λ os. Logging link tag (take i steps ++ step ∷ []) os more names_then then after) (sym (take_more outputs i output in_outputs ∙ ap (λ o. take i outputs ++ o ∷ []) (sym output_is)))
    (record {
      told = told_more link tag (take i steps) (take i outputs) step output log more names names_then turns then before after k.told g;
      in_range = g.ranges k.in_range;
      few = let le = few_more (opened_in output) names.count names_then.count (length (take i outputs)) k.few g.named.count in omega (arith, le, length_push (take i outputs) output);
    }))

pub logging_all : (link tag : ℕ) (steps : List Step) (outputs : List Output) (i : ℕ) (log : List Line) (names : Named) (turns : List TurnOut) (out_now : Option ℕ) → Logging link tag (take i steps) (take i outputs) log names turns out_now → i ≡ min (length steps) (length outputs)
    → IsLog link tag steps outputs log
logging_all link tag steps outputs i log names turns out_now k end = record {
  lines_are = λ tables contexts h tells all.
      let many : length steps ≡ length h = ap length (sym tells.steps_are) ∙ length-reverse (map_list (λ (e : Event). e.step) h) ∙ length-map h (λ (e : Event). e.step) in
      let also : length outputs ≡ length h = ap length (sym tells.outputs_are) ∙ length-reverse (map_list (λ (e : Event). e.output) h) ∙ length-map h (λ (e : Event). e.output) in
      let all_steps : take i steps ≡ steps = take_all i steps (omega (arith, end, many, also)) in
      let all_outputs : take i outputs ≡ outputs = take_all i outputs (omega (arith, end, many, also)) in
      let so : SoTold link tag steps outputs log names turns out_now = subst (λ ss. SoTold link tag ss outputs log names turns out_now) all_steps (subst (λ os. SoTold link tag (take i steps) os log names turns out_now) all_outputs k.told) in
      (so tables contexts h tells all).lines_are;
  in_range = k.in_range;
}
