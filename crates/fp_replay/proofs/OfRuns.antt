-- The log of a run is replayed.
use Rattle.std.proofs.Common.{◌≡◌, ℕ, ◌+◌, ◌<◌, zero, suc, Bool, true, false, cond, eqb, List, [], ◌∷◌, ◌++◌, length, Option, Some, None, refl, sym, ◌∙◌, ap, subst, arith, add-one, append-nil, length-append, eq-eqb, ne_eqb}
use Rattle.std.specs.Prelude.{IfSome, map, nat_le, option_map, option_to_list, reverse, slice_get, if◌then◌else◌}
use Rattle.std.specs.List.{AllByRecursion}
use Rattle.std.proofs.lemmas.Bool.{eqb-true}
use Rattle.std.proofs.lemmas.Grind.{flat_map-append, reverse_onto}
use Rattle.std.proofs.lemmas.List.{map-append, reverse-append}
use Rattle.fp_book.specs.declared.line.Line.{Line}
use Rattle.fp_book.specs.declared.line.Line.TheVariants.{Head, Step}
use Rattle.fp_book.specs.declared.answers.Posted.{Posted}
use Rattle.fp_book.specs.declared.line.LoggedStep.{LoggedStep}
use Rattle.fp_book.specs.declared.line.LoggedStep.TheVariants as logged
use Rattle.fp_book.specs.declared.totals.Totals.{Totals}
use Rattle.fp_entry.specs.declared.prepared.Prepared.{Prepared}
use Rattle.fp_records.specs.Table.{Contents}
use Rattle.fp_steps.specs.Answers.{AllAnswered, IsAnswer}
use Rattle.fp_steps.specs.Births.{named}
use Rattle.fp_steps.specs.History.{Event, IsCame, IsReadBy}
use Rattle.fp_steps.specs.LogLines.{IsLineOf}
use Rattle.fp_steps.specs.Places.{greatest_place, handed_in, table_at}
use Rattle.fp_steps.specs.Retold.{Retells}
use Rattle.fp_steps.specs.Told.{birth_out, is_written, lines_told, log_of, told, told_back, told_message, told_tick, written}
use Rattle.fp_steps.specs.Totals.{totals_of}
use Rattle.fp_steps.specs.declared.output.Output.{Output}
use Rattle.fp_steps.specs.declared.output.Output.TheVariants as outputs
use Rattle.fp_steps.specs.declared.step.Step.{Step as MadeStep}
use Rattle.fp_steps.specs.declared.step.Step.TheVariants as made
use Rattle.fp_tids.specs.Identifiers.{base_of}
use Rattle.fp_replay.specs.Format.{IsLine, text_of}
use Rattle.fp_replay.specs.OfRuns.{LogsOfRunsAreReplayed, file_of}
use Rattle.fp_replay.specs.Replayed.{AllFit, HasTable, IsInPlace, links_in, log_text, report_line, report_of, steps_of, tag_in, totals_along, totals_after}
use Rattle.fp_replay.proofs.OneLog.{same_report}

-- the lines of a run, the newest first: its steps, and after them the head
abbrev newest_first : ℕ → ℕ → List LoggedStep → List Line
newest_first link tag steps = map (Step link) steps ++ Head (link + 1) tag ∷ []

links_are : (link tag : ℕ) (steps : List LoggedStep) → links_in (newest_first link tag steps) ≡ link + 1
links_are link tag [] = refl
links_are link tag (step ∷ steps) = links_are link tag steps

tag_is : (link tag : ℕ) (steps : List LoggedStep) → tag_in (newest_first link tag steps) ≡ tag
tag_is link tag [] = refl
tag_is link tag (step ∷ steps) = tag_is link tag steps

-- steps of the link itself, and of another
steps_are : (other link tag : ℕ) (steps : List LoggedStep) (b : Bool) → eqb link other ≡ b → steps_of other (newest_first link tag steps) ≡ cond b steps []
steps_are other link tag [] true is = refl
steps_are other link tag [] false is = refl
steps_are other link tag (step ∷ steps) true is = rw is (ap (λ l. step ∷ l) (steps_are other link tag steps true is))
steps_are other link tag (step ∷ steps) false is = rw is (steps_are other link tag steps false is)

module _ (tables : List Contents) where
  -- each is in its place
  placed : (link tag : ℕ) (steps : List LoggedStep) (step : LoggedStep) → HasTable (handed_in tag tables) step → IsInPlace tables (newest_first link tag steps) (Step link step)
  placed link tag [] step has = (omega arith, has)
  placed link tag (last ∷ steps) step has =
      let n = links_are link tag steps in (omega (arith, n), subst (λ t. HasTable (handed_in t tables) step) (sym (tag_is link tag steps)) has)

  all_fit : (link tag : ℕ) (steps : List LoggedStep) → AllByRecursion (HasTable (handed_in tag tables)) steps → AllByRecursion IsLine (map (Step link) steps) → IsLine (Head (link + 1) tag) → AllFit tables (newest_first link tag steps)
  all_fit link tag [] have are head = ((head, tt), tt)
  all_fit link tag (step ∷ steps) have are head = ((are.0, placed link tag steps step have.0), all_fit link tag steps have.1 are.1 head)

-- THE TABLES

-- the place of a table that is there
place_there : (tables : List Contents) (place : ℕ) (contents : Contents) → slice_get tables place ≡ Some contents → place < length tables
place_there [] place contents is = absurd (cc)
place_there (first ∷ tables) zero contents is = omega arith
place_there (first ∷ tables) (suc place) contents is = let n = place_there tables place contents is in omega (arith, n)

if_there : (tables : List Contents) (place : ℕ) (b : Bool) (contents : Contents) → (if b then slice_get tables place else None) ≡ Some contents → place < length tables
if_there tables place true contents is = place_there tables place contents is
if_there tables place false contents is = absurd (cc)

-- a message is read by one
read_by_one : (table : Option Contents) (contexts : List (List ℕ)) (octets : List ℕ) (moment : ℕ) (came : Prepared) → IsReadBy table contexts octets moment (Some came) → (contents : Contents) × (table ≡ Some contents)
read_by_one None contexts octets moment came is = absurd is
read_by_one (Some contents) contexts octets moment came is = (contents, refl)

module _ (tables : List Contents) (contexts : List (List ℕ)) where
  table_there : (table : ℕ) (octets : List ℕ) (moment : ℕ) (came : Prepared) → IsCame tables contexts (made.Post table octets moment) (Some came) → table < length tables
  table_there table octets moment came is =
      let one = read_by_one (table_at tables table) contexts octets moment came is in
      if_there tables table (nat_le table greatest_place) one.0 one.1

  -- what is told of a step is by a table that was handed in
  one_has : (b : Bool) (line : LoggedStep) → HasTable tables line → IfSome (if b then Some line else None) (HasTable tables)
  one_has true line has = has
  one_has false line has = tt

  over_has : {X : Type 0} → (of : X → LoggedStep) (told : Option X) → ((x : X) → HasTable tables (of x)) → IfSome (option_map of told) (HasTable tables)
  over_has of None have = tt
  over_has of (Some x) have = have x

  message_has : (base : ℕ) (h : List Event) (step : MadeStep) (came : Option Prepared) (answer : Posted) (components : ℕ) → IsCame tables contexts step came
      → IsAnswer base h step came (outputs.Posted answer components) → IfSome (told_message greatest_place step answer) (HasTable tables)
  message_has base h (made.Post table octets moment) None answer components is so = absurd (cc)
  message_has base h (made.Post table octets moment) (Some came) answer components is so =
      one_has (nat_le table greatest_place) (logged.Post table moment octets answer) (table_there table octets moment came is)
  message_has base h (made.Lost octets moment) came answer components is so = tt
  message_has base h step came answer components is so = tt

  tick_has : (step : MadeStep) (added wanting : ℕ) → IfSome (told_tick step added wanting) (HasTable tables)
  tick_has (made.Tick moment) added wanting = tt
  tick_has step added wanting = tt

  back_has : (h : List Event) (step : MadeStep) → IfSome (told_back h step) (HasTable tables)
  back_has h (made.PutBack local) = over_has _ (named h local) (λ d. tt)
  back_has h step = tt

  told_has : (base : ℕ) (h : List Event) (step : MadeStep) (came : Option Prepared) (output : Output) → IsCame tables contexts step came → IsAnswer base h step came output
      → IfSome (told h step output) (HasTable tables)
  told_has base h step came (outputs.Posted answer components) is so = message_has base h step came answer components is so
  told_has base h step came (outputs.Ticked added wanting) is so = tick_has step added wanting
  told_has base h step came (outputs.Took local position count) is so = over_has _ (named h local) (λ d. tt)
  told_has base h step came (outputs.Gave local position served given) is so = over_has _ (named h local) (λ d. tt)
  told_has base h step came outputs.WentBack is so = back_has h step
  told_has base h step came outputs.Sent is so = over_has (λ d. logged.Sent d) (birth_out h) (λ d. tt)
  told_has base h step came outputs.Unsent is so = over_has (λ d. logged.Unsent d) (birth_out h) (λ d. tt)
  told_has base h step came output is so = tt

  listed : (b : Bool) (line : LoggedStep) → HasTable tables line → AllByRecursion (HasTable tables) (option_to_list (if b then Some line else None))
  listed true line has = (has, tt)
  listed false line has = tt

  both : (a b : List LoggedStep) → AllByRecursion (HasTable tables) a → AllByRecursion (HasTable tables) b → AllByRecursion (HasTable tables) (a ++ b)
  both [] b first second = second
  both (line ∷ a) b first second = (first.0, both a b first.1 second)

  written_has : (told : Option LoggedStep) → IfSome told (HasTable tables) → AllByRecursion (HasTable tables) (option_to_list (written told))
  written_has None has = tt
  written_has (Some line) has = listed (is_written line) line has

  -- so are the lines of a run
  lines_have : (base : ℕ) (h : List Event) → AllByRecursion (λ (e : Event). IsCame tables contexts e.step e.came) h → AllAnswered base h → AllByRecursion (HasTable tables) (lines_told h)
  lines_have base [] messages answers = tt
  lines_have base (e ∷ h) messages answers =
      both (option_to_list (written (told h e.step e.output))) (lines_told h)
      (written_has (told h e.step e.output) (told_has base h e.step e.came e.output messages.0 answers.0)) (lines_have base h messages.1 answers.1)

-- THE TEXT

-- lines in their order, and the newest first
same_text : (lines : List Line) → file_of (reverse lines) ≡ log_text lines
same_text [] = refl
same_text (line ∷ lines) =
    ap file_of (reverse_onto lines line [])
    ∙ flat_map-append (λ l. text_of l ++ 10 ∷ []) (reverse lines) (line ∷ [])
    ∙ (λ i. same_text lines i ++ append-nil (text_of line ++ 10 ∷ []) i)

map_push : {A B : Type 0} (f : A → B) (x : A) (xs : List A) → map f (reverse (x ∷ xs)) ≡ map f (reverse xs) ++ f x ∷ []
map_push f x xs = ap (map f) (reverse_onto xs x []) ∙ map-append f (reverse xs) (x ∷ [])

map_reverse : {A B : Type 0} (f : A → B) (xs : List A) → map f (reverse xs) ≡ reverse (map f xs)
map_reverse f [] = refl
map_reverse f (x ∷ xs) = map_push f x xs ∙ ap (λ l. l ++ f x ∷ []) (map_reverse f xs) ∙ sym (reverse_onto (map f xs) (f x) [])

-- the log of a run is those lines in order
log_is : (link tag : ℕ) (h : List Event) → log_of link tag h ≡ reverse (newest_first link tag (lines_told h))
log_is link tag h =
    ap (λ l. Head (link + 1) tag ∷ l) (map_reverse (Step link) (lines_told h))
    ∙ sym (reverse-append (map (Step link) (lines_told h)) (Head (link + 1) tag ∷ []))

all_split : (a : List Line) (x : Line) → AllByRecursion IsLine (a ++ x ∷ []) → AllByRecursion IsLine a × IsLine x
all_split [] x are = (tt, are.0)
all_split (line ∷ a) x are = let rest = all_split a x are.1 in ((are.0, rest.0), rest.1)

all_back : (link : ℕ) (steps : List LoggedStep) → AllByRecursion IsLine (map (Step link) (reverse steps)) → AllByRecursion IsLine (map (Step link) steps)
all_back link [] are = tt
all_back link (step ∷ steps) are =
    let parts = all_split (map (Step link) (reverse steps)) (Step link step) (subst (AllByRecursion IsLine) (map_push (Step link) step steps) are) in
    (parts.1, all_back link steps parts.0)

-- the lines of the log of a run are lines of a log
lines_in : (tag : ℕ) (lines : List Line) → AllByRecursion (IsLineOf tag) lines → AllByRecursion IsLine lines
lines_in tag [] are = tt
lines_in tag (Head links other ∷ lines) are = (are.0, lines_in tag lines are.1)
lines_in tag (Step link step ∷ lines) are = (are.0.0, lines_in tag lines are.1)

-- THE REPORT

-- this history on this link, and none on others
abbrev only : ℕ → List Event → ℕ → List Event
only link h other = cond (eqb link other) h []

retells_only : (tables : List Contents) (contexts : List (List ℕ)) (link other tag : ℕ) (steps : List LoggedStep) (h : List Event) (b : Bool) → eqb link other ≡ b
    → Retells tables contexts (base_of link tag) steps h → Retells tables contexts (base_of other tag) (cond b steps []) (cond b h [])
retells_only tables contexts link other tag steps h true is retells = subst (λ k. Retells tables contexts (base_of k tag) steps h) (eqb-true link other is) retells
retells_only tables contexts link other tag steps h false is retells = tt

pub logs_replayed : LogsOfRunsAreReplayed
logs_replayed tables contexts link tag steps outputs log (run, retold) is_log =
    let h = run.history in
    let lines = newest_first link tag (lines_told h) in
    let log_so : log ≡ log_of link tag h = is_log.lines_are tables contexts h run.tells run.answers in
    let are : AllByRecursion IsLine (log_of link tag h) = subst (AllByRecursion IsLine) log_so (lines_in tag log is_log.in_range) in
    let totals : ℕ → Totals = totals_along (only link retold.history) in
    let before : report_of link (λ before. totals_of []) ≡ report_of link totals =
    same_report link (λ before. totals_of []) totals (λ other below. sym (ap (λ b. totals_after (cond b retold.history [])) (ne_eqb link other (λ e. omega (arith, e, below))))) in
    let own : totals_of outputs ≡ totals link =
    ap totals_of (sym run.tells.outputs_are) ∙ sym retold.totals ∙ sym (ap (λ b. totals_after (cond b retold.history [])) (eq-eqb link link refl)) in
    record {
      lines = lines;
      begun = omega (arith, length-append (map (Step link) (lines_told h)) (Head (link + 1) tag ∷ []));
      text = ap file_of (log_so ∙ log_is link tag h) ∙ same_text lines;
      good = record {
        fit = all_fit tables link tag (lines_told h) (lines_have (handed_in tag tables) contexts (base_of link tag) h run.tells.messages run.answers) (all_back link (lines_told h) are.1) are.0;
        history = only link retold.history;
        retells = λ other below.
            subst (λ t. Retells (handed_in t tables) contexts (base_of other t) (steps_of other lines) (only link retold.history other)) (sym (tag_is link tag (lines_told h)))
            (subst (λ l. Retells (handed_in tag tables) contexts (base_of other tag) l (only link retold.history other)) (sym (steps_are other link tag (lines_told h) (eqb link other) refl))
            (retells_only (handed_in tag tables) contexts link other tag (lines_told h) retold.history (eqb link other) refl retold.retells));
      };
      report_is = (λ i. before i ++ report_line link (own i)) ∙ sym (ap (λ n. report_of n totals) (links_are link tag (lines_told h) ∙ add-one link));
    }
