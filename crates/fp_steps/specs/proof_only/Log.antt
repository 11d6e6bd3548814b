-- What is known of a run while its log is told: which dialogues were opened, the turns that are out, and what is out to
-- be sent.
use Rattle.std.specs.Prelude.{◌≡◌, ℕ, ◌+◌, ◌==◌, not, List, [], ◌∷◌, ◌++◌, Option, Some, None, filter, find, nat_le, option_map, option_to_list, unwrap_or, if◌then◌else◌}
use Rattle.std.specs.BTreeMap as map
use Rattle.std.specs.Option.{option_and_then, option_map_or}
use Rattle.std.specs.Ordering.{nat_cmp}
use Rattle.fp_book.specs.declared.line.Line.{Line}
use Rattle.fp_book.specs.declared.line.Line.TheVariants as lines
use Rattle.fp_book.specs.declared.line.LoggedStep.{LoggedStep}
use Rattle.fp_book.specs.declared.line.LoggedStep.TheVariants as line
use Rattle.fp_steps.specs.declared.log.Named.{Named}
use Rattle.fp_steps.specs.declared.log.TurnOut.{TurnOut}
use Rattle.fp_steps.specs.declared.output.Output.{Output}
use Rattle.fp_steps.specs.declared.output.Output.TheVariants as outputs
use Rattle.fp_steps.specs.declared.step.Step.{Step}
use Rattle.fp_steps.specs.declared.step.Step.TheVariants as steps
use Rattle.fp_steps.specs.Births.{is_one}
use Rattle.fp_steps.specs.Places.{greatest_place}
use Rattle.fp_steps.specs.Told.{birth_under, told_message, told_tick}

-- one more, where a dialogue is opened
abbrev pub births_after : Option ℕ → ℕ → ℕ
births_after opened births = option_map_or (λ local. births + 1) opened births

-- an identifier names the dialogue that was opened with it last
abbrev pub named_after : Option ℕ → ℕ → Option ℕ → ℕ → Option ℕ
named_after opened birth before local = if is_one opened local then Some birth else before

-- the birth of the dialogue that an identifier names
abbrev pub name_of : Named → ℕ → Option ℕ
name_of named local = map.get nat_cmp named.births local

-- so after a dialogue was opened with this identifier, or none
pub record NamesThen (old : Named) (opened : Option ℕ) (new : Named) : Type 0 where
  pub names : (local : ℕ) → name_of new local ≡ named_after opened (old.count + 1) (name_of old local) local
  pub count : new.count ≡ births_after opened old.count

-- the place of the turn of a dialogue
abbrev pub place_in : List TurnOut → ℕ → Option ℕ
place_in turns birth = option_map (λ (turn : TurnOut). turn.position) (find (λ (turn : TurnOut). turn.birth == birth) turns)

-- the turns of all others
abbrev pub others : ℕ → List TurnOut → List TurnOut
others birth turns = filter (λ (turn : TurnOut). not (turn.birth == birth)) turns

-- the identifier of the dialogue whose turn a step puts back
abbrev pub back_in : Step → Option ℕ
back_in (steps.PutBack local) = Some local
back_in _ = None

-- the identifier of the dialogue that an answer is of
abbrev pub names_in : Step → Output → Option ℕ
names_in step (outputs.Took local position count) = Some local
names_in step (outputs.Gave local position served given) = Some local
names_in step outputs.WentBack = back_in step
names_in step (outputs.Picked local frame) = Some local
names_in step _ = None

-- the dialogue that it is of
abbrev pub name_in : Named → Step → Output → Option ℕ
name_in named step output = option_and_then (name_of named) (names_in step output)

-- the dialogue whose turn goes out or comes back, where an answer is of this one
abbrev pub moves : Option ℕ → Output → Option ℕ
moves birth (outputs.Took local position count) = birth
moves birth (outputs.Gave local position served given) = birth
moves birth outputs.WentBack = birth
moves birth _ = None

abbrev pub others_if : Option ℕ → List TurnOut → List TurnOut
others_if None turns = turns
others_if (Some birth) turns = others birth turns

-- the turn that goes out
abbrev pub taken_in : Option ℕ → Output → Option TurnOut
taken_in birth (outputs.Took local position count) = option_map (λ birth. record { birth = birth; position = position }) birth
taken_in birth _ = None

-- the turns that are out after an answer
abbrev pub turns_after : Option ℕ → Output → List TurnOut → List TurnOut
turns_after birth output turns = others_if (moves birth output) turns ++ option_to_list (taken_in birth output)

-- the place of the turn of a dialogue, if there is one
abbrev pub place_if : Option ℕ → List TurnOut → Option ℕ
place_if None turns = None
place_if (Some birth) turns = place_in turns birth

-- what is told of the turn of a dialogue that goes back
abbrev pub back_by : Option ℕ → Option ℕ → Option LoggedStep
back_by None place = None
back_by (Some birth) place = option_map (λ place. line.PutBack birth place) place

-- what is out to be sent after an answer, by the birth of its dialogue
abbrev pub sending_after : Option ℕ → Output → Option ℕ → Option ℕ
sending_after birth (outputs.Picked local frame) before = Some (birth_under local birth)
sending_after birth outputs.Sent before = None
sending_after birth outputs.Unsent before = None
sending_after birth _ before = before

-- what is told of a step by its answer, by the last place of a table, the dialogue that the answer is of, the place of the
-- turn of that, and the birth of what is out to be sent
abbrev pub told_by : ℕ → Option ℕ → Option ℕ → Option ℕ → Step → Output → Option LoggedStep
told_by last birth place sending step (outputs.Posted answer components) = told_message last step answer
told_by last birth place sending step (outputs.Ticked added wanting) = told_tick step added wanting
told_by last birth place sending step (outputs.Took local position count) = option_map (λ birth. line.Take birth position count) birth
told_by last birth place sending step outputs.NoRoom = None
told_by last birth place sending step (outputs.Gave local position served given) = option_map (λ birth. line.Give birth position served given) birth
told_by last birth place sending step outputs.WentBack = back_by birth place
told_by last birth place sending step (outputs.Picked local frame) = Some (line.Pick (birth_under local birth))
told_by last birth place sending step outputs.Busy = None
told_by last birth place sending step outputs.Sent = option_map (λ birth. line.Sent birth) sending
told_by last birth place sending step outputs.Unsent = option_map (λ birth. line.Unsent birth) sending
told_by last birth place sending step outputs.Down = Some line.Down
told_by last birth place sending step outputs.Nothing = None

-- so by the turns that are out
abbrev pub told_where : ℕ → Option ℕ → List TurnOut → Option ℕ → Step → Output → Option LoggedStep
told_where last birth turns sending step output = told_by last birth (place_if birth turns) sending step output

-- what is told of a tick at which no dialogue was due: a book has no line of it
abbrev pub tick_in : Step → Output → Option LoggedStep
tick_in step (outputs.Ticked added wanting) = told_tick step added wanting
tick_in step _ = None

-- the step of a line
abbrev pub step_in : Line → Option LoggedStep
step_in (lines.Head links tag) = None
step_in (lines.Step link step) = Some step

-- the first step of a log
abbrev pub first_of : List LoggedStep → Option LoggedStep
first_of [] = None
first_of (step ∷ steps) = Some step

-- the place of a table, as a log has it, up to this one
abbrev pub place_of : ℕ → ℕ → Option ℕ
place_of last table = if nat_le table last then Some table else None

-- the place in which the table of a step is handed in; this one, if it isn't
abbrev pub place_or : Step → ℕ → ℕ
place_or (steps.Post table frame moment) index = unwrap_or (place_of greatest_place table) index
place_or _ index = index

-- the line of a book has the place that the table has; what is told of a step has the one in which that is handed in
abbrev pub placed : Step → LoggedStep → LoggedStep
placed step (line.Post index moment message answer) = line.Post (place_or step index) moment message answer
placed step other = other

-- what is told of a step, by the log that was empty before it
abbrev pub told_from : List LoggedStep → Step → Output → Option LoggedStep
told_from [] step output = tick_in step output
told_from (line ∷ lines) step output = Some (placed step line)
