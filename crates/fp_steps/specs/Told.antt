-- What the log of a run tells of each step, from what its history tells before it: dialogues by their births.
use Rattle.std.specs.Prelude.{ℕ, ◌+◌, ◌==◌, Bool, true, not, List, [], ◌∷◌, ◌++◌, Option, Some, None, length, map, nat_eq, nat_le, option_map, option_to_list, reverse, if◌then◌else◌}
use Rattle.std.specs.Option.{option_and_then, option_map_or}
use Rattle.fp_book.specs.declared.answers.Posted.{Posted}
use Rattle.fp_book.specs.declared.line.Line.{Line}
use Rattle.fp_book.specs.declared.line.Line.TheVariants as lines
use Rattle.fp_book.specs.declared.line.LoggedStep.{LoggedStep}
use Rattle.fp_book.specs.declared.line.LoggedStep.TheVariants as line
use Rattle.fp_steps.specs.declared.output.Output.{Output}
use Rattle.fp_steps.specs.declared.output.Output.TheVariants as outputs
use Rattle.fp_steps.specs.declared.step.Step.{Step}
use Rattle.fp_steps.specs.declared.step.Step.TheVariants as steps
use Rattle.fp_steps.specs.Accepted.{positions}
use Rattle.fp_steps.specs.Births.{named}
use Rattle.fp_steps.specs.History.{Event}
use Rattle.fp_steps.specs.Places.{greatest_place}
use Rattle.fp_steps.specs.Sending.{Handed, out}

-- of a message the place of its table, its moment, its octets and its answer; nothing of a table after this place
abbrev pub told_message : ℕ → Step → Posted → Option LoggedStep
told_message last (steps.Post table frame moment) answer = if nat_le table last then Some (line.Post table moment frame answer) else None
told_message last (steps.Lost frame moment) answer = Some (line.Lost moment frame answer)
told_message last _ answer = None

-- of a tick its moment, and how many dialogues were due and were left
abbrev pub told_tick : Step → ℕ → ℕ → Option LoggedStep
told_tick (steps.Tick moment) added wanting = Some (line.Tick moment added wanting)
told_tick _ added wanting = None

-- of a turn that went back its dialogue, and the place of its first entry, which is the next one of that to be served
abbrev pub told_back : List Event → Step → Option LoggedStep
told_back h (steps.PutBack local) = option_map (λ d. line.PutBack d (length (positions h d))) (named h local)
told_back h _ = None

-- the birth of the dialogue whose parcel this is, by its identifier and what that named; 0 for an Abort of the provider
abbrev pub birth_under : ℕ → Option ℕ → ℕ
birth_under local dialogue = if local == 0 then 0 else option_map_or (λ d. d) dialogue 0

-- of a parcel that is picked
abbrev pub birth_picked : List Event → ℕ → ℕ
birth_picked h local = birth_under local (named h local)

-- of what is out to be sent
abbrev pub birth_out : List Event → Option ℕ
birth_out h = option_map (λ (handed : Handed). birth_under handed.local handed.dialogue) (out h)

-- what is told of a step by its answer; nothing for the answers NoRoom, Busy and Nothing
abbrev pub told : List Event → Step → Output → Option LoggedStep
told h step (outputs.Posted answer components) = told_message greatest_place step answer
told h step (outputs.Ticked added wanting) = told_tick step added wanting
told h step (outputs.Took local position count) = option_map (λ d. line.Take d position count) (named h local)
told h step (outputs.Gave local position served given) = option_map (λ d. line.Give d position served given) (named h local)
told h step outputs.WentBack = told_back h step
told h step (outputs.Picked local frame) = Some (line.Pick (birth_picked h local))
told h step outputs.Sent = option_map (λ d. line.Sent d) (birth_out h)
told h step outputs.Unsent = option_map (λ d. line.Unsent d) (birth_out h)
told h step outputs.Down = Some line.Down
told h step _ = None

-- whether a log has a line for what is told: it leaves out ticks at which no dialogue was due
abbrev pub is_written : LoggedStep → Bool
is_written (line.Tick moment added wanting) = not (nat_eq (added + wanting) 0)
is_written _ = true

abbrev pub written : Option LoggedStep → Option LoggedStep
written told = option_and_then (λ (step : LoggedStep). if is_written step then Some step else None) told

-- the line of a step in the log, if it has one
abbrev pub logged : List Event → Step → Output → Option LoggedStep
logged h step output = written (told h step output)

-- the lines of all steps of a history, the newest first
abbrev pub lines_told : List Event → List LoggedStep
lines_told [] = []
lines_told (e ∷ h) = option_to_list (logged h e.step e.output) ++ lines_told h

-- the log of a run on a link, with this tag: how many links there are up to that, the tag, and then the lines of its
-- steps, in order
abbrev pub log_of : ℕ → ℕ → List Event → List Line
log_of link tag h = lines.Head (link + 1) tag ∷ map (lines.Step link) (reverse (lines_told h))
