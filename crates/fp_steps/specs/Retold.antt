-- Which histories retell the lines of a log, and that the log of a run is retold.
use Rattle.std.specs.Prelude.{◌≡◌, ℕ, List, [], ◌∷◌, Option, Some, None, option_map, ⊤}
use Rattle.fp_book.specs.declared.line.LoggedStep.{LoggedStep}
use Rattle.fp_book.specs.declared.line.LoggedStep.TheVariants as line
use Rattle.fp_records.specs.Table.{Contents}
use Rattle.fp_steps.specs.declared.output.Output.{Output}
use Rattle.fp_steps.specs.declared.step.Step.{Step}
use Rattle.fp_steps.specs.declared.step.Step.TheVariants as steps
use Rattle.fp_steps.specs.Answers.{IsAnswer}
use Rattle.fp_steps.specs.Headline.{Runs}
use Rattle.fp_steps.specs.History.{Event, IsCame, outputs_of}
use Rattle.fp_steps.specs.Told.{lines_told, told}
use Rattle.fp_steps.specs.Totals.{totals_of}
use Rattle.fp_steps.specs.Turns.{local_if_out}

-- the step that a line tells of, after this history; a gap tells of none, nor does a line by which a turn comes back that
-- isn't out
abbrev pub step_of : List Event → LoggedStep → Option Step
step_of h (line.Post table moment message answer) = Some (steps.Post table message moment)
step_of h (line.Lost moment message answer) = Some (steps.Lost message moment)
step_of h (line.Tick moment added wanting) = Some (steps.Tick moment)
step_of h (line.Take birth position count) = Some steps.Take
step_of h (line.Give birth position served given) = option_map (λ local. steps.Give local) (local_if_out h birth)
step_of h (line.PutBack birth position) = option_map (λ local. steps.PutBack local) (local_if_out h birth)
step_of h (line.Pick birth) = Some steps.Pick
step_of h (line.Sent birth) = Some steps.Sent
step_of h (line.Unsent birth) = Some steps.Unsent
step_of h line.Down = Some steps.Down
step_of h (line.Gap lost) = None

-- an event retells a line after this history: its step is the line's, by these tables and names its message is what
-- that brings, its output is the answer there, and what a log tells of it is that line
pub record RetellsOne (tables : List Contents) (contexts : List (List ℕ)) (base : ℕ) (line : LoggedStep) (h : List Event) (e : Event) : Type 0 where
  pub step : step_of h line ≡ Some e.step
  pub came : IsCame tables contexts e.step e.came
  pub answer : IsAnswer base h e.step e.came e.output
  pub tells : told h e.step e.output ≡ Some line

-- the events of a history retell these lines, each after those before it; both have the newest first
abbrev pub Retells : List Contents → List (List ℕ) → ℕ → List LoggedStep → List Event → Type 0
Retells tables contexts base [] [] = ⊤
Retells tables contexts base [] (e ∷ h) = ⊥
Retells tables contexts base (line ∷ lines) [] = ⊥
Retells tables contexts base (line ∷ lines) (e ∷ h) = RetellsOne tables contexts base line h e × Retells tables contexts base lines h

-- the lines of the log of a run are retold by a history, and that has the same totals
pub record LogIsRetold (tables : List Contents) (contexts : List (List ℕ)) (base : ℕ) (h : List Event) : Type 0 where
  pub history : List Event
  pub retells : Retells tables contexts base (lines_told h) history
  pub totals : totals_of (outputs_of history) ≡ totals_of (outputs_of h)

-- these are outputs of these steps on a link (see Runs), and the lines of the log of that run are retold by a history
-- with the same totals
abbrev pub LogsRun : List Contents → List (List ℕ) → ℕ → List Step → List Output → Type 0
LogsRun tables contexts base steps outputs =
    (run : Runs tables contexts base steps outputs) × LogIsRetold tables contexts base run.history
