-- What a run tells: its steps, what their messages were prepared to, and what was answered. A history holds them, the
-- newest first.
use Rattle.std.specs.Prelude.{◌≡◌, ℕ, false, List, [], ◌∷◌, Option, Some, None, map, reverse, ⊤}
use Rattle.std.specs.List.{AllByRecursion}
use Rattle.fp_entry.specs.declared.prepared.Prepared.{Prepared}
use Rattle.fp_entry.specs.Prepared.{IsLost, IsPrepared}
use Rattle.fp_records.specs.Table.{Contents}
use Rattle.fp_book.specs.Rules.{is_lost}
use Rattle.fp_steps.specs.declared.output.Output.{Output}
use Rattle.fp_steps.specs.declared.step.Step.{Step}
use Rattle.fp_steps.specs.declared.step.Step.TheVariants.{Post, Lost}
use Rattle.fp_steps.specs.Places.{table_at}

-- a step, what its message was prepared to, where it posts one, and what was answered
pub record Event : Type 0 where
  pub step : Step
  pub came : Option Prepared
  pub output : Output

-- its outputs, in order
abbrev pub outputs_of : List Event → List Output
outputs_of h = reverse (map (λ (e : Event). e.output) h)

-- no message comes
abbrev pub IsNone : Option Prepared → Type 0
IsNone None = ⊤
IsNone (Some came) = ⊥

-- a message is prepared to what its octets are, by the records and the names of the application contexts
abbrev pub IsRead : Contents → List (List ℕ) → List ℕ → ℕ → Option Prepared → Type 0
IsRead contents contexts octets moment None = ⊥
IsRead contents contexts octets moment (Some came) =
    IsPrepared contents contexts octets moment came × (is_lost came ≡ false)

-- so by the records of its table; no message comes, if that wasn't handed in
abbrev pub IsReadBy : Option Contents → List (List ℕ) → List ℕ → ℕ → Option Prepared → Type 0
IsReadBy None contexts octets moment came = IsNone came
IsReadBy (Some contents) contexts octets moment came = IsRead contents contexts octets moment came

-- a message that isn't read
abbrev pub IsUnread : List ℕ → ℕ → Option Prepared → Type 0
IsUnread octets moment None = ⊥
IsUnread octets moment (Some came) = IsLost octets moment came

-- this is what the message of a step is prepared to
abbrev pub IsCame : List Contents → List (List ℕ) → Step → Option Prepared → Type 0
IsCame tables contexts (Post table frame moment) came = IsReadBy (table_at tables table) contexts frame moment came
IsCame tables contexts (Lost frame moment) came = IsUnread frame moment came
IsCame tables contexts _ came = IsNone came

-- the history tells of these steps, by these tables and names, and of these outputs
pub record Tells (tables : List Contents) (contexts : List (List ℕ)) (steps : List Step) (outputs : List Output) (h : List Event) : Type 0 where
  pub steps_are : reverse (map (λ (e : Event). e.step) h) ≡ steps
  pub outputs_are : outputs_of h ≡ outputs
  pub messages : AllByRecursion (λ (e : Event). IsCame tables contexts e.step e.came) h

-- at each moment of a run
abbrev pub AtEachMoment : (List Event → Type 0) → List Event → Type 0
AtEachMoment P [] = P []
AtEachMoment P (e ∷ h) = P (e ∷ h) × AtEachMoment P h
