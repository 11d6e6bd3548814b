-- What holds of each dialogue of a run, at each moment: the entries that were served are a front of those that it
-- accepted, cut at its end, and the frames that were sent a front of those that its service logic requests on them.
use Rattle.std.specs.Prelude.{◌≡◌, ℕ, true, List, length}
use mathlib.Core.List.{IsPrefix}
use Rattle.fp_service.specs.Fold.{cut}
use Rattle.fp_steps.specs.Accepted.{accepted, numbers_from, positions, served, start}
use Rattle.fp_steps.specs.Answers.{AllAnswered}
use Rattle.fp_steps.specs.Births.{local_of}
use Rattle.fp_steps.specs.History.{AtEachMoment, Event, Tells}
use Rattle.fp_steps.specs.Idle.{IdleIsDone}
use Rattle.fp_steps.specs.declared.output.Output.{Output}
use Rattle.fp_steps.specs.declared.step.Step.{Step}
use Rattle.fp_records.specs.Table.{Contents}
use Rattle.fp_steps.specs.Sending.{aborts, aborts_sent, asked, queued, sent}
use Rattle.fp_steps.specs.Serials.{IdentifiersHold}
use Rattle.fp_steps.specs.Totals.{AddUp}
use Rattle.fp_steps.specs.Waiting.{is_held}

-- what holds of each dialogue
pub record InOrder (h : List Event) (d : ℕ) : Type 0 where
  -- what was served is a front of what it accepted, cut at its end
  pub served_first : IsPrefix (served h d) (cut (start h d) (accepted h d))
  -- and what was sent of what it requests on that
  pub sent_first : IsPrefix (sent h d) (asked h d)
  -- its entries were served in the places 0, 1, 2 and so on
  pub each_once : positions h d ≡ numbers_from 0 (length (positions h d))
  -- what was sent was accepted for sending, and no request is accepted after one that wasn't
  pub sent_queued : IsPrefix (sent h d) (queued h d)
  pub queued_first : IsPrefix (queued h d) (asked h d)

-- what holds of all of a link
pub record Headline (h : List Event) : Type 0 where
  pub dialogues : (d : ℕ) → InOrder h d
  -- in each place that was served stands an entry that was accepted
  pub each_there : (d : ℕ) → length (served h d) ≡ length (positions h d)
  -- no two that are held have one local transaction identifier
  pub apart : (c d : ℕ) → is_held h c ≡ true → is_held h d ≡ true → local_of h c ≡ local_of h d → c ≡ d
  -- the Aborts of the provider that were sent are a front of those that were answered
  pub aborts_first : IsPrefix (aborts_sent h) (aborts h)

-- these are outputs of these steps on a link on which serials are added to this base, by these tables and names of
-- application contexts
pub record Runs (tables : List Contents) (contexts : List (List ℕ)) (base : ℕ) (steps : List Step) (outputs : List Output) : Type 0 where
  -- a history has these steps and outputs
  pub history : List Event
  pub tells : Tells tables contexts steps outputs history
  -- at each of its moments all of this holds
  pub headline : AtEachMoment Headline history
  -- at each the identifiers of the dialogues that are held name these, and there is one for a Begin
  pub identifiers : AtEachMoment IdentifiersHold history
  -- each output is the answer at its moment
  pub answers : AllAnswered base history
  -- the totals of the outputs are sums over its dialogues
  pub adds_up : AddUp outputs history
  -- at each moment at which the link is idle nothing is left to do
  pub idle : AtEachMoment IdleIsDone history
