-- What holds of a link that has nothing to do: all that is to be served was, and all that is to be sent.
use Rattle.std.specs.Prelude.{◌≡◌, ℕ, false, List}
use Rattle.fp_row.specs.Row.{is_closed}
use Rattle.fp_service.specs.Fold.{cut}
use Rattle.fp_steps.specs.declared.output.Output.TheVariants as outputs
use Rattle.fp_steps.specs.Accepted.{accepted, ending, is_ended, served, start}
use Rattle.fp_steps.specs.Answers.{IsPicked, IsTaken}
use Rattle.fp_steps.specs.History.{Event}
use Rattle.fp_steps.specs.Sending.{aborts, aborts_sent, asked, sent}
use Rattle.fp_steps.specs.Turns.{turn_out}
use Rattle.fp_steps.specs.Waiting.{is_down}

-- a link is idle: it is up, no turn is out, and a Take and a Pick would be answered Nothing, which a Pick isn't while a
-- parcel is out
pub record IsIdle (h : List Event) : Type 0 where
  pub up : is_down h ≡ false
  pub no_turn : (d : ℕ) → turn_out h d ≡ false
  pub no_take : IsTaken h outputs.Nothing
  pub no_pick : IsPicked h outputs.Nothing

-- nothing is left to do; while a link is up only a refused message closes a dialogue
pub record IsDone (h : List Event) : Type 0 where
  -- of each dialogue that wasn't closed all that it accepted was served, cut at its end
  pub all_served : (d : ℕ) → is_closed (ending h d) ≡ false → served h d ≡ cut (start h d) (accepted h d)
  -- of each that nothing ended from outside all that it requests on that was sent
  pub all_sent : (d : ℕ) → is_ended h d ≡ false → sent h d ≡ asked h d
  -- and all Aborts of the provider that were answered were sent
  pub all_aborts : aborts_sent h ≡ aborts h

-- where a link is idle, nothing is left to do
abbrev pub IdleIsDone : List Event → Type 0
IdleIsDone h = IsIdle h → IsDone h
