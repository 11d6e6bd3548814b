-- What can be counted in the lines of a log.
use Rattle.std.specs.Prelude.{ℕ, ◌+◌, ◌==◌, Bool, false, not, List, [], ◌∷◌, Option, count_by}
use Rattle.std.specs.List.{sum_by}
use Rattle.std.specs.Option.{option_map_or}
use Rattle.fp_book.specs.declared.answers.Posted.{Posted}
use Rattle.fp_book.specs.declared.answers.Posted.TheVariants.{Opened, Accepted}
use Rattle.fp_book.specs.declared.line.LoggedStep.{LoggedStep}
use Rattle.fp_book.specs.declared.line.LoggedStep.TheVariants as line
use Rattle.fp_book.specs.declared.totals.Totals.{Totals}
use Rattle.fp_entry.specs.declared.prepared.Prepared.{Prepared}
use Rattle.fp_entry.specs.Prepared.{components_of}
use Rattle.fp_steps.specs.History.{Event}

-- how many entries a turn that was given back served
abbrev pub entries_served : LoggedStep → ℕ
entries_served (line.Give birth position served given) = served
entries_served _ = 0

-- a frame of a dialogue that was sent, and no Abort of the provider
abbrev pub is_sent_frame : LoggedStep → Bool
is_sent_frame (line.Sent birth) = not (birth == 0)
is_sent_frame _ = false

-- the components of a message that was accepted
abbrev pub accepted_by : Posted → Option Prepared → ℕ
accepted_by (Opened local) came = option_map_or components_of came 0
accepted_by (Accepted count) came = option_map_or components_of came 0
accepted_by _ came = 0

abbrev pub accepted_by_line : LoggedStep → Option Prepared → ℕ
accepted_by_line (line.Post table moment message answer) came = accepted_by answer came
accepted_by_line _ came = 0

-- of all messages of these lines, as a history has what each was prepared to
abbrev pub accepted_along : List LoggedStep → List Event → ℕ
accepted_along [] h = 0
accepted_along (line ∷ lines) [] = 0
accepted_along (line ∷ lines) (e ∷ h) = accepted_along lines h + accepted_by_line line e.came

abbrev pub totals_in : List LoggedStep → List Event → Totals
totals_in lines h = record {
  accepted = accepted_along lines h;
  served = sum_by entries_served lines;
  sent = count_by is_sent_frame lines;
}
