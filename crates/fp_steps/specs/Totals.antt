-- The totals of a run, from its outputs alone; and the sums over its dialogues, which they are.
use Rattle.std.specs.Prelude.{◌≡◌, ℕ, ◌+◌, ◌≤◌, ◌*◌, ◌==◌, Bool, false, not, List, [], ◌∷◌, Option, Some, None, length, min, reverse, if◌then◌else◌}
use Rattle.std.specs.List.{sum_by}
use Rattle.std.specs.Option.{option_map_or}
use Rattle.fp_book.specs.Limits.{all_entries, most_dialogues}
use Rattle.fp_book.specs.declared.totals.Totals.{Totals}
use Rattle.fp_steps.specs.declared.output.Output.{Output}
use Rattle.fp_steps.specs.declared.output.Output.TheVariants as outputs
use Rattle.fp_entry.specs.Entries.{component_count}
use Rattle.fp_steps.specs.Accepted.{accepted, served}
use Rattle.fp_steps.specs.Births.{births, sum_to}
use Rattle.fp_steps.specs.History.{Event}
use Rattle.fp_steps.specs.Sending.{sent}

-- how many components a step accepted
abbrev pub components_of : Output → ℕ
components_of (outputs.Posted answer components) = components
components_of _ = 0

-- how many entries were served
abbrev pub entries_served : Output → ℕ
entries_served (outputs.Gave local position served given) = served
entries_served _ = 0

-- what is out to be sent, by the identifier of its dialogue
abbrev pub local_after : Output → Option ℕ → Option ℕ
local_after (outputs.Picked local frame) before = Some local
local_after outputs.Sent before = None
local_after outputs.Unsent before = None
local_after _ before = before

-- so after these outputs, the newest first
abbrev pub local_out : List Output → Option ℕ
local_out [] = None
local_out (output ∷ before) = local_after output (local_out before)

-- whether a frame of a dialogue was sent, and no Abort of the provider
abbrev pub is_sent : Output → Option ℕ → Bool
is_sent outputs.Sent out = option_map_or (λ (local : ℕ). not (local == 0)) out false
is_sent _ out = false

-- how many were, the newest first
abbrev pub frames_sent : List Output → ℕ
frames_sent [] = 0
frames_sent (output ∷ before) = frames_sent before + (if is_sent output (local_out before) then 1 else 0)

-- the components that were accepted, the entries that were served and the frames of dialogues that were sent
abbrev pub totals_of : List Output → Totals
totals_of list = record {
  accepted = sum_by components_of list;
  served = sum_by entries_served list;
  sent = frames_sent (reverse list);
}

-- what an output adds to them, where this is out to be sent
abbrev pub added_by : Output → Option ℕ → Totals
added_by output out = record {
  accepted = components_of output;
  served = entries_served output;
  sent = if is_sent output out then 1 else 0;
}

abbrev pub plus : Totals → Totals → Totals
plus a b = record { accepted = a.accepted + b.accepted; served = a.served + b.served; sent = a.sent + b.sent }

-- totals, each as far as 64 bits hold it
abbrev pub capped : ℕ → ℕ
capped n = min n 18446744073709551615

abbrev pub capped_totals : Totals → Totals
capped_totals t = record { accepted = capped t.accepted; served = capped t.served; sent = capped t.sent }

-- over all dialogues: how many of the entries that each accepted come from components, how many of them were served,
-- and how many frames were sent for it
abbrev pub totals_over : List Event → Totals
totals_over h = record {
  accepted = sum_to (births h) (λ d. component_count (accepted h d));
  served = sum_to (births h) (λ d. length (served h d));
  sent = sum_to (births h) (λ d. length (sent h d));
}

-- none of them is more than the entries that a link accepts: after the last one it takes no more, but those of one tick,
-- and the end of each dialogue
pub record AreFew (totals : Totals) : Type 0 where
  pub accepted : totals.accepted ≤ all_entries + 2 * most_dialogues
  pub served : totals.served ≤ all_entries + 2 * most_dialogues
  pub sent : totals.sent ≤ all_entries + 2 * most_dialogues

-- the totals of these outputs are the sums over the dialogues of their history, which 64 bits hold
pub record AddUp (outputs : List Output) (h : List Event) : Type 0 where
  pub totals : totals_of outputs ≡ totals_over h
  pub few : AreFew (totals_of outputs)
