-- What a message of a run is answered: by the rules of receipt, from the facts of a history.
use Rattle.std.specs.Prelude.{ℕ, Bool, List, Option, Some, None, is_none, is_some, length, if◌then◌else◌}
use Rattle.std.specs.Option.{option_and_then, option_map_or}
use Rattle.fp_book.specs.declared.answers.Posted.{Posted}
use Rattle.fp_book.specs.declared.answers.Posted.TheVariants as answers
use Rattle.fp_book.specs.declared.rules.Facts.{Facts}
use Rattle.fp_book.specs.declared.rules.Rule.{Rule}
use Rattle.fp_book.specs.declared.rules.Rule.TheVariants.{Refuse, Open, Extend}
use Rattle.fp_book.specs.Calls.{abort_for}
-- how many components are accepted
pub use Rattle.fp_book.specs.Receipt.{accepted_components as components_in}
use Rattle.fp_book.specs.Rules.{entries_in, rule}
use Rattle.fp_entry.specs.declared.prepared.Prepared.{Prepared}
use Rattle.fp_entry.specs.Entries.{place_count}
use Rattle.fp_entry.specs.Prepared.{arrival_of}
use Rattle.fp_q773.specs.declared.provider_abort.AbortCause.{AbortCause}
use Rattle.fp_q773.specs.Tid.{Tid}
use Rattle.fp_tids.specs.Identifiers.{first_of}
use Rattle.fp_steps.specs.Accepted.{admits, entry_count}
use Rattle.fp_steps.specs.Births.{destination}
use Rattle.fp_steps.specs.History.{Event}
use Rattle.fp_steps.specs.Serials.{free}
use Rattle.fp_steps.specs.Turns.{unserved}
use Rattle.fp_steps.specs.Waiting.{aborts_waiting, held, is_down}

-- a dialogue, if it takes messages
abbrev pub taking : List Event → ℕ → Option ℕ
taking h d = if admits h d then Some d else None

-- the dialogue that a message names by its destination, if that takes messages
abbrev pub addressee : List Event → Prepared → Option ℕ
addressee h came = option_and_then (taking h) (destination h (Some came))

-- the facts of a history for a message that names this dialogue, or none
abbrev pub facts_in : List Event → Option ℕ → Facts
facts_in h dialogue = record {
  is_down = is_down h;
  names_one = is_some dialogue;
  unserved = option_map_or (λ d. place_count (unserved h d)) dialogue 0;
  entries = entry_count h;
  held = held h;
}

-- A message is refused, and this Abort of the provider waits then, if one does; else the answer is whether a dialogue
-- was closed.
abbrev pub refused_by : Option (Tid × AbortCause) → Bool → Posted
refused_by None closes_none = if closes_none then answers.Discarded else answers.Ended
refused_by (Some (peer, named)) closes_none = answers.Aborted named

-- where a cause is named, its sender's identifier is readable and fewer than 64 Aborts of the provider wait, one does
abbrev pub refused : ℕ → Prepared → Option AbortCause → Bool → Posted
refused waiting came named closes_none = refused_by (abort_for waiting named (arrival_of came).ids.orig) closes_none

-- a dialogue is opened with this identifier, if there is one
abbrev pub opened_with : Option ℕ → Posted
opened_with next = option_map_or (λ local. answers.Opened local) next answers.Discarded

-- A Begin that is taken opens a dialogue with the identifier of the serial that is given next: the sum of that serial
-- and the number that serials are added to on the link. There is always one (see IdentifiersHold): at most 4,096 of
-- 131,072 are held. One without its sender's identifier isn't a message.
abbrev pub begun : ℕ → List Event → Prepared → Posted
begun base h came = option_map_or (λ (peer : Tid). opened_with (first_of base (free h))) (arrival_of came).ids.orig answers.Discarded

-- what a rule answers to a message that names this dialogue, or none
abbrev pub answer_by : ℕ → List Event → Prepared → Option ℕ → Rule → Posted
answer_by base h came dialogue (Refuse named) = refused (length (aborts_waiting h)) came named (is_none dialogue)
answer_by base h came dialogue Open = begun base h came
answer_by base h came (Some d) (Extend ends) = answers.Accepted (length (entries_in came))
answer_by base h came dialogue _ = answers.Discarded

-- what a message is answered
abbrev pub answer_to : ℕ → List Event → Prepared → Posted
answer_to base h came = answer_by base h came (addressee h came) (rule (facts_in h (addressee h came)) came)
