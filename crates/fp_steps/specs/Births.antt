-- The dialogues of a run, by their births: the n-th that is opened has birth n.
use Rattle.std.specs.Prelude.{ℕ, ◌+◌, ◌==◌, Bool, false, List, [], ◌∷◌, Option, Some, None, suc, zero, if◌then◌else◌}
use Rattle.std.specs.Option.{option_and_then, option_map_or}
use Rattle.fp_book.specs.declared.answers.Posted.TheVariants.{Opened}
use Rattle.fp_book.specs.Rules.{number_of}
use Rattle.fp_entry.specs.declared.prepared.Prepared.{Prepared}
use Rattle.fp_entry.specs.Prepared.{arrival_of}
use Rattle.fp_q773.specs.Tid.{octets_of}
use Rattle.fp_steps.specs.declared.output.Output.{Output}
use Rattle.fp_steps.specs.declared.output.Output.TheVariants as outputs
use Rattle.fp_steps.specs.History.{Event}

-- whether the number of an event, if it has one, is this one
abbrev pub is_one : Option ℕ → ℕ → Bool
is_one None n = false
is_one (Some other) n = n == other

-- the local transaction identifier that is answered where a dialogue is opened
abbrev pub opened_in : Output → Option ℕ
opened_in (outputs.Posted (Opened local) components) = Some local
opened_in _ = None

-- how many dialogues were opened: one more at each event that opens one
abbrev pub births : List Event → ℕ
births [] = 0
births (e ∷ h) = option_map_or (λ local. births h + 1) (opened_in e.output) (births h)

-- the birth of the dialogue that a local transaction identifier names: the one that was opened with it last
abbrev pub named : List Event → ℕ → Option ℕ
named [] local = None
named (e ∷ h) local = if is_one (opened_in e.output) local then Some (births h + 1) else named h local

-- how a dialogue began: both identifiers, and the moment of its Begin
pub record Beginning : Type 0 where
  pub local : ℕ
  pub peer : List ℕ
  pub moment : ℕ

-- the octets of the identifier by which the sender of a message knows its dialogue
abbrev pub sender_of : Prepared → List ℕ
sender_of came = option_map_or octets_of (arrival_of came).ids.orig []

-- so after an event: a dialogue that is opened begins with the identifier that is answered and those of its Begin
abbrev pub beginning_after : Option ℕ → Option Prepared → Bool → Option Beginning → Option Beginning
beginning_after (Some local) (Some came) is_new before =
    if is_new then Some (record { local = local; peer = sender_of came; moment = (arrival_of came).moment }) else before
beginning_after _ _ is_new before = before

-- how the dialogue of a birth began
abbrev pub beginning : List Event → ℕ → Option Beginning
beginning [] d = None
beginning (e ∷ h) d = beginning_after (opened_in e.output) e.came (d == births h + 1) (beginning h d)

-- the local transaction identifier with which it was opened
abbrev pub local_of : List Event → ℕ → ℕ
local_of h d = option_map_or (λ (b : Beginning). b.local) (beginning h d) 0

-- the dialogue that a message names by its destination
abbrev pub destination : List Event → Option Prepared → Option ℕ
destination h None = None
destination h (Some came) = option_and_then (named h) (option_and_then (λ tid. number_of (octets_of tid)) (arrival_of came).ids.dest)

-- a list, if the dialogue of an event is this one; else nothing
abbrev pub for_one : {X : Type 0} → Option ℕ → ℕ → List X → List X
for_one dialogue d list = if is_one dialogue d then list else []

-- a number of each of the births 1 to n, added up
abbrev pub sum_to : ℕ → (ℕ → ℕ) → ℕ
sum_to zero of = 0
sum_to (suc n) of = sum_to n of + of (suc n)

-- how many of the births 1 to n are such
abbrev pub how_many : ℕ → (ℕ → Bool) → ℕ
how_many n is = sum_to n (λ d. if is d then 1 else 0)
