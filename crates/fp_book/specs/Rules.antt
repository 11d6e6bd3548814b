-- The rules of receipt: what a link does with a message. The first rule that fits decides, by a few facts. A book, a
-- history and a plain list of dialogues each say what their facts are.
use Rattle.std.specs.Prelude.{◌≡◌, ◌≢◌, ℕ, ◌+◌, ◌*◌, ◌<◌, ◌≤◌, ◌&&◌, ◌||◌, Bool, true, false, not, List, [], ◌∷◌, Option, Some, None, IsSome, is_some, length, nat_eq, nat_le, nat_lt, if◌then◌else◌}
use Rattle.std.specs.FinMap.{FinMap, get, len}
use Rattle.std.specs.Option.{option_and_then, option_map_or}
use Rattle.std.specs.Ordering.{nat_cmp}
use Rattle.fp_book.specs.declared.rules.Facts.{Facts}
use Rattle.fp_book.specs.declared.rules.Rule.{Rule}
use Rattle.fp_book.specs.declared.rules.Rule.TheVariants.{Discard, Refuse, Open, Extend}
use Rattle.fp_book.specs.declared.verdict.Verdict.{Verdict}
use Rattle.fp_book.specs.declared.verdict.Verdict.TheVariants as verdicts
use Rattle.fp_book.specs.Limits.{all_entries, most_dialogues, most_elements, most_unserved}
use Rattle.fp_book.specs.Shelf.{Shelf}
use Rattle.fp_entry.specs.declared.arrival.Arrival.{Arrival}
use Rattle.fp_entry.specs.declared.entry.Entry.{Entry}
use Rattle.fp_entry.specs.declared.incoming.Incoming.{Incoming}
use Rattle.fp_entry.specs.declared.prepared.Prepared.{Prepared}
use Rattle.fp_entry.specs.declared.prepared.Prepared.TheVariants.{Message, Refused, Lost}
use Rattle.fp_entry.specs.Entries.{place_count}
use Rattle.fp_entry.specs.Prepared.{IsPrepared, arrival_of}
use Rattle.fp_q773.specs.declared.ids.Ids.{Ids}
use Rattle.fp_q773.specs.declared.kind.Kind.{Kind}
use Rattle.fp_q773.specs.declared.kind.Kind.TheVariants.{Unidirectional, Begin, End, Continue, Abort, Unknown}
use Rattle.fp_q773.specs.declared.provider_abort.AbortCause.TheVariants.{BadlyFormattedTransactionPortion, ResourceLimitation, UnrecognizedMessageType, UnrecognizedTransactionIdentifier}
use Rattle.fp_q773.specs.Tid.{Tid, octets_of}
use Rattle.fp_records.specs.Table.{Contents}
use Rattle.fp_row.specs.declared.row.Row.{Row}
use Rattle.fp_row.specs.Row.{is_admitted, places_taken}

-- THE RULES

-- the entries of a message
abbrev pub entries_in : Prepared → List Entry
entries_in (Message arrival incoming) = incoming.entries
entries_in came = []

-- more elements in the component portion than are taken, or more entries than these bring
abbrev pub too_many : Incoming → Bool
too_many incoming = nat_lt most_elements incoming.elements || nat_lt (most_elements + 1) (length incoming.entries)

-- memory ran out as it was read
abbrev pub is_lost : Prepared → Bool
is_lost (Lost arrival) = true
is_lost came = false

-- the octets are no message that is taken
abbrev pub is_refused : Prepared → Bool
is_refused (Refused arrival fault) = true
is_refused came = false

-- the message is of this kind
abbrev pub is : Kind → Kind → Bool
is Unidirectional Unidirectional = true
is Begin Begin = true
is Continue Continue = true
is End End = true
is Abort Abort = true
is Unknown Unknown = true
is _ _ = false

-- too many elements or entries; or with which more entries of the dialogue than may be would be accepted and not yet
-- served, the peer's end, its abort and the clock not counted; or on a link that has accepted all entries
abbrev pub lacks_room : Facts → Prepared → Bool
lacks_room facts (Message arrival incoming) =
    too_many incoming
    || (nat_lt most_unserved (facts.unserved + place_count incoming.entries) || nat_le all_entries facts.entries)
lacks_room facts came = false

-- The rules for a message of a kind, on a link that is up: 2 to 7. Each is a test, and what is done if it is met. A
-- refusal names the cause of an Abort of the provider, or none, and closes the dialogue that the message names, if
-- there is one.
abbrev pub rules_up : Facts → Prepared → Kind → List (Bool × Rule)
rules_up facts came kind =
    -- 2. A Unidirectional: nothing.
    (is Unidirectional kind, Discard)
    -- 3. Memory ran out as it was read. A Continue that names no dialogue: cause 1; another one, or a Begin: cause 4.
    ∷ (is_lost came && (is Continue kind && not facts.names_one), Refuse (Some UnrecognizedTransactionIdentifier))
    ∷ (is_lost came && (is Begin kind || is Continue kind), Refuse (Some ResourceLimitation))
    -- An End or an Abort: no cause.
    ∷ (is_lost came && (is End kind || is Abort kind), Refuse None)
    -- An unknown tag: as in rule 4.
    -- 4. The octets are no message that is taken: cause 0 for an unknown tag, else cause 2.
    ∷ ((is_lost came || is_refused came) && is Unknown kind, Refuse (Some UnrecognizedMessageType))
    ∷ (is_refused came, Refuse (Some BadlyFormattedTransactionPortion))
    -- 5. A Continue, an End or an Abort that names no dialogue: cause 1 for a Continue, nothing for the others.
    ∷ (is Continue kind && not facts.names_one, Refuse (Some UnrecognizedTransactionIdentifier))
    ∷ ((is End kind || is Abort kind) && not facts.names_one, Discard)
    -- 6. A Begin, a Continue or an End for which room lacks, or a Begin while as many dialogues are held as may be:
    -- cause 4.
    ∷ (is Begin kind && (lacks_room facts came || nat_le most_dialogues facts.held), Refuse (Some ResourceLimitation))
    ∷ ((is Continue kind || is End kind) && lacks_room facts came, Refuse (Some ResourceLimitation))
    -- 7. Else it is taken: a Begin opens a dialogue, a Continue goes on with the one that it names, and an End or an
    -- Abort ends that. (Each Begin that was read brings an entry, and each Abort one alone.)
    ∷ (is Begin kind && not (nat_eq (length (entries_in came)) 0), Open)
    ∷ (is Continue kind, Extend false)
    ∷ (is End kind || (is Abort kind && nat_le (length (entries_in came)) 1), Extend true)
    ∷ []

-- what the first that fits says; where none fits, nothing is done. One fits each message that was read.
abbrev pub first_that_fits : List (Bool × Rule) → Rule
first_that_fits [] = Discard
first_that_fits (rule ∷ others) = if rule.0 then rule.1 else first_that_fits others

-- what is done with a message: by the rules, of which this is the first
abbrev pub rule : Facts → Prepared → Rule
rule facts came =
    -- 1. The link is down: nothing.
    first_that_fits ((facts.is_down, Discard) ∷ rules_up facts came (arrival_of came).ids.kind)

-- A BOOK'S FACTS

-- the number that four octets say; fewer name no dialogue
abbrev pub number_of : List ℕ → Option ℕ
number_of (a ∷ b ∷ c ∷ d ∷ []) = Some (a * 16777216 + b * 65536 + c * 256 + d)
number_of octets = None

-- the dialogue, if it is admitted
abbrev pub admitted : FinMap nat_cmp Row → ℕ → Option ℕ
admitted rows local = if option_map_or is_admitted (get rows local) false then Some local else None

-- the admitted dialogue that a message names
abbrev pub named : Shelf → Ids → Option ℕ
named s ids = option_and_then (admitted s.rows) (option_and_then (λ tid. number_of (octets_of tid)) ids.dest)

-- the facts of a book for a message that names this admitted dialogue, or none
abbrev pub facts_with : Shelf → Option ℕ → Facts
facts_with s dialogue = record {
  is_down = s.is_down;
  names_one = is_some dialogue;
  unserved = option_map_or places_taken (option_and_then (get s.rows) dialogue) 0;
  entries = s.entries;
  held = len s.rows;
}

abbrev pub facts_of : Shelf → Prepared → Facts
facts_of s came = facts_with s (named s (arrival_of came).ids)

-- what a rule says for the dialogue that a message names, and for the identifier by which its sender knows the dialogue
abbrev pub verdict_by : Rule → Option ℕ → Option Tid → Verdict
verdict_by Discard dialogue sender = verdicts.Discard
verdict_by (Refuse cause) dialogue sender = verdicts.Refuse cause dialogue
verdict_by Open dialogue sender = option_map_or (λ peer. verdicts.Open peer) sender verdicts.Discard
verdict_by (Extend ends) dialogue sender = option_map_or (λ local. verdicts.Extend local ends) dialogue verdicts.Discard

-- what a book does with a message
abbrev pub verdict : Shelf → Prepared → Verdict
verdict s came = verdict_by (rule (facts_of s came) came) (named s (arrival_of came).ids) (arrival_of came).ids.orig

-- the link has accepted 2^63 entries
abbrev pub is_full : Shelf → Bool
is_full s = nat_le all_entries s.entries

-- MESSAGES THAT WERE READ

-- what holds of each message that was read
pub record IsAsRead (arrival : Arrival) (incoming : Incoming) : Type 0 where
  -- its tag is that of a message
  pub known : arrival.ids.kind ≢ Unknown
  -- a Begin has the identifier by which its sender knows the dialogue
  pub begins : arrival.ids.kind ≡ Begin → IsSome arrival.ids.orig
  -- and brings an entry
  pub begins_some : arrival.ids.kind ≡ Begin → 0 < length incoming.entries
  -- an Abort brings its own entry
  pub aborts : arrival.ids.kind ≡ Abort → length incoming.entries ≡ 1
  -- any brings one entry for each of its elements at most, and one of its own
  pub few : length incoming.entries ≤ incoming.elements + 1

-- so the three tests that the rules make only because they can't know who read a message decide nothing: too many
-- entries without too many elements, a Begin without entries, an Abort with two
abbrev pub ReadMessagesHaveFewEntries : Type 0
ReadMessagesHaveFewEntries =
    (contents : Contents) (contexts : List (List ℕ)) (octets : List ℕ) (moment : ℕ) (arrival : Arrival) (incoming : Incoming)
    → IsPrepared contents contexts octets moment (Message arrival incoming) → IsAsRead arrival incoming
