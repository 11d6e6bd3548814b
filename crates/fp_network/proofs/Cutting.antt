-- The messages that are taken from a connection are those with which its octets begin.
use Rattle.std.proofs.Common.{◌≡◌, ℕ, Bool, true, false, List, [], ◌∷◌, ◌++◌, map, Option, Some, None, append_assoc, inl, inr, is_some, refl, sym, subst, ap, ◌∙◌}
use Rattle.std.proofs.lemmas.List.Elements.{All-cons, All-nil}
use Rattle.std.proofs.lemmas.Option.{none-some}
use Rattle.std.specs.List.{flat_map}
use Rattle.fp_adaptor.specs.declared.adaptor.Outcome.{Outcome}
use Rattle.fp_adaptor.specs.declared.adaptor.Outcome.TheVariants as outcomes
use Rattle.fp_adaptor.specs.declared.setting.Setting.{Setting}
use Rattle.fp_adaptor.specs.History.{Event}
use Rattle.fp_ipa.specs.declared.message.IpaMessage.{IpaMessage}
use Rattle.fp_ipa.specs.Message.{IsTaken, Message, framed}
use Rattle.fp_ipa.specs.Stream.{Begins, Messages}
use Rattle.fp_ipa.specs.View.{message_value}
use Rattle.fp_network.specs.declared.arrival.Arrival.{Arrival}
use Rattle.fp_network.specs.declared.arrival.Arrival.TheVariants.{Active, Close, Nothing, Skipped, UnitData}
use Rattle.fp_network.specs.declared.connection.Connection.{Connection}
use Rattle.fp_network.specs.declared.event.Closing.{Closing}
use Rattle.fp_network.specs.declared.event.Closing.TheVariants.{Replaced, TooLong}
use Rattle.fp_network.specs.declared.node.Node.{Node}
use Rattle.fp_network.specs.Course.{closing_of}
use Rattle.fp_network.specs.Endings.{ClosesOnly}
use Rattle.fp_network.specs.Node.{connection_at, connection_in}
use Rattle.fp_network.specs.Receiving.{ComesTo, EndsAt, IsCut, NextIf, NextIn, Steps, answering, reader_of}
use Rattle.fp_network.proofs.Hearing.{HearsOn, reads_arrived, reads_closed, reads_sent}

cut_one : (octets rest last : List ℕ) (message : Message) (messages : List Message) → Begins octets message rest → Messages rest messages last
    → Messages octets (message ∷ messages) last
cut_one octets rest last message messages begins more = record {
  taken = All-cons IsTaken message messages begins.taken more.taken;
  whole = begins.whole ∙ ap (λ l. framed message ++ l) more.whole ∙ sym (append_assoc (framed message) (flat_map framed messages) last);
}

-- a message that is read is the first one
begins_if : (over : Bool) (old : Connection) (new : Option Connection) (message : IpaMessage) → NextIf over old new (Some message)
    → Begins old.reader (message_value message) (reader_of new)
begins_if true old new message (same, none) = absurd (none-some _ (sym none))
begins_if false old new message (rest, same, begins) =
    subst (λ (left : List ℕ). Begins old.reader (message_value message) left) (sym (ap reader_of same)) begins

next_begins : (old new : Option Connection) (message : IpaMessage) → NextIn old new (Some message)
    → Begins (reader_of old) (message_value message) (reader_of new)
next_begins None new message (same, none) = absurd (none-some _ (sym none))
next_begins (Some old) new message next = begins_if (is_some (closing_of old.course)) old new message next

-- nothing else reads octets
none_if : (over : Bool) (old : Connection) (new : Option Connection) → NextIf over old new None → reader_of new ≡ old.reader
none_if true old new (same, none) = ap reader_of same
none_if false old new (rest, same, hands) = ap reader_of same ∙ hands.1

none_reads : (old new : Option Connection) → NextIn old new None → reader_of new ≡ reader_of old
none_reads None new (same, none) = ap reader_of same
none_reads (Some old) new next = none_if (is_some (closing_of old.course)) old new next

only_reads : (why : Closing) (closed : Option ℕ) (place : ℕ) (old new : Node) → ClosesOnly why closed old new
    → reader_of (connection_in new place) ≡ reader_of (connection_in old place)
only_reads why None place old new same = ap reader_of (same place)
only_reads why (Some closed) place old new (here, others) = reads_closed why closed place old new here others

answer_reads : (outcome : Outcome) (own : Option Connection) → reader_of (answering outcome own) ≡ reader_of own
answer_reads (outcomes.Answered octets) own = reads_sent octets.items own
answer_reads (outcomes.HandedOn frames) own = refl
answer_reads outcomes.Nothing own = refl

comes_reads : (arrival : Arrival) (setting : Setting) (history : List Event) (place : ℕ) (octets : List ℕ) (old new : Node) (more : List Event)
    → ComesTo setting history place octets arrival old new more → reader_of (connection_in new place) ≡ reader_of (connection_in old place)
comes_reads Nothing setting history place octets old new more (is, places, link, skips) =
    ap (λ places. reader_of (connection_at places.items place)) places
comes_reads Skipped setting history place octets old new more (is, places, link, skips) =
    ap (λ places. reader_of (connection_at places.items place)) places
comes_reads (Active unit) setting history place octets old new more (earlier, events, comes, is, link, only, skips) =
    only_reads Replaced earlier place old new only
comes_reads UnitData setting history place octets old new more (outcome, receives, link, here, others, skips) =
    ap reader_of here ∙ answer_reads outcome (connection_in old place)
comes_reads (Close why) setting history place octets old new more (is, link, only, skips) = only_reads why (Some place) place old new only

steps_read : (setting : Setting) (history : List Event) (place : ℕ) (message : IpaMessage) (old new : Node) → Steps setting history place message old new
    → reader_of (connection_in new place) ≡ reader_of (connection_in old place)
steps_read setting history place message old new way =
    comes_reads way.arrival setting history place message.octets way.between new way.more way.comes_to
    ∙ reads_arrived _ _ _ _ _ _ _ way.arrives

ends_read : (place : ℕ) (old new : Node) (more : List Event) → EndsAt place old new more
    → reader_of (connection_in new place) ≡ reader_of (connection_in old place)
ends_read place old new more ends = elim ends [
  | inl so ↦ none_reads (connection_in old place) (connection_in new place) so.1
  | inr so ↦ only_reads TooLong (Some place) place old new so.3
]

pub hears_cut : (setting : Setting) (history : List Event) (place : ℕ) (messages : List IpaMessage) (old new : Node)
    → HearsOn setting history place messages old new → IsCut place messages old new
hears_cut setting history place [] old new (more, ends, led) = record {
  taken = All-nil IsTaken;
  whole = sym (ends_read place old new more ends);
}
hears_cut setting history place (message ∷ messages) old new (next, mid, (is, only), way, each) =
    cut_one (reader_of (connection_in old place)) (reader_of (connection_in next place)) (reader_of (connection_in new place)) (message_value message)
    (map message_value messages) (next_begins (connection_in old place) (connection_in next place) message is)
    (subst (λ (octets : List ℕ). Messages octets (map message_value messages) (reader_of (connection_in new place)))
    (steps_read setting history place message next mid way) (hears_cut setting (way.more ++ history) place messages mid new each))
