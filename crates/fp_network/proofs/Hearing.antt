-- The messages of a connection, one after another.
use Rattle.std.proofs.Common.{◌≡◌, ℕ, zero, suc, ◌<◌, Bool, true, false, nat_eq, List, [], ◌∷◌, ◌++◌, length, length-append, Option, Some, None, arith, is_some, slice_get, append_assoc, inl, inr, refl, sym, subst, ap, ◌∙◌}
use Rattle.std.proofs.lemmas.Bool.{cases_Bool, eqb-false, eqb-true}
use Rattle.std.proofs.lemmas.Option.{none-some, same_Some}
use Rattle.std.specs.Option.{option_map}
use Rattle.fp_adaptor.specs.declared.adaptor.Adaptor.{Adaptor}
use Rattle.fp_adaptor.specs.declared.setting.Setting.{Setting}
use Rattle.fp_adaptor.specs.Adaptor.{Led}
use Rattle.fp_adaptor.specs.History.{Event, ended}
use Rattle.fp_ipa.specs.declared.message.IpaMessage.{IpaMessage}
use Rattle.fp_ipa.specs.declared.stream_identifier.StreamIdentifier.{StreamIdentifier}
use Rattle.fp_ipa.specs.Message.{framed}
use Rattle.fp_ipa.specs.Stream.{HandsOut}
use Rattle.fp_ipa.specs.View.{message_value}
use Rattle.fp_network.specs.declared.arrival.Arrival.{Arrival}
use Rattle.fp_network.specs.declared.arrival.Arrival.TheVariants.{Active}
use Rattle.fp_network.specs.declared.connection.Connection.{Connection}
use Rattle.fp_network.specs.declared.event.Closing.{Closing}
use Rattle.fp_network.specs.declared.node.Node.{Node}
use Rattle.fp_network.specs.Changes.{closing, is_slow, sending, sending_if}
use Rattle.fp_network.specs.Course.{closing_of}
use Rattle.fp_network.specs.Endings.{Activates}
use Rattle.fp_network.specs.Node.{LeavesOthers, connection_in, ended_at, ended_unless, for_link, is_over_at}
use Rattle.fp_network.specs.Receiving.{EndsAt, HearsEach, NextIf, NextIn, NextOrEnd, OnlyAt, Results, SkipsNone, Steps, TakesMessage, feeding, reader_of}
use Rattle.fp_network.specs.Stepping.{ArrivesIf, ArrivesIn}
use Rattle.fp_network.proofs.Ending.{closed_led}

-- the next message of a connection
pub next_over : (own : Connection) → is_some (closing_of own.course) ≡ true → NextIf (is_some (closing_of own.course)) own (Some own) None
next_over own over = subst (λ (over : Bool). NextIf over own (Some own) None) (sym over) (refl, refl)

pub next_read : (old new : Connection) (message : Option IpaMessage) → is_some (closing_of old.course) ≡ false
    → new ≡ record old { reader = new.reader } → HandsOut old.reader new.reader (option_map message_value message)
    → NextIf (is_some (closing_of old.course)) old (Some new) message
next_read old new message lives same hands =
    subst (λ (over : Bool). NextIf over old (Some new) message) (sym lives) (new.reader, ap Some same, hands)

-- a message that is read leaves fewer octets
shorter_if : (over : Bool) (old : Connection) (new : Option Connection) (message : IpaMessage) → NextIf over old new (Some message)
    → length (reader_of new) < length old.reader
shorter_if true old new message (same, none) = absurd (none-some _ (sym none))
shorter_if false old new message (rest, same, begins) =
    let long = ap length begins.whole ∙ length-append (framed (message_value message)) rest in
    let is : length (reader_of new) ≡ length rest = ap (λ own. length (reader_of own)) same in
    omega (arith, long, is)

pub shorter : (old new : Option Connection) (message : IpaMessage) → NextIn old new (Some message)
    → length (reader_of new) < length (reader_of old)
shorter None new message (same, none) = absurd (none-some _ (sym none))
shorter (Some old) new message next = shorter_if (is_some (closing_of old.course)) old new message next

-- and the rest of the steps leaves those that are to be read
reads_if : (slow : Bool) (names : List (List ℕ)) (drains : Bool) (stream : StreamIdentifier) (octets : List ℕ) (old new : Connection)
    (arrival : Arrival) → ArrivesIf slow names drains stream octets old new arrival → new.reader ≡ old.reader
reads_if true names drains stream octets old new arrival (same, is) = ap (λ (own : Connection). own.reader) same
reads_if false names drains stream octets old new arrival stepped = ap (λ (own : Connection). own.reader) stepped.same

pub reads_arrived : (names : List (List ℕ)) (drains : Bool) (stream : StreamIdentifier) (octets : List ℕ) (old new : Option Connection)
    (arrival : Arrival) → ArrivesIn names drains stream octets old new arrival → reader_of new ≡ reader_of old
reads_arrived names drains stream octets None new arrival (same, is) = ap reader_of same
reads_arrived names drains stream octets (Some old) new arrival (after, same, arrives) =
    ap reader_of same ∙ reads_if (is_slow old) names drains stream octets old after arrival arrives

reads_closing : (why : Closing) (own : Option Connection) → reader_of (option_map (closing why) own) ≡ reader_of own
reads_closing why None = refl
reads_closing why (Some own) = refl

pub reads_closed : (why : Closing) (closed place : ℕ) (old new : Node)
    → connection_in new closed ≡ option_map (closing why) (connection_in old closed) → LeavesOthers closed old new
    → reader_of (connection_in new place) ≡ reader_of (connection_in old place)
reads_closed why closed place old new here others =
    elim (cases_Bool (nat_eq closed place)) [
      | inl is ↦ subst (λ (place : ℕ). reader_of (connection_in new place) ≡ reader_of (connection_in old place)) (eqb-true closed place is)
          (ap reader_of here ∙ reads_closing why (connection_in old closed))
      | inr apart ↦ ap reader_of (others place (λ is. eqb-false closed place apart (sym is)))
    ]

sends_if : (fits written : Bool) (octets : List ℕ) (own : Connection) → (sending_if fits written octets own).reader ≡ own.reader
sends_if true true octets own = refl
sends_if true false octets own = refl
sends_if false written octets own = refl

pub reads_sent : (octets : List ℕ) (own : Option Connection) → reader_of (option_map (sending octets) own) ≡ reader_of own
reads_sent octets None = refl
reads_sent octets (Some own) = sends_if _ _ octets own

-- the adaptor holds the same
pub same_led : (old new : Adaptor) (setting : Setting) (history : List Event) → new ≡ old → Led old setting history → Led new setting history
same_led old new setting history same led = subst (λ (own : Adaptor). Led own setting history) (sym same) led

-- the next message, or the end
pub next_or_end : (place : ℕ) (old new : Node) (message : Option IpaMessage)
    → NextIn (connection_in old place) (connection_in new place) message → OnlyAt place old new → NextOrEnd place old new message
next_or_end place old new (Some message) next only = (next, only)
next_or_end place old new None next only =
    λ setting history led. ([], inl (refl, next, only), same_led _ _ setting history only.adaptor led)

-- a connection is closed
pub closed_event : (place : ℕ) (old new : Node) (setting : Setting) (history : List Event)
    → (is_over_at old place ≡ true → new.adaptor ≡ old.adaptor)
    → (is_over_at old place ≡ false → (setting : Setting) (history : List Event) → Led old.adaptor setting history
    → Led new.adaptor setting (ended place ∷ history))
    → Led old.adaptor setting history → Led new.adaptor setting (ended_unless (is_over_at old place) place ++ history)
closed_event place old new setting history stays tells =
    closed_led _ place _ _ setting history stays (λ lives. tells lives setting history)

-- it is active for a unit
pub results_active : (unit place : ℕ) (octets : List ℕ) (old new : Node) → for_link new ≡ for_link old → SkipsNone old new
    → ((setting : Setting) (history : List Event) → Led old.adaptor setting history → Activates place unit old setting history new)
    → Results place octets (Active unit) old new
results_active unit place octets old new link skips activates setting history led =
    let so = activates setting history led in (
      ended_at old so.0 ++ so.1,
      (so.0, so.1, so.2, refl, link, so.4, skips),
      subst (λ (l : List Event). Led new.adaptor setting l) (sym (append_assoc (ended_at old so.0) so.1 history)) so.3,
    )

-- these messages are taken one after another
abbrev pub HearsOn : Setting → List Event → ℕ → List IpaMessage → Node → Node → Type 0
HearsOn setting history place [] old new = (more : List Event) × EndsAt place old new more × Led new.adaptor setting (more ++ history)
HearsOn setting history place (message ∷ messages) old new =
    (next : Node) × (mid : Node) × NextOrEnd place old next (Some message)
    × (way : Steps setting history place message next mid)
    × HearsOn setting (way.more ++ history) place messages mid new

abbrev from : {T : Type 0} → T → (ℕ → T) → ℕ → T
from first rest zero = first
from first rest (suc count) = rest count

-- the first message is taken, and then the others
takes_from : (setting : Setting) (history : List Event) (place : ℕ) (message : IpaMessage) (messages : List IpaMessage) (old next mid new : Node)
    → NextOrEnd place old next (Some message) → (way : Steps setting history place message next mid)
    → (so : HearsEach setting (way.more ++ history) place messages mid new) → (count : ℕ) (other : IpaMessage)
    → slice_get (message ∷ messages) count ≡ Some other
    → TakesMessage setting place other (from old so.node count) (from history so.events count) (so.node count) (so.events count)
takes_from setting history place message messages old next mid new is way so zero other at =
    subst (λ (other : IpaMessage). TakesMessage setting place other old history (so.node 0) (so.events 0)) (same_Some message other at)
    (subst (λ (now : Node). TakesMessage setting place message old history now (so.events 0)) (sym so.first.0) (next, is, way, so.first.1))
takes_from setting history place message messages old next mid new is way so (suc count) other at = so.each count other at

pub hears_each : (setting : Setting) (history : List Event) (place : ℕ) (messages : List IpaMessage) (old new : Node)
    → HearsOn setting history place messages old new → HearsEach setting history place messages old new
hears_each setting history place [] old new last = record {
  node = λ count. old;
  events = λ count. history;
  first = (refl, refl);
  each = λ count message at. absurd (none-some _ at);
  last = last;
}
hears_each setting history place (message ∷ messages) old new (next, mid, is, way, on) =
    let so = hears_each setting (way.more ++ history) place messages mid new on in
    record {
      node = from old so.node;
      events = from history so.events;
      first = (refl, refl);
      each = takes_from setting history place message messages old next mid new is way so;
      last = so.last;
    }

-- the messages so far, from when the octets came
pub record Heard (place : ℕ) (octets : List ℕ) (setting : Setting) (history : List Event) (old now : Node) : Type 0 where
  pub fed : Node
  pub is_fed : connection_in fed place ≡ option_map (feeding octets) (connection_in old place)
  pub only : OnlyAt place old fed
  pub messages : List IpaMessage
  pub later : List Event
  pub led : Led now.adaptor setting later
  pub then : (new : Node) (rest : List IpaMessage) → HearsOn setting later place rest now new
      → HearsOn setting history place (messages ++ rest) fed new

pub heard_more : (place : ℕ) (octets : List ℕ) (setting : Setting) (history : List Event) (old now next new : Node) (message : IpaMessage)
    → Heard place octets setting history old now → NextOrEnd place now next (Some message)
    → ((before : List Event) → Led next.adaptor setting before → Steps setting before place message next new)
    → Heard place octets setting history old new
heard_more place octets setting history old now next new message so is steps =
    let way = steps so.later (same_led _ _ setting so.later is.1.adaptor so.led) in
    record {
      fed = so.fed;
      is_fed = so.is_fed;
      only = so.only;
      messages = so.messages ++ message ∷ [];
      later = way.more ++ so.later;
      led = way.led;
      then = λ last rest each.
          subst (λ (all : List IpaMessage). HearsOn setting history place all so.fed last) (sym (append_assoc so.messages (message ∷ []) rest))
          (so.then last (message ∷ rest) (next, new, is, way, each));
    }

-- octets came, and each message is taken
abbrev pub HearingOn : ℕ → List ℕ → Node → Node → Type 0
HearingOn place octets old new =
    (setting : Setting) (history : List Event) → Led old.adaptor setting history
    → (fed : Node) × (connection_in fed place ≡ option_map (feeding octets) (connection_in old place))
    × OnlyAt place old fed × (messages : List IpaMessage) × HearsOn setting history place messages fed new

pub heard_all : (place : ℕ) (octets : List ℕ) (setting : Setting) (history : List Event) (old now new : Node)
    → Heard place octets setting history old now → NextOrEnd place now new None
    → (fed : Node) × (connection_in fed place ≡ option_map (feeding octets) (connection_in old place))
    × OnlyAt place old fed × (messages : List IpaMessage) × HearsOn setting history place messages fed new
heard_all place octets setting history old now new so end =
    (so.fed, so.is_fed, so.only, so.messages ++ [], so.then new [] (end setting so.later so.led))
