-- What holds of all messages, of all numbers, and of all octets.
use Rattle.std.specs.Prelude.{◌≡◌, ℕ, ℤ, ◌<◌, ◌≤◌, ◌^◌, List, length, All, Option, Some}
use Rattle.fp_ber.specs.Integer.{integer}
use Rattle.fp_ber.specs.Tree.{Tree, HasTags}
use Rattle.fp_ber.specs.Canon.{canon, HasLengths}
use Rattle.fp_ber.specs.Spelling.{Spells}
use Rattle.fp_q773.specs.declared.kind.Kind.{Kind}
use Rattle.fp_q773.specs.Tid.{octets_of_number}
use Rattle.fp_q773.specs.TwosComplement.{least_octets}
use Rattle.fp_q773.specs.Value.{MessageValue, ComponentValue}
use Rattle.fp_q773.specs.Grammar.{IsMessage, IsComponent}
use Rattle.fp_q773.specs.Copied.{CopiesHaveTags}
use Rattle.fp_q773.specs.Room.{message_room}
use Rattle.fp_q773.specs.Writable.{IsWritableMessage}
use Rattle.fp_q773.specs.Written.{written}
use Rattle.fp_q773.specs.Ids.{AreIds, message_kind, originating_identifier, destination_identifier}

-- an element is at most one message
abbrev pub MessagesAreOne : Type 0
MessagesAreOne = (t : Tree) (x y : MessageValue) → IsMessage t x → IsMessage t y → x ≡ y

-- an element is at most one component
abbrev pub ComponentsAreOne : Type 0
ComponentsAreOne = (t : Tree) (x y : ComponentValue) → IsComponent t x → IsComponent t y → x ≡ y

-- no octets with the value of a number are fewer than those that it is written in (X.690, 8.3.2)
abbrev pub CodesAreLeast : Type 0
CodesAreLeast = (octets : List ℕ) (number : ℤ) → All (λ octet. octet < 256) octets → integer octets ≡ Some number
    → length (least_octets number) ≤ length octets

-- the same kind and the same identifiers
pub record SameIds (k l : Kind) (a b c d : Option (List ℕ)) : Type 0 where
  pub kinds : k ≡ l
  pub originating : a ≡ b
  pub destination : c ≡ d

-- octets tell one kind and one identifier of each sort
abbrev pub IdsAreOne : Type 0
IdsAreOne = (octets : List ℕ) (k l : Kind) (a b c d : Option (List ℕ)) → AreIds octets k a c → AreIds octets l b d → SameIds k l a b c d

-- octets that spell a message tell its kind and its identifiers
abbrev pub IdentifiersAreThoseOfTheMessage : Type 0
IdentifiersAreThoseOfTheMessage = (octets : List ℕ) (t : Tree) (message : MessageValue) → Spells octets t → IsMessage t message
    → AreIds octets (message_kind message) (originating_identifier message) (destination_identifier message)

-- different numbers have different identifiers
abbrev pub NumbersAreOne : Type 0
NumbersAreOne = (m n : ℕ) → m < 2 ^ 32 → n < 2 ^ 32 → octets_of_number m ≡ octets_of_number n → m ≡ n

-- an identifier of four octets is that of a number
abbrev pub FourOctetsAreANumber : Type 0
FourOctetsAreANumber = (octets : List ℕ) → length octets ≡ 4 → All (λ octet. octet < 256) octets
    → (n : ℕ) × (n < 2 ^ 32) × (octets_of_number n ≡ octets)

-- what is written for a message has tags that elements may have, if what is copied into it has
abbrev pub WrittenHasTags : Type 0
WrittenHasTags = (message : MessageValue) → IsWritableMessage message → IsMessage (written message) message → CopiesHaveTags message
    → HasTags (written message)

-- its canonical spelling is no longer than the room of the message
abbrev pub WrittenHasRoom : Type 0
WrittenHasRoom = (message : MessageValue) → IsWritableMessage message → IsMessage (written message) message
    → length (canon (written message)) ≤ message_room message

-- four octets say its lengths, if that isn't too long
abbrev pub WrittenHasLengths : Type 0
WrittenHasLengths = (message : MessageValue) → IsWritableMessage message → IsMessage (written message) message → message_room message < 2 ^ 32
    → HasLengths (written message)
