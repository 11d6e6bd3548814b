-- How a stream of octets parts into messages.
use Rattle.std.proofs.Common.{◌≡◌, ℕ, ◌+◌, ◌*◌, ◌/◌, ◌%◌, ◌-◌, ◌<◌, ◌≤◌, List, [], ◌∷◌, ◌++◌, length, get_or, take, drop, refl, sym, ◌∙◌, ap, subst, inr, arith, append_assoc, length-append}
use Rattle.std.specs.Prelude.{◌⊎◌}
use Rattle.std.specs.List.{flat_map}
use Rattle.std.proofs.lemmas.List.{drop-drop, drop_at, get_or_append_left, length-take-le, take-append-drop, take_at}
use Rattle.std.proofs.lemmas.List.Concat.{flat_map-append}
use Rattle.std.proofs.lemmas.List.Elements.{All-append, All-head, All-tail}
use Rattle.fp_ipa.specs.Message.{IsTaken, Message, framed}
use Rattle.fp_ipa.specs.Laws.{BadIsNoMessage, BadStaysBad, MessagesGoOn, StreamsAreOne}
use Rattle.fp_ipa.specs.Stream.{Begins, IsBad, IsFirst, IsIncomplete, IsStream, Messages, length_said}

-- the head of a message says its length
length_said_framed : (message : Message) (rest : List ℕ) → length_said (framed message ++ rest) ≡ length message.octets
length_said_framed message rest = omega arith

-- how long a message and what follows it are
length-framed : (message : Message) (rest : List ℕ) → length (framed message ++ rest) ≡ 3 + (length message.octets + length rest)
length-framed message rest = let long = length-append message.octets rest in omega (arith, long)

-- octets that begin with a whole message don't begin with a part of one, nor with one that is too long
not_whole : (octets : List ℕ) (message : Message) (rest : List ℕ) → Begins octets message rest → IsIncomplete octets ⊎ IsBad octets → ⊥
not_whole octets message rest begins end =
    let size = begins.taken in
    let says = ap length_said begins.whole ∙ length_said_framed message rest in
    let long = ap length begins.whole ∙ length-framed message rest in
    omega (arith, size, says, long, end)

-- octets begin with one message
same_message : (one other : Message) (rest others : List ℕ) → framed one ++ rest ≡ framed other ++ others → (one ≡ other) × (rest ≡ others)
same_message one other rest others same =
    let stream : one.stream ≡ other.stream = ap (λ o. get_or o 2 0) same in
    let long : length one.octets ≡ length other.octets =
    sym (length_said_framed one rest) ∙ ap length_said same ∙ length_said_framed other others in
    let behind : one.octets ++ rest ≡ other.octets ++ others = ap (drop 3) same in
    let octets : one.octets ≡ other.octets =
    sym (take_at one.octets rest (length one.octets) refl) ∙ ap (take (length one.octets)) behind
    ∙ take_at other.octets others (length one.octets) (sym long) in (
      λ i. record { stream = stream i; octets = octets i },
      sym (drop_at one.octets rest (length one.octets) refl) ∙ ap (drop (length one.octets)) behind
          ∙ drop_at other.octets others (length one.octets) (sym long),
    )

-- the first message of a stream, and the rest
first_message : (octets : List ℕ) (message : Message) (messages : List Message) (rest : List ℕ) → Messages octets (message ∷ messages) rest
    → Begins octets message (flat_map framed messages ++ rest)
first_message octets message messages rest all = record {
  taken = All-head IsTaken message messages all.taken;
  whole = all.whole ∙ append_assoc (framed message) (flat_map framed messages) rest;
}

-- octets are at most one list of messages, and have at most one rest
pub streams_are_one : StreamsAreOne
streams_are_one octets [] [] one other a b = (refl, sym a.parts.whole ∙ b.parts.whole)
streams_are_one octets [] (message ∷ messages) one other a b =
    absurd (not_whole octets message (flat_map framed messages ++ other) (first_message octets message messages other b.parts)
    (subst (λ o. IsIncomplete o ⊎ IsBad o) (sym a.parts.whole) a.end))
streams_are_one octets (message ∷ messages) [] one other a b =
    absurd (not_whole octets message (flat_map framed messages ++ one) (first_message octets message messages one a.parts)
    (subst (λ o. IsIncomplete o ⊎ IsBad o) (sym b.parts.whole) b.end))
streams_are_one octets (message ∷ messages) (another ∷ others) one other a b =
    let first = first_message octets message messages one a.parts in
    let second = first_message octets another others other b.parts in
    let same = same_message message another (flat_map framed messages ++ one) (flat_map framed others ++ other) (sym first.whole ∙ second.whole) in
    let left : IsStream (flat_map framed messages ++ one) messages one =
    record { parts = record { taken = All-tail IsTaken message messages a.parts.taken; whole = refl }; end = a.end } in
    let right : IsStream (flat_map framed messages ++ one) others other =
    record { parts = record { taken = All-tail IsTaken another others b.parts.taken; whole = same.1 }; end = b.end } in
    let rest = streams_are_one (flat_map framed messages ++ one) messages others one other left right in
    (ap (λ m. m ∷ messages) same.0 ∙ ap (λ ms. another ∷ ms) rest.0, rest.1)

-- if a stream goes on, its messages go on with those of its rest and of what follows
pub messages_go_on : MessagesGoOn
messages_go_on octets more rest behind first later front back = record {
  taken = All-append IsTaken first later front.taken back.taken;
  whole =
      ap (λ o. o ++ more) front.whole
      ∙ append_assoc (flat_map framed first) rest more
      ∙ ap (λ o. flat_map framed first ++ o) back.whole
      ∙ sym (append_assoc (flat_map framed first) (flat_map framed later) behind)
      ∙ ap (λ o. o ++ behind) (sym (flat_map-append framed first later));
}

-- a message that is too long stays so, whatever follows
pub bad_stays_bad : BadStaysBad
bad_stays_bad octets more bad =
    let first = get_or_append_left octets more 0 0 (omega (arith, bad)) in
    let second = get_or_append_left octets more 0 1 (omega (arith, bad)) in
    let long = length-append octets more in
    (omega (arith, bad, long), omega (arith, bad, first, second))

-- octets that begin with a message that is too long begin with no other one
pub bad_is_no_message : BadIsNoMessage
bad_is_no_message octets rest message bad = (
  λ part. omega (arith, part, bad),
  λ begins. not_whole octets message rest begins (inr bad),
)

-- a message that is there whole is first
pub message_first : (octets : List ℕ) (size stream : ℕ) → 3 ≤ length octets → stream ≡ get_or octets 2 0
    → size ≡ get_or octets 0 0 * 256 + get_or octets 1 0 → get_or octets 1 0 < 256 → size ≤ 4096 → size ≤ length octets - 3
    → IsFirst octets stream size
message_first [] size stream three of is low most fits = absurd (omega (arith, three))
message_first (a ∷ []) size stream three of is low most fits = absurd (omega (arith, three))
message_first (a ∷ b ∷ []) size stream three of is low most fits = absurd (omega (arith, three))
message_first (a ∷ b ∷ c ∷ behind) size stream three of is low most fits =
    let within : size ≤ length behind = omega (arith, fits) in
    let long : length (take size behind) ≡ size = length-take-le size behind within in
    let high : length (take size behind) / 256 ≡ a = omega (arith, long, is, low) in
    let least : length (take size behind) % 256 ≡ b = omega (arith, long, is, low) in
    let rest : take size behind ++ drop (3 + size) (a ∷ b ∷ c ∷ behind) ≡ behind =
    ap (λ o. take size behind ++ o) (sym (drop-drop size 3 (a ∷ b ∷ c ∷ behind))) ∙ take-append-drop size behind in
    record {
      within = omega (arith, within);
      begins = record {
        taken = omega (arith, long, most);
        whole = λ i. sym high i ∷ sym least i ∷ sym of i ∷ sym rest i;
      };
    }

pub ruleset stream_laws = (messages_go_on, bad_stays_bad, bad_is_no_message)
