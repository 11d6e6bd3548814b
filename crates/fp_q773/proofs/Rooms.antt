-- How many octets the canonical spellings of messages and their parts take.
use Rattle.std.proofs.Common.{◌≡◌, ℕ, ℤ, ◌+◌, ◌^◌, ◌<◌, ◌≤◌, Bool, true, false, List, [], ◌∷◌, ◌++◌, length, Option, Some, None, inl, inr, refl, length-append, lt-ltb, arith, nat_lt, ◌/◌, ◌%◌, if◌then◌else◌}
use Rattle.fp_ber.specs.declared.element.Class.{Class}
use Rattle.fp_ber.specs.declared.element.Class.TheVariants.{Universal, Application, Context}
use Rattle.fp_ber.specs.Tree.{Tree, Trees, primitive, constructed, none, more}
use Rattle.fp_ber.specs.Integer.{integer}
use Rattle.fp_ber.specs.Canon.{tag_octets, length_octets, with_header, canon, canon_of_all, HasLengths, AllHaveLengths}
use Rattle.fp_q773.specs.Tid.{IsTid}
use Rattle.fp_q773.specs.Value.{CodeValue, ProblemValue, ResultValue, ComponentValue, ReasonValue, MessageValue, local, global, tagged, returned, invoke, return_result_last, return_error, reject, return_result_not_last, faulty, provider, user, unidirectional, begin, end, continuing, abort}
use Rattle.fp_q773.specs.Laws.{WrittenHasRoom, WrittenHasLengths}
use Rattle.fp_q773.specs.Writable.{IsWritable, AllWritable, IsWritableMessage}
use Rattle.fp_q773.specs.Written.{written}
use Rattle.fp_q773.specs.Room.{tree_room, code_room, result_room, component_room, components_room, reason_room, message_room}
use Rattle.fp_q773.specs.Grammar.{IsIdentifier, IsLinked, IsCode, IsParameter, IsCoded, IsAsked, IsReturned, IsRejected, IsProblem, IsComponent, AreComponents, IsPortion, ArePortions, IsReason, IsEnd, IsMessage}

-- one of two lists is no longer than both may be
if_size : (b : Bool) (x y : List ℕ) (n : ℕ) → length x ≤ n → length y ≤ n → length (if b then x else y) ≤ n
if_size true x y n h k = h
if_size false x y n h k = k

-- the octets of a length of two octets or more
abbrev longer : ℕ → List ℕ
longer n =
    if nat_lt n 0x10000 then 0x82 ∷ n / 0x100 ∷ n % 0x100 ∷ []
    else if nat_lt n 0x1000000 then 0x83 ∷ n / 0x10000 ∷ n / 0x100 % 0x100 ∷ n % 0x100 ∷ []
    else 0x84 ∷ n / 0x1000000 ∷ n / 0x10000 % 0x100 ∷ n / 0x100 % 0x100 ∷ n % 0x100 ∷ []

-- they are at most five
longer_size : (n : ℕ) → length (longer n) ≤ 5
longer_size n =
    if_size (nat_lt n 0x10000) (0x82 ∷ n / 0x100 ∷ n % 0x100 ∷ [])
    (if nat_lt n 0x1000000 then 0x83 ∷ n / 0x10000 ∷ n / 0x100 % 0x100 ∷ n % 0x100 ∷ []
    else 0x84 ∷ n / 0x1000000 ∷ n / 0x10000 % 0x100 ∷ n / 0x100 % 0x100 ∷ n % 0x100 ∷ []) 5 (omega arith)
    (if_size (nat_lt n 0x1000000) (0x83 ∷ n / 0x10000 ∷ n / 0x100 % 0x100 ∷ n % 0x100 ∷ [])
    (0x84 ∷ n / 0x1000000 ∷ n / 0x10000 % 0x100 ∷ n / 0x100 % 0x100 ∷ n % 0x100 ∷ []) 5 (omega arith) (omega arith))

-- a length takes at most five octets
length_size : (n : ℕ) → length (length_octets n) ≤ 5
length_size n =
    if_size (nat_lt n 0x80) (n ∷ []) (if nat_lt n 0x100 then 0x81 ∷ n ∷ [] else longer n) 5 (omega arith)
    (if_size (nat_lt n 0x100) (0x81 ∷ n ∷ []) (longer n) 5 (omega arith) (longer_size n))

-- a tag below 31 takes one octet, so with its length and its contents this is most
header_size : (class : Class) (form : Bool) (number : ℕ) (contents : List ℕ) → number < 31 → length (with_header class form number contents) ≤ 6 + length contents
header_size class form number contents low =
    let size = length_size (length contents) in
    let body = length-append (length_octets (length contents)) contents in
    let both = length-append (tag_octets class form number) (length_octets (length contents) ++ contents) in
    let tag : length (tag_octets class form number) ≡ 1 = rw (lt-ltb number 31 low) refl in omega arith

-- and this is least
least_size : (class : Class) (form : Bool) (number : ℕ) (contents : List ℕ) → length contents ≤ length (with_header class form number contents)
least_size class form number contents =
    let body = length-append (length_octets (length contents)) contents in
    let both = length-append (tag_octets class form number) (length_octets (length contents) ++ contents) in omega arith

mutual
  -- four octets say the lengths of an element whose spelling is not too long
  pub has_lengths : (t : Tree) → length (canon t) < 2 ^ 32 → HasLengths t
  has_lengths (primitive class number octets) h =
      let least = least_size class false number octets in omega arith
  has_lengths (constructed class number ts) h =
      let least = least_size class true number (canon_of_all ts) in
      let inside : length (canon_of_all ts) < 2 ^ 32 = omega arith in (inside, all_have_lengths ts inside)

  all_have_lengths : (ts : Trees) → length (canon_of_all ts) < 2 ^ 32 → AllHaveLengths ts
  all_have_lengths none h = tt
  all_have_lengths (more t ts) h =
      let both = length-append (canon t) (canon_of_all ts) in (has_lengths t (omega arith), all_have_lengths ts (omega arith))

-- how many octets elements take
abbrev size_of : Trees → ℕ
size_of ts = length (canon_of_all ts)

-- the first element and those behind it
more_size : (ts : Trees) (t : Tree) (rest : Trees) (m n : ℕ) → ts ≡ more t rest → length (canon t) ≤ m → size_of rest ≤ n → size_of ts ≤ m + n
more_size ts t rest m n is first others =
    let both = length-append (canon t) (canon_of_all rest) in rw is (omega arith)

-- an element alone
one_size : (ts : Trees) (t : Tree) (m : ℕ) → ts ≡ more t none → length (canon t) ≤ m → size_of ts ≤ m
one_size ts t m is first =
    let both = length-append (canon t) [] in rw is (omega arith)

-- an element that holds octets
octets_size : (t : Tree) (class : Class) (number : ℕ) (octets : List ℕ) → t ≡ primitive class number octets → number < 31 → length (canon t) ≤ 6 + length octets
octets_size t class number octets is low = rw is (header_size class false number octets low)

-- an element that holds elements
members_size : (t : Tree) (class : Class) (number : ℕ) (ts : Trees) (n : ℕ) → t ≡ constructed class number ts → number < 31 → size_of ts ≤ n
    → length (canon t) ≤ 6 + n
members_size t class number ts n is low inside =
    let header = header_size class true number (canon_of_all ts) low in rw is (omega arith)

identifier_size : (t : Tree) (identifier : ℤ) → IsIdentifier t identifier → length (canon t) ≤ 7
identifier_size t identifier h = octets_size t Universal 2 (h.0 ∷ []) h.1 (omega arith)

linked_size : (t : Tree) (identifier : ℤ) → IsLinked t identifier → length (canon t) ≤ 7
linked_size t identifier h = octets_size t Context 0 (h.0 ∷ []) h.1 (omega arith)

integer_size : (octets : List ℕ) (n : ℤ) → integer octets ≡ Some n → length octets ≤ 4
integer_size [] n h = omega arith
integer_size (a ∷ []) n h = omega arith
integer_size (a ∷ b ∷ []) n h = omega arith
integer_size (a ∷ b ∷ c ∷ []) n h = omega arith
integer_size (a ∷ b ∷ c ∷ d ∷ []) n h = omega arith
integer_size (a ∷ b ∷ c ∷ d ∷ e ∷ others) n h = cc

code_size : (t : Tree) (code : CodeValue) → IsCode t code → length (canon t) ≤ code_room code
code_size t (local number) h =
    let whole = octets_size t Universal 2 h.0 h.1 (omega arith) in
    let octets = integer_size h.0 number h.2 in omega arith
code_size t (global octets) h = octets_size t Universal 6 octets h (omega arith)

parameter_size : (ts : Trees) (parameter : Option Tree) → IsParameter ts parameter → size_of ts ≤ tree_room parameter
parameter_size ts None h = rw h (omega arith)
parameter_size ts (Some t) h = one_size ts t (length (canon t)) h (omega arith)

coded_size : (ts : Trees) (code : CodeValue) (parameter : Option Tree) → IsCoded ts code parameter → size_of ts ≤ code_room code + tree_room parameter
coded_size ts code parameter h =
    more_size ts h.0 h.1 (code_room code) (tree_room parameter) h.2 (code_size h.0 code h.3) (parameter_size h.1 parameter h.4)

asked_size : (ts : Trees) (linked : Option ℤ) (code : CodeValue) (parameter : Option Tree) → IsAsked ts linked code parameter
    → size_of ts ≤ 7 + (code_room code + tree_room parameter)
asked_size ts None code parameter h =
    let coded = coded_size ts code parameter h in omega arith
asked_size ts (Some linked) code parameter h =
    more_size ts h.0 h.1 7 (code_room code + tree_room parameter) h.2 (linked_size h.0 linked h.3) (coded_size h.1 code parameter h.4)

returned_size : (ts : Trees) (result : Option ResultValue) → IsReturned ts result → size_of ts ≤ result_room result
returned_size ts None h = rw h (omega arith)
returned_size ts (Some (returned code parameter)) h =
    let inside = coded_size h.0 code parameter h.2 in
    let whole = members_size (constructed Universal 16 h.0) Universal 16 h.0 (code_room code + tree_room parameter) refl (omega arith) inside in
    one_size ts (constructed Universal 16 h.0) (6 + code_room code + tree_room parameter) h.1 (omega arith)

rejected_size : (t : Tree) (identifier : Option ℤ) → IsRejected t identifier → length (canon t) ≤ 7
rejected_size t None h =
    let whole = octets_size t Universal 5 [] h (omega arith) in omega arith
rejected_size t (Some identifier) h = identifier_size t identifier h

problem_size : (t : Tree) (problem : ProblemValue) → IsProblem t problem → length (canon t) ≤ 7
problem_size t (tagged group code) h = octets_size t Context group (code ∷ []) h.0 (omega (arith, h.1))

component_size : (t : Tree) (value : ComponentValue) → IsComponent t value → IsWritable value → length (canon t) ≤ component_room value
component_size t (invoke identifier linked code parameter) h w =
    let it = h.2 in
    let inside = more_size h.0 it.0 it.1 7 (7 + (code_room code + tree_room parameter)) it.2 (identifier_size it.0 identifier it.3) (asked_size it.1 linked code parameter it.4) in
    let whole = members_size t Context 1 h.0 _ h.1 (omega arith) inside in omega arith
component_size t (return_result_last identifier result) h w =
    let it = h.2 in
    let inside = more_size h.0 it.0 it.1 7 (result_room result) it.2 (identifier_size it.0 identifier it.3) (returned_size it.1 result it.4) in
    let whole = members_size t Context 2 h.0 _ h.1 (omega arith) inside in omega arith
component_size t (return_error identifier code parameter) h w =
    let it = h.2 in
    let inside = more_size h.0 it.0 it.1 7 (code_room code + tree_room parameter) it.2 (identifier_size it.0 identifier it.3) (coded_size it.1 code parameter it.4) in
    let whole = members_size t Context 3 h.0 _ h.1 (omega arith) inside in omega arith
component_size t (reject identifier problem) h w =
    let it = h.2 in
    let last = one_size (more it.1 none) it.1 7 refl (problem_size it.1 problem it.4) in
    let inside = more_size h.0 it.0 (more it.1 none) 7 7 it.2 (rejected_size it.0 identifier it.3) last in
    let whole = members_size t Context 4 h.0 14 h.1 (omega arith) inside in omega arith
component_size t (return_result_not_last identifier result) h w =
    let it = h.2 in
    let inside = more_size h.0 it.0 it.1 7 (result_room result) it.2 (identifier_size it.0 identifier it.3) (returned_size it.1 result it.4) in
    let whole = members_size t Context 7 h.0 _ h.1 (omega arith) inside in omega arith
component_size t (faulty identifier problem) h w = absurd w

components_size : (ts : Trees) (values : List ComponentValue) → AreComponents ts values → AllWritable values → size_of ts ≤ components_room values
components_size none [] h w = omega arith
components_size none (v ∷ vs) h w = absurd h
components_size (more t ts) [] h w = absurd h
components_size (more t ts) (v ∷ vs) h w =
    more_size (more t ts) t ts (component_room v) (components_room vs) refl (component_size t v h.0 w.0) (components_size ts vs h.1 w.1)

portion_size : (ts : Trees) (values : List ComponentValue) → IsPortion ts values → AllWritable values → size_of ts ≤ 6 + components_room values
portion_size ts values (inl h) w = rw h.0 (omega arith)
portion_size ts values (inr h) w =
    let inside = components_size h.0 values h.2 w in
    one_size ts (constructed Application 12 h.0) (6 + components_room values) h.1
    (members_size (constructed Application 12 h.0) Application 12 h.0 (components_room values) refl (omega arith) inside)

portions_size : (ts : Trees) (dialogue : Option Tree) (values : List ComponentValue) → ArePortions ts dialogue values → AllWritable values
    → size_of ts ≤ tree_room dialogue + (6 + components_room values)
portions_size ts None values h w =
    let portion = portion_size ts values h w in omega arith
portions_size ts (Some d) values h w = more_size ts d h.0 (length (canon d)) (6 + components_room values) h.1 (omega arith) (portion_size h.0 values h.3 w)

tid_size : (number : ℕ) (octets : List ℕ) → number < 31 → IsTid octets → length (canon (primitive Application number octets)) ≤ 10
tid_size number octets low h =
    let whole = octets_size (primitive Application number octets) Application number octets refl low in
    let most = h.1 in omega arith

end_size : (ts : Trees) (destination : List ℕ) (dialogue : Option Tree) (values : List ComponentValue) → IsEnd ts destination dialogue values → AllWritable values
    → size_of ts ≤ 10 + (tree_room dialogue + (6 + components_room values))
end_size ts destination dialogue values h w =
    more_size ts (primitive Application 9 destination) h.0 10 _ h.1.0 (tid_size 9 destination (omega arith) h.1.1) (portions_size h.0 dialogue values h.2 w)

reason_size : (ts : Trees) (reason : Option ReasonValue) → IsReason ts reason → size_of ts ≤ reason_room reason
reason_size ts None h = rw h (omega arith)
reason_size ts (Some (provider cause)) h =
    one_size ts (primitive Application 10 (cause ∷ [])) 7 h (octets_size (primitive Application 10 (cause ∷ [])) Application 10 (cause ∷ []) refl (omega arith))
reason_size ts (Some (user dialogue)) h = one_size ts dialogue (length (canon dialogue)) h.0 (omega arith)

-- what is written for a message takes no more than its room
message_size : (t : Tree) (value : MessageValue) → t ≡ written value → IsWritableMessage value → IsMessage t value → length (canon t) ≤ message_room value
message_size t unidirectional is w h =
    let whole = members_size t Application 1 none 0 is (omega arith) (omega arith) in omega arith
message_size t (begin originating dialogue values) is w h =
    let it = h.2 in
    let inside = more_size h.0 (primitive Application 8 originating) it.0 10 _ it.1.0 (tid_size 8 originating (omega arith) it.1.1) (portions_size it.0 dialogue values it.2 w.1) in
    let whole = members_size t Application 2 h.0 _ h.1 (omega arith) inside in omega arith
message_size t (end destination dialogue values) is w h =
    let whole = members_size t Application 4 h.0 _ h.1 (omega arith) (end_size h.0 destination dialogue values h.2 w.1) in omega arith
message_size t (continuing originating destination dialogue values) is w h =
    let it = h.2 in
    let inside = more_size h.0 (primitive Application 8 originating) it.0 10 _ it.1.0 (tid_size 8 originating (omega arith) it.1.1) (end_size it.0 destination dialogue values it.2 w.1) in
    let whole = members_size t Application 5 h.0 _ h.1 (omega arith) inside in omega arith
message_size t (abort destination reason) is w h =
    let it = h.2 in
    let inside = more_size h.0 (primitive Application 9 destination) it.0 10 _ it.1.0 (tid_size 9 destination (omega arith) it.1.1) (reason_size it.0 reason it.2) in
    let whole = members_size t Application 7 h.0 _ h.1 (omega arith) inside in omega arith

pub written_size : WrittenHasRoom
written_size value w h = message_size (written value) value refl w h

-- and so four octets say its lengths, if that isn't too long
pub written_lengths : WrittenHasLengths
written_lengths value w h short =
    let size = written_size value w h in has_lengths (written value) (omega arith)
