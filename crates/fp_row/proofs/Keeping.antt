-- What stays of a row if its entries grow, and which turn is out.
use Rattle.std.proofs.Common.{◌≡◌, ◌≢◌, ℕ, ◌+◌, ◌≤◌, Bool, true, false, not, ◌&&◌, cond, nat_lt, nat_eq, Some, None, List, ◌++◌, length, take, drop, refl, ◌∙◌, ap, arith, length-append}
use Rattle.std.proofs.lemmas.Bool.Decides.{nat_tests}
use Rattle.std.proofs.lemmas.List.{drop-append-le, length-drop, length-map, take-append-le}
use Rattle.fp_entry.specs.declared.entry.Entry.{Entry}
use Rattle.fp_q773.specs.Tid.{Tid, octets_of}
use Rattle.fp_reply.specs.Reply.{frame_of}
use Rattle.fp_row.proofs.Fronts.{taken}
use Rattle.fp_row.specs.declared.row.Row.{Row}
use Rattle.fp_row.specs.declared.turn.Turn.{Turn}
use Rattle.fp_row.specs.Row.{entries_out, frames_of, has_turn_out, requests_of, start_of, turn_of, turn_out}
use Rattle.fp_row.specs.Turn.{frames_under}
use Rattle.fp_service.specs.declared.request.Request.{Request}
use Rattle.fp_service.specs.Fold.{requests}

-- the frames of what these entries request
abbrev pub frames_from : Row → List Entry → List (List ℕ)
frames_from row entries = frames_under row.local row.peer (requests (start_of row) entries)

-- a frame for each request
pub frames_under_count : (local : ℕ) (peer : Tid) (asked : List Request) → length (frames_under local peer asked) ≡ length asked
frames_under_count local peer asked = length-map asked (λ request. frame_of request local (octets_of peer))

pub frames_count : (row : Row) → length (frames_of row) ≡ length (requests_of row)
frames_count row = frames_under_count row.local row.peer (requests_of row)

-- what was accepted for sending is within the frames
pub queued_within : (row : Row) → row.queued ≤ length (frames_of row)
queued_within row = omega (arith, frames_count row, row.queued_within)

pub sent_within : (row : Row) → row.sent ≤ length (frames_of row)
sent_within row = omega (arith, queued_within row, row.kept_within, row.sent_within)

-- more entries change none of the frames
pub frames_stay : (row : Row) (accepted more : List Entry) → accepted ≡ row.accepted ++ more → frames_from row (take row.served accepted) ≡ frames_of row
frames_stay row accepted more grown = ap (frames_from row) (taken row.served row.accepted accepted more grown row.served_within)

-- more entries don't change the turn that is out
out_by : {A : Type 0} (xs more ys : List A) (n k : ℕ) → n + k ≤ length xs → ys ≡ xs ++ more → take k (drop n ys) ≡ take k (drop n xs)
out_by xs more ys n k within grown =
    ap (λ zs. take k (drop n zs)) grown
    ∙ ap (take k) (drop-append-le n xs more (omega arith))
    ∙ take-append-le k (drop n xs) more (omega (arith, length-drop n xs))

pub turn_stays : (row : Row) (accepted more : List Entry) → accepted ≡ row.accepted ++ more
    → cond (has_turn_out row) (Some (turn_of row (take row.out (drop row.served accepted)))) None ≡ turn_out row
turn_stays row accepted more grown =
    ap (λ entries. cond (has_turn_out row) (Some (turn_of row entries)) None) (out_by row.accepted more accepted row.served row.out row.out_within grown)

-- a dialogue that is ready stays so if entries are added
pub ready_stays : (a b c : Bool) (n : ℕ) (xs more ys : List Entry) → ys ≡ xs ++ more → (a && (b && (c && nat_lt n (length xs)))) ≡ true
    → (a && (b && (c && nat_lt n (length ys)))) ≡ true
ready_stays a b c n xs more ys grown ready =
    let count = ap length grown ∙ length-append xs more in
    grind (arith, nat_tests)

-- if a row says that a turn is out, there is one
some_by : {A : Type 0} (is_out : Bool) (x : A) → is_out ≡ true → cond is_out (Some x) None ≢ None
some_by is_out x out none = grind (arith, nat_tests)

pub turn_is_next : (row : Row) → has_turn_out row ≡ true → turn_out row ≢ None
turn_is_next row out = some_by (has_turn_out row) (turn_of row (entries_out row)) out

-- the turn that is out, in its parts
pub record IsOut (row : Row) (turn : Turn) : Type 0 where
  pub is_out : has_turn_out row ≡ true
  pub turn_is : turn_of row (entries_out row) ≡ turn
  pub entries : entries_out row ≡ turn.entries

parts_of : {A : Type 0} (is_out : Bool) (x y : A) → cond is_out (Some x) None ≡ Some y → (is_out ≡ true) × (x ≡ y)
parts_of true x y e = (refl, cc)
parts_of false x y e = absurd (cc)

pub known_turn : (row : Row) (turn : Turn) → turn_out row ≡ Some turn → IsOut row turn
known_turn row turn e =
    let parts = parts_of (has_turn_out row) (turn_of row (entries_out row)) turn e in
    record { is_out = parts.0; turn_is = parts.1; entries = ap (λ (t : Turn). t.entries) parts.1 }

-- a turn that is out is of a dialogue that isn't over
pub going : (is_out over : Bool) → (is_out && over) ≡ false → is_out ≡ true → over ≡ false
going is_out over live out = grind (arith, nat_tests)

-- which requests are kept if nothing ended the dialogue from outside: all
pub all_of : (ended : Bool) (m n : ℕ) → (not ended && not (nat_eq m n)) ≡ false → ended ≡ false → m ≡ n
all_of ended m n all free = grind (arith, nat_tests)

pub all_by : (ended : Bool) (m n : ℕ) → (ended ≡ false → m ≡ n) → (not ended && not (nat_eq m n)) ≡ false
all_by ended m n all = grind (arith, nat_tests, all)
