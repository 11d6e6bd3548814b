-- The text of a line is one line, and no longer than a line may be.
use Rattle.std.proofs.Common.{◌≡◌, ◌≢◌, ℕ, Bool, true, false, cond, eqb, ◌+◌, ◌^◌, ◌<◌, ◌≤◌, List, [], ◌∷◌, length, arith, codes, decimal, length-append}
use Rattle.std.specs.List.{AllByRecursion, join_with_byte}
use Rattle.std.specs.Int.{w32, to_be_bytes}
use Rattle.std.proofs.lemmas.Fmt.{length-decimal-le}
use Rattle.std.proofs.lemmas.List.Elements.{All-append, All-cons, All-from_recursion, All-nil}
use Rattle.hex.specs.Hex.{encode_upper, upper_digits}
use Rattle.hex.proofs.HexLemmas.{length-encode_with}
use Rattle.fp_book.specs.declared.answers.Given.{Given}
use Rattle.fp_book.specs.declared.answers.Given.TheVariants.{Dropped, Queued, Silent}
use Rattle.fp_book.specs.declared.answers.Posted.{Posted}
use Rattle.fp_book.specs.declared.answers.Posted.TheVariants.{Aborted, Accepted, Discarded, Ended, Opened}
use Rattle.fp_book.specs.declared.line.Line.{Line}
use Rattle.fp_book.specs.declared.line.Line.TheVariants.{Head, Step}
use Rattle.fp_book.specs.declared.line.LoggedStep.{LoggedStep}
use Rattle.fp_book.specs.declared.line.LoggedStep.TheVariants.{Down, Gap, Give, Lost, Pick, Post, PutBack, Sent, Take, Tick, Unsent}
use Rattle.fp_q773.specs.ProviderAbort.{cause_code}
use Rattle.fp_streams.specs.Line.{IsOneLine}
use Rattle.fp_replay.specs.Format.{IsCounted, IsLine, IsInRange, IsPosting, IsStep, fields_of, given_text, head_fields, identifier_text, posted_text, text_of}
use Rattle.fp_replay.proofs.Cutting.{decimal_without, octets_without}
use Rattle.fp_replay.proofs.Lines.{small_cause}

-- NO LINE FEED

-- a letter, and what comes after it
behind : (octet : ℕ) (text : List ℕ) → 10 < octet → IsOneLine text → IsOneLine (octet ∷ text)
behind octet text above plain = All-cons (λ o. o ≢ 10) octet text (λ e. omega (arith, e, above)) plain

letter : (octet : ℕ) → 10 < octet → IsOneLine (octet ∷ [])
letter octet above = behind octet [] above (All-nil (λ o. o ≢ 10))

decimal_plain : (n : ℕ) → n < 2 ^ 64 → IsOneLine (decimal n)
decimal_plain n fits = decimal_without 10 (omega arith) (omega arith) n fits

octets_plain : (octets : List ℕ) → IsOneLine (encode_upper octets)
octets_plain octets = octets_without 10 (omega arith) (omega arith) octets

local_plain : (local : ℕ) → IsOneLine (identifier_text local)
local_plain local = octets_plain (to_be_bytes w32 local)

posted_plain : (answer : Posted) → IsInRange answer → IsOneLine (posted_text answer)
posted_plain (Opened local) is = behind 79 (identifier_text local) (omega arith) (local_plain local)
posted_plain (Accepted entries) is = behind 65 (decimal entries) (omega arith) (decimal_plain entries (omega (arith, is)))
posted_plain (Aborted c) is = behind 88 (decimal (cause_code c)) (omega arith) (decimal_plain (cause_code c) (small_cause c))
posted_plain Ended is = letter 69 (omega arith)
posted_plain Discarded is = letter 68 (omega arith)

given_plain : (given : Given) → IsCounted given → IsOneLine (given_text given)
given_plain (Queued count) is = behind 81 (decimal count) (omega arith) (decimal_plain count (omega (arith, is)))
given_plain (Dropped count) is = behind 68 (decimal count) (omega arith) (decimal_plain count (omega (arith, is)))
given_plain Silent is = letter 83 (omega arith)

answered_plain : (moment : ℕ) (message : List ℕ) (answer : Posted) → IsPosting moment message answer
    → AllByRecursion IsOneLine (encode_upper message ∷ posted_text answer ∷ [])
answered_plain moment message answer is = (octets_plain message, (posted_plain answer is.numbers, tt))

moment_plain : (moment : ℕ) (message : List ℕ) (answer : Posted) → IsPosting moment message answer → IsOneLine (decimal moment)
moment_plain moment message answer is = decimal_plain moment (omega (arith, is.in_time))

fields_plain : (step : LoggedStep) → IsStep step → AllByRecursion IsOneLine (fields_of step)
fields_plain (Post table moment message answer) is =
    (letter 80 (omega arith), (moment_plain moment message answer is.1, (decimal_plain table (omega (arith, is.0)), answered_plain moment message answer is.1)))
fields_plain (Lost moment message answer) is =
    (letter 76 (omega arith), (moment_plain moment message answer is, answered_plain moment message answer is))
fields_plain (Tick moment added wanting) is =
    (letter 75 (omega arith), (decimal_plain moment (omega (arith, is.0)), (decimal_plain added (omega (arith, is.1)), (decimal_plain wanting (omega (arith, is.2)), tt))))
fields_plain (Take birth position count) is =
    (letter 84 (omega arith), (decimal_plain birth is.0, (decimal_plain position is.1, (decimal_plain count (omega (arith, is.2)), tt))))
fields_plain (Give birth position served given) is =
    (letter 71 (omega arith), (decimal_plain birth is.0, (decimal_plain position is.1, (decimal_plain served (omega (arith, is.2)), (given_plain given is.3, tt)))))
fields_plain (PutBack birth position) is = (letter 66 (omega arith), (decimal_plain birth is.0, (decimal_plain position is.1, tt)))
fields_plain (Pick birth) is = (letter 81 (omega arith), (decimal_plain birth is, tt))
fields_plain (Sent birth) is = (letter 89 (omega arith), (decimal_plain birth is, tt))
fields_plain (Unsent birth) is = (letter 85 (omega arith), (decimal_plain birth is, tt))
fields_plain Down is = (letter 78 (omega arith), tt)
fields_plain (Gap lost) is = (letter 90 (omega arith), (decimal_plain lost is, tt))

-- fields with blanks between them
joined_plain : (fields : List (List ℕ)) → AllByRecursion IsOneLine fields → IsOneLine (join_with_byte 32 fields)
joined_plain [] all = All-nil (λ o. o ≢ 10)
joined_plain (field ∷ []) all = all.0
joined_plain (field ∷ (next ∷ fields)) all =
    All-append (λ o. o ≢ 10) field (32 ∷ join_with_byte 32 (next ∷ fields)) all.0
    (behind 32 (join_with_byte 32 (next ∷ fields)) (omega arith) (joined_plain (next ∷ fields) all.1))

name_plain : IsOneLine (codes "fplog")
name_plain =
    All-from_recursion (λ octet. octet ≡ 10 → ⊥) (codes "fplog") (λ e. omega arith, (λ e. omega arith, (λ e. omega arith, (λ e. omega arith, (λ e. omega arith, tt)))))

head_plain : (b : Bool) (links tag : ℕ) → IsLine (Head links tag)
    → AllByRecursion IsOneLine (cond b (codes "4" ∷ decimal links ∷ []) (codes "5" ∷ decimal links ∷ decimal tag ∷ []))
head_plain true links tag is = (letter 52 (omega arith), (decimal_plain links (omega (arith, is.1)), tt))
head_plain false links tag is =
    (letter 53 (omega arith), (decimal_plain links (omega (arith, is.1)), (decimal_plain tag (omega (arith, is.2)), tt)))

-- the text of a line has no line feed
pub text_one_line : (line : Line) → IsLine line → IsOneLine (text_of line)
text_one_line (Head links tag) is = joined_plain (codes "fplog" ∷ head_fields links tag) (name_plain, head_plain (eqb tag 0) links tag is)
text_one_line (Step link step) is = joined_plain (decimal link ∷ fields_of step) (decimal_plain link (omega (arith, is.0)), fields_plain step is.1)

-- HOW LONG IT IS

-- the room of fields, each with a blank
room : List (List ℕ) → ℕ
room [] = 0
room (field ∷ fields) = length field + (1 + room fields)

joined_short : (fields : List (List ℕ)) → length (join_with_byte 32 fields) ≤ room fields
unfolding room
joined_short [] = omega arith
joined_short (field ∷ []) = omega arith
joined_short (field ∷ (next ∷ fields)) =
    omega (arith, length-append field (32 ∷ join_with_byte 32 (next ∷ fields)), joined_short (next ∷ fields))

pub decimal_short : (n : ℕ) → n < 2 ^ 64 → length (decimal n) ≤ 20
decimal_short n fits = length-decimal-le 20 n (omega arith) (omega (arith, fits)) fits

local_length : (local : ℕ) → length (identifier_text local) ≡ 8
local_length local = length-encode_with upper_digits (to_be_bytes w32 local)

posted_short : (answer : Posted) → IsInRange answer → length (posted_text answer) ≤ 21
posted_short (Opened local) is = omega (arith, local_length local)
posted_short (Accepted entries) is = omega (arith, decimal_short entries (omega (arith, is)))
posted_short (Aborted c) is = omega (arith, decimal_short (cause_code c) (small_cause c))
posted_short _ is = omega arith

given_short : (given : Given) → IsCounted given → length (given_text given) ≤ 21
given_short (Queued count) is = omega (arith, decimal_short count (omega (arith, is)))
given_short (Dropped count) is = omega (arith, decimal_short count (omega (arith, is)))
given_short Silent is = omega arith

posting_short : (moment : ℕ) (message : List ℕ) (answer : Posted) → IsPosting moment message answer
    → length (decimal moment) + (length (encode_upper message) + length (posted_text answer)) ≤ 8240
posting_short moment message answer is =
    let n = is.in_time in let size = is.size in
    omega (arith, decimal_short moment (omega (arith, n)), length-encode_with upper_digits message, size.1, posted_short answer is.numbers)

fields_short : (step : LoggedStep) → IsStep step → room (fields_of step) ≤ 8270
unfolding room
fields_short (Post table moment message answer) is =
    omega (arith, posting_short moment message answer is.1, decimal_short table (omega (arith, is.0)))
fields_short (Lost moment message answer) is = omega (arith, posting_short moment message answer is)
fields_short (Tick moment added wanting) is =
    omega (arith, decimal_short moment (omega (arith, is.0)), decimal_short added (omega (arith, is.1)), decimal_short wanting (omega (arith, is.2)))
fields_short (Take birth position count) is = omega (arith, decimal_short birth is.0, decimal_short position is.1, decimal_short count (omega (arith, is.2)))
fields_short (Give birth position served given) is =
    omega (arith, decimal_short birth is.0, decimal_short position is.1, decimal_short served (omega (arith, is.2)), given_short given is.3)
fields_short (PutBack birth position) is = omega (arith, decimal_short birth is.0, decimal_short position is.1)
fields_short (Pick birth) is = omega (arith, decimal_short birth is)
fields_short (Sent birth) is = omega (arith, decimal_short birth is)
fields_short (Unsent birth) is = omega (arith, decimal_short birth is)
fields_short Down is = omega arith
fields_short (Gap lost) is = omega (arith, decimal_short lost is)

head_short : (b : Bool) (links tag : ℕ) → IsLine (Head links tag)
    → room (cond b (codes "4" ∷ decimal links ∷ []) (codes "5" ∷ decimal links ∷ decimal tag ∷ [])) ≤ 44
unfolding room
head_short true links tag is = omega (arith, decimal_short links (omega (arith, is.1)))
head_short false links tag is = omega (arith, decimal_short links (omega (arith, is.1)), decimal_short tag (omega (arith, is.2)))

-- the text of a line is no longer than a line may be
pub text_short : (line : Line) → IsLine line → length (text_of line) ≤ 8300
unfolding room
text_short (Head links tag) is = omega (arith, joined_short (codes "fplog" ∷ head_fields links tag), head_short (eqb tag 0) links tag is)
text_short (Step link step) is =
    omega (arith, joined_short (decimal link ∷ fields_of step), decimal_short link (omega (arith, is.0)), fields_short step is.1)
