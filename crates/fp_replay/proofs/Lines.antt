-- No two lines have one text.
use Rattle.std.proofs.Common.{◌≡◌, ℕ, ◌+◌, ◌^◌, ◌<◌, ◌≤◌, zero, suc, List, [], ◌∷◌, ◌++◌, codes, decimal, drop, length, refl, sym, ap, ◌∙◌, arith}
use Rattle.std.specs.Int.{w32, from_be_bytes, to_be_bytes}
use Rattle.std.proofs.lemmas.Fmt.{decimal_digit, decimal_injective}
use Rattle.std.proofs.lemmas.Nat.{from_be_bytes-to_be_bytes_4}
use Rattle.std.proofs.lemmas.List.Elements.{All-from_recursion}
use Rattle.hex.specs.Hex.{IsBytes, decode_of, encode_upper}
use Rattle.hex.proofs.HexLemmas.{decode_of-encode_upper, decode_of-same}
use Rattle.fp_q773.specs.ProviderAbort.{cause_code}
use Rattle.fp_q773.specs.declared.provider_abort.AbortCause.{AbortCause}
use Rattle.fp_q773.specs.declared.provider_abort.AbortCause.TheVariants as causes
use Rattle.fp_book.specs.declared.answers.Given.{Given}
use Rattle.fp_book.specs.declared.answers.Given.TheVariants.{Dropped, Queued, Silent}
use Rattle.fp_book.specs.declared.answers.Posted.{Posted}
use Rattle.fp_book.specs.declared.answers.Posted.TheVariants.{Aborted, Accepted, Discarded, Ended, Opened}
use Rattle.fp_book.specs.declared.line.Line.{Line}
use Rattle.fp_book.specs.declared.line.Line.TheVariants.{Head, Step}
use Rattle.fp_book.specs.declared.line.LoggedStep.{LoggedStep}
use Rattle.fp_book.specs.declared.line.LoggedStep.TheVariants as steps
use Rattle.fp_tids.specs.Identifiers.{last_tag}
use Rattle.fp_replay.specs.proof_only.Fields.{IsField}
use Rattle.fp_replay.specs.Format.{IsCounted, IsLine, IsInRange, IsPosting, IsStep, given_text, identifier_text, posted_text, text_of}
use Rattle.fp_replay.specs.proof_only.Reading.{step_text}
use Rattle.fp_replay.proofs.Cutting.{decimal_is_field, octets_are_field, one_cut, one_number}
use Rattle.fp_replay.proofs.Heads.{head_line, one_head, tagged_text}
use Rattle.fp_replay.proofs.Hexadecimal.{identifier_octets}
use Rattle.fp_replay.proofs.Letters.{first}

-- ONE FIELD

-- no two lists of octets have one text
one_message : (a b : List ℕ) → IsBytes a → IsBytes b → encode_upper a ≡ encode_upper b → a ≡ b
one_message a b p q e = decode_of-same (encode_upper a) a b (decode_of-encode_upper a p) (ap decode_of e ∙ decode_of-encode_upper b q)

-- no two identifiers have one text
one_identifier : (a b : ℕ) → a < 2 ^ 32 → b < 2 ^ 32 → identifier_text a ≡ identifier_text b → a ≡ b
one_identifier a b p q e =
    let octets = one_message (to_be_bytes w32 a) (to_be_bytes w32 b) (identifier_octets a) (identifier_octets b) e in
    sym (from_be_bytes-to_be_bytes_4 a p) ∙ ap (from_be_bytes w32) octets ∙ from_be_bytes-to_be_bytes_4 b q

-- the value of a cause is small, and no two causes have one
pub small_cause : (cause : AbortCause) → cause_code cause < 2 ^ 64
small_cause causes.UnrecognizedMessageType = omega arith
small_cause _ = omega arith

one_cause : (a b : AbortCause) → cause_code a ≡ cause_code b → a ≡ b
one_cause causes.UnrecognizedMessageType causes.UnrecognizedMessageType e = refl
one_cause causes.UnrecognizedTransactionIdentifier causes.UnrecognizedTransactionIdentifier e = refl
one_cause causes.BadlyFormattedTransactionPortion causes.BadlyFormattedTransactionPortion e = refl
one_cause causes.IncorrectTransactionPortion causes.IncorrectTransactionPortion e = refl
one_cause causes.ResourceLimitation causes.ResourceLimitation e = refl
one_cause _ _ e = absurd (omega (arith, e))

-- no two answers have one text
one_posted : (a b : Posted) → IsInRange a → IsInRange b → posted_text a ≡ posted_text b → a ≡ b
one_posted (Opened local) (Opened other) p q e = ap Opened (one_identifier local other p q (ap (drop 1) e))
one_posted (Accepted entries) (Accepted others) p q e = ap Accepted (decimal_injective entries others (omega arith) (omega arith) (ap (drop 1) e))
one_posted (Aborted a) (Aborted b) p q e = ap Aborted (one_cause a b (decimal_injective (cause_code a) (cause_code b) (small_cause a) (small_cause b) (ap (drop 1) e)))
one_posted Ended Ended p q e = refl
one_posted Discarded Discarded p q e = refl
one_posted _ _ p q e = absurd (omega (arith, ap first e))

-- nor have two answers to a turn
one_given : (a b : Given) → IsCounted a → IsCounted b → given_text a ≡ given_text b → a ≡ b
one_given (Queued m) (Queued n) p q e = ap Queued (decimal_injective m n (omega (arith, p)) (omega (arith, q)) (ap (drop 1) e))
one_given (Dropped m) (Dropped n) p q e = ap Dropped (decimal_injective m n (omega (arith, p)) (omega (arith, q)) (ap (drop 1) e))
one_given Silent Silent p q e = refl
one_given _ _ p q e = absurd (omega (arith, ap first e))

-- ONE STEP

-- a message and its answer
abbrev answered : List ℕ → Posted → List ℕ
answered message answer = encode_upper message ++ 32 ∷ posted_text answer

-- have one text
one_answered : (m n : ℕ) (s t : List ℕ) (a b : Posted) → IsPosting m s a → IsPosting n t b → answered s a ≡ answered t b → (s ≡ t) × (a ≡ b)
one_answered m n s t a b p q e =
    let parts = one_cut 32 (encode_upper s) (posted_text a) (encode_upper t) (posted_text b) (octets_are_field s) (octets_are_field t) e in
    (one_message s t p.octets q.octets parts.0, one_posted a b p.numbers q.numbers parts.1)

-- no two steps have one text
one_step : (a b : LoggedStep) → IsStep a → IsStep b → step_text a ≡ step_text b → a ≡ b
one_step (steps.Post i m s a) (steps.Post j n t b) p q e =
    let moments = one_number m n (decimal i ++ 32 ∷ answered s a) (decimal j ++ 32 ∷ answered t b) (omega (arith, p.1.in_time)) (omega (arith, q.1.in_time)) (ap (drop 2) e) in
    let tables = one_number i j (answered s a) (answered t b) (omega (arith, p.0)) (omega (arith, q.0)) moments.1 in
    let same = one_answered m n s t a b p.1 q.1 tables.1 in
    λ k. steps.Post (tables.0 k) (moments.0 k) (same.0 k) (same.1 k)
one_step (steps.Lost m s a) (steps.Lost n t b) p q e =
    let moments = one_number m n (answered s a) (answered t b) (omega (arith, p.in_time)) (omega (arith, q.in_time)) (ap (drop 2) e) in
    let same = one_answered m n s t a b p q moments.1 in
    λ k. steps.Lost (moments.0 k) (same.0 k) (same.1 k)
one_step (steps.Tick m a v) (steps.Tick n b w) p q e =
    let moments = one_number m n (decimal a ++ 32 ∷ decimal v) (decimal b ++ 32 ∷ decimal w) (omega (arith, p.0)) (omega (arith, q.0)) (ap (drop 2) e) in
    let counts = one_number a b (decimal v) (decimal w) (omega (arith, p.1)) (omega (arith, q.1)) moments.1 in
    let left = decimal_injective v w (omega (arith, p.2)) (omega (arith, q.2)) counts.1 in
    cc (moments.0, counts.0, left)
one_step (steps.Take l i x) (steps.Take m j y) p q e =
    let births = one_number l m (decimal i ++ 32 ∷ decimal x) (decimal j ++ 32 ∷ decimal y) p.0 q.0 (ap (drop 2) e) in
    let places = one_number i j (decimal x) (decimal y) p.1 q.1 births.1 in
    cc (births.0, places.0, decimal_injective x y (omega (arith, p.2)) (omega (arith, q.2)) places.1)
one_step (steps.Give l i x a) (steps.Give m j y b) p q e =
    let births = one_number l m (decimal i ++ 32 ∷ (decimal x ++ 32 ∷ given_text a)) (decimal j ++ 32 ∷ (decimal y ++ 32 ∷ given_text b)) p.0 q.0 (ap (drop 2) e) in
    let places = one_number i j (decimal x ++ 32 ∷ given_text a) (decimal y ++ 32 ∷ given_text b) p.1 q.1 births.1 in
    let counts = one_number x y (given_text a) (given_text b) (omega (arith, p.2)) (omega (arith, q.2)) places.1 in
    cc (births.0, places.0, counts.0, one_given a b p.3 q.3 counts.1)
one_step (steps.PutBack l i) (steps.PutBack m j) p q e =
    let births = one_number l m (decimal i) (decimal j) p.0 q.0 (ap (drop 2) e) in
    cc (births.0, decimal_injective i j p.1 q.1 births.1)
one_step (steps.Pick l) (steps.Pick m) p q e = ap steps.Pick (decimal_injective l m p q (ap (drop 2) e))
one_step (steps.Sent l) (steps.Sent m) p q e = ap steps.Sent (decimal_injective l m p q (ap (drop 2) e))
one_step (steps.Unsent l) (steps.Unsent m) p q e = ap steps.Unsent (decimal_injective l m p q (ap (drop 2) e))
one_step steps.Down steps.Down p q e = refl
one_step (steps.Gap m) (steps.Gap n) p q e = ap steps.Gap (decimal_injective m n p q (ap (drop 2) e))
one_step _ _ p q e = absurd (omega (arith, ap first e))

-- ONE LINE

-- the text of a step begins with its link
pub step_line : (link : ℕ) (step : LoggedStep) → text_of (Step link step) ≡ decimal link ++ 32 ∷ step_text step
step_line link steps.Down = refl
step_line link _ = refl

-- and so with a digit, and not with the letter that a head begins with
no_name : (link : ℕ) (step : LoggedStep) → link < 8 → 102 ≡ first (text_of (Step link step)) → ⊥
no_name link step small e =
    let line = step_line link step in
    let digit = decimal_digit link (omega arith) in
    let begins : first (text_of (Step link step)) ≡ 48 + link = rw (line, digit) refl in
    omega (arith, e, begins)

begins : (links tag : ℕ) → 102 ≡ first (text_of (Head links tag))
begins links tag = sym (ap first (head_line links tag))

-- no two lines have one text
pub one_line : (a b : Line) → IsLine a → IsLine b → text_of a ≡ text_of b → a ≡ b
one_line (Head m a) (Head n b) p q e = one_head m n a b p q e
one_line (Head m a) (Step link step) p q e = absurd (no_name link step q.0 (begins m a ∙ ap first e))
one_line (Step link step) (Head n b) p q e = absurd (no_name link step p.0 (begins n b ∙ sym (ap first e)))
one_line (Step l a) (Step m b) p q e =
    let parts = one_number l m (step_text a) (step_text b) (omega (arith, p.0)) (omega (arith, q.0)) (sym (step_line l a) ∙ e ∙ step_line m b) in
    cc (parts.0, one_step a b p.1 q.1 parts.1)

-- the name of the format is a field, and so is the version
name_is_field : IsField (codes "fplog")
name_is_field =
    All-from_recursion (λ octet. octet ≡ 32 → ⊥) (codes "fplog") (λ e. omega arith, (λ e. omega arith, (λ e. omega arith, (λ e. omega arith, (λ e. omega arith, tt)))))

version_is_field : (version : ℕ) → 32 < version → IsField (version ∷ [])
version_is_field version above = All-from_recursion (λ octet. octet ≡ 32 → ⊥) (version ∷ []) (λ e. omega (arith, e, above), tt)

-- after the name of the format and a blank, by what is known of a version and of what comes after that
module _ (text : List ℕ) (T : Line → Type 0) where
  pub head_only : {P : List ℕ → List ℕ → Type 0}
      → ((a b : List ℕ) → IsField a → text ≡ a ++ 32 ∷ b → P a b)
      → ((links : ℕ) → 1 ≤ links → links ≤ 8 → P (codes "4") (decimal links) → T (Head links 0))
      → ((links tag : ℕ) → 1 ≤ links → links ≤ 8 → 1 ≤ tag → tag ≤ last_tag → P (codes "5") (decimal links ++ 32 ∷ decimal tag) → T (Head links tag))
      → (line : Line) → IsLine line → codes "fplog " ++ text ≡ text_of line → T line
  head_only cut untagged tagged (Head links zero) fits e =
      untagged links fits.0 fits.1 (cut (codes "4") (decimal links) (version_is_field 52 (omega arith)) (ap (drop 6) e))
  head_only cut untagged tagged (Head links (suc tag)) fits e =
      tagged links (suc tag) fits.0 fits.1 (omega arith) fits.2
      (cut (codes "5") (decimal links ++ 32 ∷ decimal (suc tag)) (version_is_field 53 (omega arith)) (ap (drop 6) (e ∙ tagged_text links (suc tag) (omega arith))))
  head_only cut untagged tagged (Step link step) fits e = absurd (no_name link step fits.0 (ap first e))

-- a line has a blank
pub line_is_cut : (line : Line) → IsLine line → (a : List ℕ) × (b : List ℕ) × IsField a × (text_of line ≡ a ++ 32 ∷ b)
line_is_cut (Head links tag) fits = (codes "fplog", _, name_is_field, head_line links tag)
line_is_cut (Step link step) fits = (decimal link, step_text step, decimal_is_field link (omega (arith, fits.0)), step_line link step)

-- before the first blank stands the name of the format, or the link of a step
pub line_told : (text front behind : List ℕ) (line : Line) → IsLine line → text ≡ text_of line
    → ((a b : List ℕ) → IsField a → text ≡ a ++ 32 ∷ b → (front ≡ a) × (behind ≡ b)) → (front ≡ codes "fplog" → ⊥)
    → (link : ℕ) × (step : LoggedStep) × (line ≡ Step link step) × (front ≡ decimal link) × (behind ≡ step_text step)
line_told text front behind (Head links tag) fits e cut other = absurd (other (cut (codes "fplog") _ name_is_field (e ∙ head_line links tag)).0)
line_told text front behind (Step link step) fits e cut other =
    let parts = cut (decimal link) (step_text step) (decimal_is_field link (omega (arith, fits.0))) (e ∙ step_line link step) in
    (link, step, refl, parts.0, parts.1)

-- a step has a text
pub step_has_text : (step : LoggedStep) → length (step_text step) ≡ 0 → ⊥
step_has_text steps.Down e = omega arith
step_has_text _ e = omega arith
