-- What a read takes of the records that a reader has left.
use Rattle.std.proofs.Common.{◌≡◌, ◌+◌, ◌<◌, ◌≤◌, ℕ, zero, suc, List, [], ◌∷◌, length, Bool, true, false, Some, None, refl, arith, if◌then◌else◌, ◌==◌, ◌&&◌, ◌++◌, sym, ap, ◌∙◌, Option, inl, Bor, add-one}
use Rattle.csv.specs.Machine.{Read, after_end, ends_at_end, ends_with, field_after, fields_after, in_field, is_byte, is_end, next_record, start_field, start_record, step}
use Rattle.csv.specs.Reading.{Reached, ReadRecord, default_config, is_bom, records_from, records_next, strip_bom}
use Rattle.csv.specs.declared.reader.Reader.{Reader}
use Rattle.csv.proofs.ReadFacts.{rows-end, rows-more}
use Rattle.fp_records.specs.Unread.{IsBetween, octets_left, rows_from, rows_left}
use Rattle.csv.specs.declared.parser.Config.{Config}
use Rattle.csv.specs.declared.parser.State.{State}
use Rattle.csv.specs.declared.parser.State.TheVariants as st
use Rattle.csv.specs.declared.parser.Action.{Action}
use Rattle.csv.specs.declared.parser.Terminator.{Terminator}
use Rattle.csv.specs.declared.parser.Terminator.TheVariants as term

-- the state after a record is outside of a record
abbrev EndsOutside : State × Action → Type 0
EndsOutside p = is_end p.1 ≡ true → ends_at_end p.0 ≡ false

-- so it is after the end of a line
outside-after_end : (t : Terminator) (c : ℕ) → ends_at_end (after_end t c) ≡ false
outside-after_end term.CRLF c = by (c == 13)
  where
    by : (b : Bool) → ends_at_end (if b then st.AfterCr else st.StartRecord) ≡ false
    by true = refl
    by false = refl
outside-after_end (term.Any t) c = refl

-- and whichever of two steps is taken
outside-if : (b : Bool) (p q : State × Action) → EndsOutside p → EndsOutside q → EndsOutside (if b then p else q)
outside-if true p q h k = h
outside-if false p q h k = k

-- and after an octet in a field, at its start or at the start of a record
outside-in_field : (cfg : Config) (c : ℕ) → EndsOutside (in_field cfg c)
outside-in_field cfg c =
    outside-if (c == cfg.delimiter) _ _ (λ e. cc) (outside-if (ends_with cfg.terminator c) _ _ (λ e. outside-after_end cfg.terminator c) (λ e. cc))

outside-start_field : (cfg : Config) (c : ℕ) → EndsOutside (start_field cfg c)
outside-start_field cfg c = outside-if (cfg.quoting && (c == cfg.quote)) _ _ (λ e. cc) (outside-in_field cfg c)

outside-start_record : (cfg : Config) (c : ℕ) → EndsOutside (start_record cfg c)
outside-start_record cfg c =
    outside-if (ends_with cfg.terminator c) _ _ (λ e. cc) (outside-if (is_byte cfg.comment c) _ _ (λ e. cc) (outside-start_field cfg c))

-- and after any octet
outside-step : (cfg : Config) (s : State) (c : ℕ) → EndsOutside (step cfg s c)
outside-step cfg st.StartRecord c = outside-start_record cfg c
outside-step cfg st.StartField c = outside-start_field cfg c
outside-step cfg st.InField c = outside-in_field cfg c
outside-step cfg st.InQuoted c =
    outside-if (cfg.quoting && (c == cfg.quote)) _ _ (λ e. cc) (outside-if (cfg.quoting && is_byte cfg.escape c) _ _ (λ e. cc) (λ e. cc))
outside-step cfg st.InEscape c = λ e. cc
outside-step cfg st.AfterQuote c =
    outside-if (cfg.quoting && cfg.double_quote && (c == cfg.quote)) _ _ (λ e. cc) (outside-in_field cfg c)
outside-step cfg st.InComment c = outside-if (c == 10) _ _ (λ e. cc) (λ e. cc)
outside-step cfg st.AfterCr c = outside-if (c == 10) _ _ (λ e. cc) (outside-start_record cfg c)

-- what reading a record leaves: less of the text, and a state outside of a record
record Shrinks (s : State) (xs : List ℕ) (p : Read) : Type 0 where
  no_more : length p.2 ≤ length xs
  less : ends_at_end s ≡ false → length p.2 < length xs
  outside : ends_at_end p.1 ≡ false

-- each record that is read shrinks the text
shrinks-next_record : (cfg : Config) (s : State) (fields : List (List ℕ)) (field xs : List ℕ) (p : Read) → next_record cfg s fields field xs ≡ Some p → Shrinks s xs p
unfolding next_record
shrinks-next_record cfg s fields field [] p h = by (ends_at_end s) refl h
  where
    by : (b : Bool) → ends_at_end s ≡ b → (if b then Some ((fields ++ (field ∷ []), st.StartRecord, [])) else None) ≡ Some p → Shrinks s [] p
    by true e q =
        let is : p ≡ (fields ++ (field ∷ []), st.StartRecord, []) = cc in
        rw is (record { no_more = omega arith; less = λ f. cc (e, f); outside = refl })
    by false e q = cc q
shrinks-next_record cfg s fields field (c ∷ rest) p h = by (is_end (step cfg s c).1) refl h (shrinks-next_record cfg (step cfg s c).0 _ _ rest p)
  where
    by : (b : Bool) → is_end (step cfg s c).1 ≡ b
        → (if b then Some (fields_after (step cfg s c).1 fields field, (step cfg s c).0, rest) else next_record cfg (step cfg s c).0 (fields_after (step cfg s c).1 fields field) (field_after (step cfg s c).1 c field) rest) ≡ Some p
        → (next_record cfg (step cfg s c).0 (fields_after (step cfg s c).1 fields field) (field_after (step cfg s c).1 c field) rest ≡ Some p → Shrinks (step cfg s c).0 rest p)
        → Shrinks s (c ∷ rest) p
    by true e q later =
        let is : p ≡ (fields_after (step cfg s c).1 fields field, (step cfg s c).0, rest) = cc in
        rw is (record { no_more = omega arith; less = λ _. omega arith; outside = outside-step cfg s c e })
    by false e q later =
        let more = later q in
        record { no_more = omega (arith, more.no_more); less = λ _. omega (arith, more.no_more); outside = more.outside }

-- turns enough find all records
records-enough : (cfg : Config) (n m : ℕ) (s : State) (xs : List ℕ) → ends_at_end s ≡ false → length xs < n → length xs < m → records_from cfg n s xs ≡ records_from cfg m s xs
unfolding records_from
records-enough cfg zero m s xs out some more = absurd (omega arith)
records-enough cfg (suc n) zero s xs out some more = absurd (omega arith)
records-enough cfg (suc n) (suc m) s xs out some more =
    by (next_record cfg s [] [] xs) refl (λ t ys outside less_n less_m. records-enough cfg n m t ys outside less_n less_m)
  where
    by : (read : Option Read) → next_record cfg s [] [] xs ≡ read
        → ((t : State) (ys : List ℕ) → ends_at_end t ≡ false → length ys < n → length ys < m → records_from cfg n t ys ≡ records_from cfg m t ys)
        → records_next (records_from cfg n) read ≡ records_next (records_from cfg m) read
    by None is enough = refl
    by (Some p) is enough =
        let one = shrinks-next_record cfg s [] [] xs p is in
        let less = one.less out in
        ap (λ rows. p.0 ∷ rows) (enough p.1 p.2 one.outside (omega (arith, less)) (omega (arith, less)))

pub rows_from-next : (s : State) (xs : List ℕ) (p : Read) → ends_at_end s ≡ false → next_record default_config s [] [] xs ≡ Some p → rows_from s xs ≡ p.0 ∷ rows_from p.1 p.2
unfolding records_from
rows_from-next s xs p out is =
    let one = shrinks-next_record default_config s [] [] xs p is in
    let less = one.less out in
    rw (add-one (length xs), is) (ap (λ rows. p.0 ∷ rows) (records-enough default_config (length xs) (length p.2 + 1) p.1 p.2 one.outside less (omega arith)))

pub rows_from-end : (s : State) (xs : List ℕ) → next_record default_config s [] [] xs ≡ None → rows_from s xs ≡ []
unfolding records_from
rows_from-end s xs is = rw (add-one (length xs), is) refl

-- a read that finds a record takes the next of the records that are left
pub read-next : (a b : Reader (Bor (List ℕ))) (fields : List (List ℕ)) (place : ℕ) → IsBetween a place → ReadRecord (λ text. Some text.now) a b true fields → b.first ≡ true
    → (rows_left false a ≡ fields ∷ rows_left false b) × IsBetween b (place + 1)
unfolding Reached
read-next a b fields place at r first =
    let m = rows-more (λ (text : Bor (List ℕ)). Some text.now) a b fields default_config a.state (octets_left a) (octets_left a) [] at.config at.source (refl, refl) r in
    let p = m.2.0 in
    let rest : octets_left b ≡ m.0 = rw m.1 refl in
    let one = shrinks-next_record default_config a.state [] [] (octets_left a) p m.2.1 in
    let less = one.less at.outside in
    let same : length p.2 ≡ length (octets_left b) = ap length (m.2.3.1 ∙ sym rest) in (
      rw (rows_from-next a.state (octets_left a) p at.outside m.2.1, ← m.2.2, m.2.3.0, m.2.3.1, rest) refl,
      record {
        trim = r.3 ∙ at.trim;
        ready = inl first;
        config = r.2 ∙ at.config;
        outside = rw (← m.2.3.0) one.outside;
        source = m.1 ∙ ap Some (sym rest);
        size = omega (arith, at.size, less, same);
      },
    )

-- a read that finds none ends the records
pub read-none : (a b : Reader (Bor (List ℕ))) (fields : List (List ℕ)) (place : ℕ) → IsBetween a place → ReadRecord (λ text. Some text.now) a b false fields → rows_left false a ≡ []
read-none a b fields place at r =
    rows_from-end a.state (octets_left a) (rows-end (λ (text : Bor (List ℕ)). Some text.now) a b fields default_config (octets_left a) at.config at.source r)

-- a text without its mark is no longer than with it
pub strip_bom-length : (xs : List ℕ) → length (strip_bom xs) ≤ length xs
unfolding strip_bom
strip_bom-length [] = omega arith
strip_bom-length (a ∷ []) = omega arith
strip_bom-length (a ∷ b ∷ []) = omega arith
strip_bom-length (a ∷ b ∷ c ∷ rest) = by (is_bom a b c)
  where
    by : (mark : Bool) → length (if mark then rest else a ∷ b ∷ c ∷ rest) ≤ length (a ∷ b ∷ c ∷ rest)
    by true = omega arith
    by false = omega arith
