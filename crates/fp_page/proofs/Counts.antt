-- What had been counted when a period began, once a note came.
use Rattle.std.proofs.Common.{◌≡◌, ℕ, zero, suc, ◌+◌, ◌-◌, ◌/◌, ◌<◌, ◌≤◌, List, [], ◌∷◌, cond, ltb, get_or, inl, inr, refl, sym, ap, ◌∙◌, arith, lt-ltb, le-ltb, lt_of_lt_of_le, le_trans, zero-le}
use Rattle.std.proofs.Math.Nat.{div-mul-le_self}
use Rattle.std.proofs.lemmas.Bool.{cases_lt}
use Rattle.std.proofs.lemmas.Nat.{le-div}
use Rattle.fp_page.specs.Spans.{IsNext, Note, newest, total_at}

-- from the period after the newest note on it is the same
beyond : (width : ℕ) (notes : List Note) (a b : ℕ) → newest width notes < a → a ≤ b
    → total_at width notes a ≡ total_at width notes b
beyond width [] a b before h = refl
beyond width (note ∷ earlier) a b before h =
    rw (lt-ltb (note.time / width) a before, lt-ltb (note.time / width) b (lt_of_lt_of_le before h)) refl

-- a note that comes after all isn't of an earlier period
pub later : (width time : ℕ) (notes : List Note) → 0 < width → IsNext time notes → newest width notes ≤ time / width
later width time [] some next = zero-le
later width time (note ∷ earlier) some next =
    le-div (note.time / width) time width some (le_trans (div-mul-le_self note.time width) next)

-- what is known of the places of a span before a note, once they were moved, and with the note
pub record Moved (width count period passed places : ℕ) (notes : List Note) (old mid new : List ℕ) (total : ℕ) : Type 0 where
  pub shown : (k : ℕ) → k < count → get_or old k 0 ≡ total_at width notes (period + 1 - k)
  pub moved : (k : ℕ) → k < count → get_or mid k 0 ≡ cond (ltb k places) (get_or old 0 0) (get_or old (k - places) 0)
  pub first : get_or new 0 0 ≡ total
  pub others : (k : ℕ) → 0 < k → get_or new k 0 ≡ get_or mid k 0
  pub newest_is : newest width notes ≡ period
  pub few : places ≤ passed
  pub all : (k : ℕ) → places ≤ k → k < count → places ≡ passed

-- then they show it
pub noted : (width count period passed places time total : ℕ) (notes : List Note) (old mid new : List ℕ)
    → Moved width count period passed places notes old mid new total → time / width ≡ period + passed
    → (k : ℕ) → k < count → get_or new k 0 ≡ total_at width (record { time = time; total = total } ∷ notes) (period + passed + 1 - k)
noted width count period passed places time total notes old mid new m at zero below =
    m.first ∙ sym (rw (at, lt-ltb (period + passed) (period + passed + 1 - 0) (omega arith)) refl)
noted width count period passed places time total notes old mid new m at (suc k) below =
    let with_note : total_at width (record { time = time; total = total } ∷ notes) (period + passed + 1 - suc k)
    ≡ total_at width notes (period + passed + 1 - suc k)
    = rw (at, le-ltb (period + passed) (period + passed + 1 - suc k) (omega arith)) refl in
    m.others (suc k) (omega arith) ∙ m.moved (suc k) below ∙ elim (cases_lt (suc k) places) [
      | inl within ↦
          rw (lt-ltb (suc k) places within) (m.shown 0 (omega arith)
          ∙ beyond width notes (period + 1 - 0) (period + passed + 1 - suc k) (omega (arith, m.newest_is)) (omega (arith, m.few)))
      | inr beyond_them ↦
          let same : period + 1 - (suc k - places) ≡ period + passed + 1 - suc k = omega (arith, m.all (suc k) beyond_them below) in
          rw (le-ltb (suc k) places beyond_them) (m.shown (suc k - places) (omega arith) ∙ ap (λ p. total_at width notes p) same)
    ] ∙ sym with_note
