-- Decimal digits as one number, which is in the order of the digits.
use Rattle.std.specs.Prelude.{◌≡◌, ℕ, zero, suc, ◌+◌, ◌-◌, ◌*◌, ◌/◌, ◌%◌, ◌^◌, ◌<◌, ◌==◌, List, [], ◌∷◌, if◌then◌else◌}
use Rattle.std.proofs.Common.{ap, ◌∙◌}
use Rattle.std.proofs.lemmas.Nat.{div-mul-add, mod-mul-add}

-- the code of digits in this number of places of four bits: one more than each digit, the first one in the highest
-- place, and 0 after the last one
unfoldable pub code_of : ℕ → List ℕ → ℕ
code_of zero digits = 0
code_of (suc places) [] = 0
code_of (suc places) (digit ∷ digits) = (digit + 1) * 16 ^ places + code_of places digits

-- the digits of a code
unfoldable pub digits_of_code : ℕ → ℕ → List ℕ
digits_of_code zero code = []
digits_of_code (suc places) code =
    if code / 16 ^ places == 0 then [] else (code / 16 ^ places - 1) ∷ digits_of_code places (code % 16 ^ places)

-- decimal digits, at most as many as there are places
unfoldable pub AreDigits : ℕ → List ℕ → Type 0
AreDigits places [] = Unit {0}
AreDigits zero (digit ∷ digits) = ⊥
AreDigits (suc places) (digit ∷ digits) = (digit < 10) × AreDigits places digits

-- the code of at most 15 decimal digits
pub record IsCode (code : ℕ) : Type 0 where
  pub exact : code_of 15 (digits_of_code 15 code) ≡ code
  pub digits : AreDigits 15 (digits_of_code 15 code)

-- the number of two halves of 32 bits
abbrev pub whole : ℕ → ℕ → ℕ
whole high low = high * 4294967296 + low

-- the code of at most 15 decimal digits, in halves
pub record IsHalved (high low : ℕ) : Type 0 where
  pub fits : low < 4294967296
  pub code : IsCode (whole high low)

-- the halves come back
pub low-again : (high low : ℕ) → IsHalved high low → code_of 15 (digits_of_code 15 (whole high low)) % 4294967296 ≡ low
low-again high low is = ap (λ code. code % 4294967296) is.code.exact ∙ mod-mul-add high 4294967296 low is.fits

pub high-again : (high low : ℕ) → IsHalved high low → code_of 15 (digits_of_code 15 (whole high low)) / 4294967296 ≡ high
high-again high low is = ap (λ code. code / 4294967296) is.code.exact ∙ div-mul-add high 4294967296 low is.fits
