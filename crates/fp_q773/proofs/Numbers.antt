-- Numbers and the identifiers of four octets.
use Rattle.std.proofs.Common.{◌≡◌, ℕ, ◌+◌, ◌*◌, ◌/◌, ◌%◌, ◌<◌, [], ◌∷◌, refl, arith}
use Rattle.fp_q773.specs.Tid.{octets_of_number}
use Rattle.fp_q773.specs.Laws.{FourOctetsAreANumber}

-- the octets of the number that four octets are
pub octets_again : (n a b c d : ℕ) → n ≡ 16777216 * a + 65536 * b + 256 * c + d → a < 256 → b < 256 → c < 256 → d < 256
    → octets_of_number n ≡ a ∷ b ∷ c ∷ d ∷ []
octets_again n a b c d is ha hb hc hd =
    let one : n / 16777216 % 256 ≡ a = omega arith in
    let two : n / 65536 % 256 ≡ b = omega arith in
    let three : n / 256 % 256 ≡ c = omega arith in
    let four : n % 256 ≡ d = omega arith in cc

pub four_octets_are_a_number : FourOctetsAreANumber
four_octets_are_a_number [] is all = absurd (omega arith)
four_octets_are_a_number (a ∷ []) is all = absurd (omega arith)
four_octets_are_a_number (a ∷ b ∷ []) is all = absurd (omega arith)
four_octets_are_a_number (a ∷ b ∷ c ∷ []) is all = absurd (omega arith)
four_octets_are_a_number (a ∷ b ∷ c ∷ d ∷ []) is all =
    let ha : a < 256 = all 0 0 (omega arith) in
    let hb : b < 256 = all 1 0 (omega arith) in
    let hc : c < 256 = all 2 0 (omega arith) in
    let hd : d < 256 = all 3 0 (omega arith) in
    (16777216 * a + 65536 * b + 256 * c + d, omega arith, octets_again _ a b c d refl ha hb hc hd)
four_octets_are_a_number (a ∷ b ∷ c ∷ d ∷ e ∷ others) is all = absurd (omega arith)
