-- The contents octets that an integer is written with (X.690, 8.3): a two's complement number in as few octets as it
-- takes, so that its first nine bits are not all equal.
use Rattle.std.specs.Prelude.{ℕ, ◌-◌, ◌*◌, ◌^◌, ℤ, pos, neg_ℤ, Bool, ◌&&◌, List, int_le, int_lt, unsigned_abs, if◌then◌else◌}
use Rattle.std.specs.Int.{int_rem_euclid, bytes_high_first}

-- the number lies between -2^(8n-1) and 2^(8n-1) - 1, where n octets say it
abbrev pub is_within : ℕ → ℤ → Bool
is_within n number = int_le (neg_ℤ (pos (2 ^ (8 * n - 1)))) number && int_lt number (pos (2 ^ (8 * n - 1)))

-- n octets: the number modulo 256^n to the base 256, the most significant octet first
abbrev pub octets_in : ℕ → ℤ → List ℕ
octets_in n number = bytes_high_first n (unsigned_abs (int_rem_euclid number (pos (256 ^ n))))

-- the least number of octets that say a number, where four do
abbrev pub least_count : ℤ → ℕ
least_count number =
    if is_within 1 number then 1
    else if is_within 2 number then 2
    else if is_within 3 number then 3
    else 4

-- as few octets as the number takes
abbrev pub least_octets : ℤ → List ℕ
least_octets number = octets_in (least_count number) number
