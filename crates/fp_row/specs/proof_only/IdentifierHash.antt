-- The hash of a local identifier.
use Rattle.std.specs.Prelude.{ℕ, ◌+◌, ◌*◌, ◌/◌, ◌%◌, ◌^◌, List, length, if◌then◌else◌, nat_le, slice_index}

-- the identifier of which four octets were written, the lowest first; fewer change nothing
abbrev pub written : ℕ → List ℕ → ℕ
written identifier octets =
    if nat_le 4 (length octets)
    then slice_index octets 0 + slice_index octets 1 * 256 + slice_index octets 2 * 65536 + slice_index octets 3 * 16777216
    else identifier

-- the identifier, and above its 32 bits and 24 others an octet that depends on all of them
abbrev pub hash_of : ℕ → ℕ
hash_of identifier = identifier + identifier * 2654435769 % 2 ^ 32 / 2 ^ 24 * 2 ^ 56
