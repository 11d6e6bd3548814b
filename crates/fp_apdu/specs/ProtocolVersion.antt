-- The protocol version of AARQ and AARE (Q.773, 4.2.3): tag 80, a bit string whose first bit is version 1. An AARQ
-- without it has the default, version 1.
use Rattle.std.specs.Prelude.{ℕ, List, [], ◌∷◌, Some, None, ⊤}
use Rattle.std.specs.declared.option.Option.{Option}
use Rattle.fp_ber.specs.declared.element.Class.TheVariants.{Context}
use Rattle.fp_ber.specs.Tree.{Tree, primitive}
use Rattle.fp_apdu.specs.BitString.{HasFirstBit}

abbrev pub protocol_version : List ℕ → Tree
protocol_version octets = primitive Context 0 octets

-- version 1 is offered, by the bit string or by its absence
abbrev pub OffersVersion1 : Option (List ℕ) → Type 0
OffersVersion1 None = ⊤
OffersVersion1 (Some octets) = HasFirstBit octets

-- the bit string of one bit, which is set: seven bits of the last octet are unused
abbrev pub version_1 : List ℕ
version_1 = 7 ∷ 0x80 ∷ []
