-- What stands behind a tag.
use Rattle.std.specs.Prelude.{◌≡◌, ℕ, ◌<◌, Bool, true, List, ◌∷◌, ◌++◌, length, ◌⊎◌}
use Rattle.fp_ber.specs.declared.length.Extent.{Extent}
use Rattle.fp_ber.specs.declared.length.Extent.TheVariants.{Definite, Indefinite}
use Rattle.fp_ber.specs.declared.fault.BerFault.{BerFault}
use Rattle.fp_ber.specs.declared.fault.BerFault.TheVariants.{Cut}
use Rattle.fp_ber.specs.Spelling.{BeginsLength}
use Rattle.fp_ber.specs.Faults.{LengthFault}

abbrev pub IsExtent : List ℕ → Bool → Extent → Type 0
IsExtent octets form (Definite contents rest) = BeginsLength octets (length contents.now) (contents.now ++ rest.now)
IsExtent octets form (Indefinite rest) = (form ≡ true) × (octets ≡ 0x80 ∷ rest.now)

abbrev pub ExtentFault : Bool → List ℕ → BerFault → Type 0
ExtentFault form octets fault =
    LengthFault form octets fault
    ⊎ ((n : ℕ) × (rest : List ℕ) × BeginsLength octets n rest × (length rest < n) × (fault ≡ Cut))
