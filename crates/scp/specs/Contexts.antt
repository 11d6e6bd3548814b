-- The list of application context names of a command line.
use Rattle.std.specs.Prelude.{◌≡◌, ℕ, ◌≤◌, List, length, Option, MatchOption, Ok}
use Rattle.std.specs.List.{AllZip, join_with_byte}
use Rattle.hex.specs.Hex.{decode_of}
use Rattle.fp_apdu.specs.Name.{IsName}

-- the text is the hexadecimal text, in digits of either case, of a name of 1 to 64 octets
abbrev pub IsNameText : List ℕ → List ℕ → Type 0
IsNameText text name = (decode_of text ≡ Ok name) × IsName name

-- the text is a list of these names, 1 to 16 of them: their texts, with a comma (44) between each two
pub record IsContexts (text : List ℕ) (names : List (List ℕ)) : Type 0 where
  pub texts : List (List ℕ)
  pub joined : text ≡ join_with_byte 44 texts
  pub each : AllZip IsNameText texts names
  pub least : 1 ≤ length names
  pub most : length names ≤ 16

-- the names that were found are those of the text; where none were found, it is a list of no names
abbrev pub FindsContexts : List ℕ → Option (List (List ℕ)) → Type 0
FindsContexts text found =
    MatchOption found ((names : List (List ℕ)) → IsContexts text names → ⊥) (λ names. IsContexts text names)
