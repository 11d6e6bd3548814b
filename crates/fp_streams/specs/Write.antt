-- What a write that ended early has written.
use Rattle.std.specs.Prelude.{◌≡◌, ℕ, ◌<◌, Option, List, ◌++◌, length}
use Rattle.std.specs.Io.KnownBytes.{Appends}

-- known octets grow by a prefix of these
pub record AppendsFront (old new : Option (List ℕ)) (octets : List ℕ) : Type 0 where
  pub front : List ℕ
  pub rest : List ℕ
  pub wrote : Appends old new front
  pub whole : front ++ rest ≡ octets

-- known octets grow by a prefix of these, and not by all of them
pub record AppendsPart (old new : Option (List ℕ)) (octets : List ℕ) : Type 0 where
  pub front : List ℕ
  pub rest : List ℕ
  pub wrote : Appends old new front
  pub whole : front ++ rest ≡ octets
  pub missing : 0 < length rest
