-- The stream to which a message of IPA belongs, one octet.
use Rattle.std.specs.Prelude.{◌≡◌, ℕ, ◌==◌, if◌then◌else◌}
use Rattle.fp_ipa.specs.declared.stream_identifier.StreamIdentifier.{StreamIdentifier}
use Rattle.fp_ipa.specs.declared.stream_identifier.StreamIdentifier.TheVariants.{ConnectionManagement, Sccp, Other}

-- the stream with a code
abbrev pub stream_of : ℕ → StreamIdentifier
stream_of code = if code == 254 then ConnectionManagement else if code == 253 then Sccp else Other code

-- the code of a stream
abbrev pub stream_code : StreamIdentifier → ℕ
stream_code ConnectionManagement = 254
stream_code Sccp = 253
stream_code (Other code) = code

-- a stream whose code has a name goes by it: `Other` is a stream whose code has none
abbrev pub IsByName : StreamIdentifier → Type 0
IsByName stream = stream_of (stream_code stream) ≡ stream
