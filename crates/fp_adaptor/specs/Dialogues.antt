-- The open dialogues of a link (Q.771, 3.1.2; Q.774, 3.2): the exchange's identifier of each, as a function of the
-- link's own. A dialogue is open from the Continue by which the link first says its identifier to the end of it.
use Rattle.std.specs.Prelude.{◌≡◌, ◌≢◌, ℕ, Bool, if◌then◌else◌, List, Option, Some, None}
use Rattle.std.specs.Cmp.Lexicographic.{slice_cmp}
use Rattle.std.specs.Ordering.{is_eq, nat_cmp}
use Rattle.fp_q773.specs.declared.kind.Kind.{Kind}
use Rattle.fp_q773.specs.declared.kind.Kind.TheVariants.{Begin, End, Continue, Abort}

-- two identifiers have the same octets
abbrev pub is_same : List ℕ → List ℕ → Bool
is_same one other = is_eq (slice_cmp nat_cmp one other)

-- no dialogue is open
abbrev pub is_none : List ℕ → Option (List ℕ)
is_none local = None

-- what is open at an identifier of the link, unless the exchange knows it by this one
abbrev pub unless_exchange : Option (List ℕ) → Option (List ℕ) → Option (List ℕ)
unless_exchange None known = known
unless_exchange (Some exchange) None = None
unless_exchange (Some exchange) (Some other) = if is_same exchange other then None else Some other

-- what is open at an identifier of the link, unless it is this one
abbrev pub unless_local : Option (List ℕ) → List ℕ → Option (List ℕ) → Option (List ℕ)
unless_local None other known = known
unless_local (Some local) other known = if is_same local other then None else known

-- what is open at an identifier of the link once these two name a dialogue
abbrev pub opened : List ℕ → List ℕ → List ℕ → Option (List ℕ) → Option (List ℕ)
opened local exchange other known =
    if is_same local other then Some exchange else unless_exchange (Some exchange) known

-- the same, if there are two
abbrev pub said_both : Option (List ℕ) → Option (List ℕ) → List ℕ → Option (List ℕ) → Option (List ℕ)
said_both None exchange other known = known
said_both (Some local) None other known = known
said_both (Some local) (Some exchange) other known = opened local exchange other known

-- the originating identifier of a Begin, the originating one of a Continue, and the destination one of an End or Abort
abbrev pub begun : Kind → Option (List ℕ) → Option (List ℕ)
begun Begin originating = originating
begun kind originating = None

abbrev pub continued : Kind → Option (List ℕ) → Option (List ℕ)
continued Continue originating = originating
continued kind originating = None

abbrev pub finished : Kind → Option (List ℕ) → Option (List ℕ)
finished End destination = destination
finished Abort destination = destination
finished kind destination = None

-- What is open at an identifier after a message of the exchange: a Begin says that it forgot the dialogue of that
-- identifier, an End or Abort ends the dialogue.
abbrev pub after_heard : Kind → Option (List ℕ) → Option (List ℕ) → List ℕ → Option (List ℕ) → Option (List ℕ)
after_heard kind originating destination other known =
    unless_local (finished kind destination) other (unless_exchange (begun kind originating) known)

-- What is open at an identifier after a message of the link: a Continue says both identifiers, an End or Abort ends the
-- dialogue.
abbrev pub after_said : Kind → Option (List ℕ) → Option (List ℕ) → List ℕ → Option (List ℕ) → Option (List ℕ)
after_said kind originating destination other known =
    said_both (continued kind originating) destination other (unless_exchange (finished kind destination) known)

-- the link's identifier of the dialogue that the exchange knows by this one
abbrev pub HasLocal : (List ℕ → Option (List ℕ)) → Option (List ℕ) → Option (List ℕ) → Type 0
HasLocal known (Some exchange) (Some local) = known local ≡ Some exchange
HasLocal known (Some exchange) None = (local : List ℕ) → known local ≢ Some exchange
HasLocal known None found = found ≡ None

-- the link's identifier of the dialogue that the exchange forgot: a Begin comes under the exchange's identifier of it
abbrev pub IsForgotten : (List ℕ → Option (List ℕ)) → Kind → Option (List ℕ) → Option (List ℕ) → Type 0
IsForgotten known kind originating found = HasLocal known (begun kind originating) found
