-- A dialogue portion opens at most one thing.
use Rattle.std.proofs.Common.{◌≡◌, ℕ, List, Some, None, Option, Contains, refl, ap, subst}
use Rattle.fp_ber.specs.Tree.{Tree}
use Rattle.fp_apdu.specs.declared.opening.Opening.{Opening}
use Rattle.fp_apdu.specs.declared.opening.Opening.TheVariants as openings
use Rattle.fp_apdu.specs.Aarq.{IsAarq}
use Rattle.fp_apdu.specs.Opening.{Opens, Requests}
use Rattle.fp_apdu.specs.ProtocolVersion.{OffersVersion1}

-- the same protocol version and name
record SameRequest (v w : Option (List ℕ)) (m n : List ℕ) : Type 0 where
  versions : v ≡ w
  names : m ≡ n

-- an AARQ is one request
aarq_same : (t u : Tree) (v w : Option (List ℕ)) (m n : List ℕ) → t ≡ u → IsAarq t v m → IsAarq u w n → SameRequest v w m n
aarq_same t u None None m n is g h = record { versions = refl; names = cc (is, g.is_laid_out, h.is_laid_out) }
aarq_same t u None (Some w) m n is g h = cc (is, g.is_laid_out, h.is_laid_out)
aarq_same t u (Some v) None m n is g h = cc (is, g.is_laid_out, h.is_laid_out)
aarq_same t u (Some v) (Some w) m n is g h =
    record { versions = cc (is, g.is_laid_out, h.is_laid_out); names = cc (is, g.is_laid_out, h.is_laid_out) }

-- a dialogue portion has one request
request_same : (portion : Option Tree) (v w : Option (List ℕ)) (m n : List ℕ) → Requests portion v m → Requests portion w n → SameRequest v w m n
request_same portion v w m n g h =
    let same : g.apdu ≡ h.apdu = cc (g.is_portion, h.is_portion) in aarq_same g.apdu h.apdu v w m n same g.is_aarq h.is_aarq

-- where there is no portion there is no request
no_request : (portion : Option Tree) (v : Option (List ℕ)) (m : List ℕ) → portion ≡ None → Requests portion v m → ⊥
no_request portion v m none g = cc (none, g.is_portion)

-- two requests differ where one offers version 1 and the other doesn't
offers_same : (portion : Option Tree) (v w : Option (List ℕ)) (m n : List ℕ) → Requests portion v m → Requests portion w n → OffersVersion1 v → (¬ OffersVersion1 w) → ⊥
offers_same portion v w m n g h offers not =
    not (subst OffersVersion1 ((request_same portion v w m n g h).versions) offers)

-- and where one has an accepted name and the other doesn't
accepted_same : (portion : Option Tree) (contexts : List (List ℕ)) (v w : Option (List ℕ)) (m n : List ℕ) → Requests portion v m → Requests portion w n
    → Contains contexts m → (¬ Contains contexts n) → ⊥
accepted_same portion contexts v w m n g h accepted not =
    not (subst (λ name. Contains contexts name) ((request_same portion v w m n g h).names) accepted)

-- so a dialogue portion opens at most one thing
pub opening_same : (portion : Option Tree) (contexts : List (List ℕ)) (x y : Opening) → Opens portion contexts x → Opens portion contexts y → x ≡ y
opening_same portion contexts openings.None openings.None g h = refl
opening_same portion contexts openings.None (openings.Known n) g h = absurd (no_request portion h.0 n g h.1)
opening_same portion contexts openings.None (openings.Unknown n) g h = absurd (no_request portion h.0 n g h.1)
opening_same portion contexts openings.None (openings.BadVersion n) g h = absurd (no_request portion h.0 n g h.1)
opening_same portion contexts (openings.Known m) openings.None g h = absurd (no_request portion g.0 m h g.1)
opening_same portion contexts (openings.Known m) (openings.Known n) g h = ap openings.Known ((request_same portion g.0 h.0 m n g.1 h.1).names)
opening_same portion contexts (openings.Known m) (openings.Unknown n) g h = absurd (accepted_same portion contexts g.0 h.0 m n g.1 h.1 g.3 h.3)
opening_same portion contexts (openings.Known m) (openings.BadVersion n) g h = absurd (offers_same portion g.0 h.0 m n g.1 h.1 g.2 h.2)
opening_same portion contexts (openings.Unknown m) openings.None g h = absurd (no_request portion g.0 m h g.1)
opening_same portion contexts (openings.Unknown m) (openings.Known n) g h = absurd (accepted_same portion contexts h.0 g.0 n m h.1 g.1 h.3 g.3)
opening_same portion contexts (openings.Unknown m) (openings.Unknown n) g h = ap openings.Unknown ((request_same portion g.0 h.0 m n g.1 h.1).names)
opening_same portion contexts (openings.Unknown m) (openings.BadVersion n) g h = absurd (offers_same portion g.0 h.0 m n g.1 h.1 g.2 h.2)
opening_same portion contexts (openings.BadVersion m) openings.None g h = absurd (no_request portion g.0 m h g.1)
opening_same portion contexts (openings.BadVersion m) (openings.Known n) g h = absurd (offers_same portion h.0 g.0 n m h.1 g.1 h.2 g.2)
opening_same portion contexts (openings.BadVersion m) (openings.Unknown n) g h = absurd (offers_same portion h.0 g.0 n m h.1 g.1 h.2 g.2)
opening_same portion contexts (openings.BadVersion m) (openings.BadVersion n) g h = ap openings.BadVersion ((request_same portion g.0 h.0 m n g.1 h.1).names)
