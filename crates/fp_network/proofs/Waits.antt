-- What waits for connections stays.
use Rattle.std.proofs.Common.{◌≡◌, ℕ, Bool, true, false, List, [], ◌++◌, Option, Some, None, refl, sym, ap, subst, ◌∙◌, append-nil, append_assoc, arith, inl, inr, length, drop, nat_le}
use Rattle.std.proofs.Math.Seq.{drop-append_seam, drop-length}
use Rattle.std.proofs.lemmas.Bool.{cases_lt}
use Rattle.std.specs.Option.{option_map}
use Rattle.fp_ipa.specs.Message.{head_of}
use Rattle.fp_network.specs.declared.connection.Connection.{Connection}
use Rattle.fp_network.specs.declared.event.Closing.{Closing}
use Rattle.fp_network.specs.declared.node.Node.{Node}
use Rattle.fp_network.specs.Changes.{IsLonger, closing, sending, sending_if}
use Rattle.fp_network.specs.Course.{is_written}
use Rattle.fp_network.specs.Node.{LeavesOthers, Stays, WaitsOn, connection_in, waiting_at, waiting_of}

-- a change of a connection after which at least the same waits
abbrev pub Adds : (Connection → Connection) → Type 0
Adds change = (own : Connection) → (more : List ℕ) × ((change own).waiting ≡ own.waiting ++ more)

pub stays_same : (old : ℕ → List ℕ) → Stays old old
stays_same old = record { each = λ place. ([], sym (append-nil (old place))) }

pub stays_more : (old mid new : ℕ → List ℕ) → Stays old mid → Stays mid new → Stays old new
stays_more old mid new first then = record {
  each = λ place.
      let f = first.each place in
      let t = then.each place in
      (f.0 ++ t.0, t.1 ∙ ap (λ (l : List ℕ). l ++ t.0) f.1 ∙ append_assoc (old place) f.0 t.0);
}

-- the connections are the same
pub waits_same : (old new : Node) → ((place : ℕ) → connection_in new place ≡ connection_in old place) → WaitsOn old new
waits_same old new same = record { each = λ place. ([], ap waiting_of (same place) ∙ sym (append-nil (waiting_of (connection_in old place)))) }

-- what waits for the connection in one place stays, and all others are the same
pub waits_at : (place : ℕ) (old new : Node) → ((more : List ℕ) × (waiting_at new place ≡ waiting_at old place ++ more))
    → LeavesOthers place old new → WaitsOn old new
waits_at place old new here others = record { each = by }
  where
    Grown : ℕ → Type 0
    Grown other = (more : List ℕ) × (waiting_at new other ≡ waiting_at old other ++ more)

    away : (other : ℕ) → (other ≡ place → ⊥) → Grown other
    away other apart = ([], ap waiting_of (others other apart) ∙ sym (append-nil (waiting_at old other)))

    at : (other : ℕ) → other ≡ place → Grown other
    at other is = subst Grown (sym is) here

    by : (other : ℕ) → Grown other
    by other = elim (cases_lt other place) [
      | inl below ↦ away other (λ is. absurd (omega (arith, is, below)))
      | inr above ↦ elim (cases_lt place other) [
        | inl over ↦ away other (λ is. absurd (omega (arith, is, over)))
        | inr under ↦ at other (omega (arith, above, under))
      ]
    ]

-- the same waits for it
pub waits_same_at : (place : ℕ) (old new : Node) → waiting_at new place ≡ waiting_at old place → LeavesOthers place old new → WaitsOn old new
waits_same_at place old new same = waits_at place old new ([], same ∙ sym (append-nil (waiting_at old place)))

-- at least the same waits for it
pub waits_longer_at : (place : ℕ) (old new : Node) → IsLonger (waiting_at old place) (waiting_at new place) → LeavesOthers place old new
    → WaitsOn old new
waits_longer_at place old new longer = waits_at place old new (drop (length (waiting_at old place)) (waiting_at new place), longer)

-- it is changed
module _ (change : Connection → Connection) (adds : Adds change) where
  added : (own : Option Connection) → (more : List ℕ) × (waiting_of (option_map change own) ≡ waiting_of own ++ more)
  added None = ([], refl)
  added (Some own) = adds own

  pub waits_change : (place : ℕ) (old new : Node) → connection_in new place ≡ option_map change (connection_in old place)
      → LeavesOthers place old new → WaitsOn old new
  waits_change place old new here =
      let more = added (connection_in old place) in
      waits_at place old new (more.0, ap waiting_of here ∙ more.1)

-- to close a connection adds nothing
pub closing_adds : (why : Closing) → Adds (closing why)
closing_adds why own = ([], sym (append-nil own.waiting))

-- to send a message adds it, or nothing
sends : (fits written : Bool) (octets : List ℕ) (own : Connection)
    → (more : List ℕ) × ((sending_if fits written octets own).waiting ≡ own.waiting ++ more)
sends true true octets own = (head_of 253 (length octets) ++ octets, refl)
sends true false octets own = ([], sym (append-nil own.waiting))
sends false written octets own = ([], sym (append-nil own.waiting))

pub sending_adds : (octets : List ℕ) → Adds (sending octets)
sending_adds octets own = sends (nat_le (length octets) 65535) (is_written own.course) octets own

-- the connection in one place is closed
pub waits_closed : (why : Closing) (place : ℕ) (old new : Node) → connection_in new place ≡ option_map (closing why) (connection_in old place)
    → LeavesOthers place old new → WaitsOn old new
waits_closed why = waits_change (closing why) (closing_adds why)

-- octets that others were added to
pub longer_same : (old : List ℕ) → IsLonger old old
longer_same old = sym (ap (λ (l : List ℕ). old ++ l) (drop-length old) ∙ append-nil old)

pub longer_by : (old new more : List ℕ) → new ≡ old ++ more → IsLonger old new
longer_by old new more is = is ∙ ap (λ (l : List ℕ). old ++ l) (sym (ap (drop (length old)) is ∙ drop-append_seam old more))
