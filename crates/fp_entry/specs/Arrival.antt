-- The arrival of a frame: its octets, its moment, the index of the table by which it is read, and what can be known of
-- the octets (Q.773, 4.2.1).
use Rattle.std.specs.Prelude.{◌≡◌, ℕ, List, option_map}
use Rattle.fp_q773.specs.declared.ids.Ids.{Ids}
use Rattle.fp_q773.specs.Ids.{AreIds}
use Rattle.fp_q773.specs.Laws.{SameIds}
use Rattle.fp_q773.specs.Tid.{octets_of}
use Rattle.fp_entry.specs.declared.arrival.Arrival.{Arrival}

-- what can be known of the octets, whatever they are
abbrev pub HasIds : List ℕ → Ids → Type 0
HasIds octets ids = AreIds octets ids.kind (option_map octets_of ids.orig) (option_map octets_of ids.dest)

-- a frame of these octets came at this moment, to be read by whatever table
pub record IsArrival (octets : List ℕ) (moment : ℕ) (arrival : Arrival) : Type 0 where
  pub is_frame : arrival.frame ≡ octets
  pub is_moment : arrival.moment ≡ moment
  pub has_ids : HasIds octets arrival.ids

-- the same kind and identifiers
abbrev pub SameIdentifiers : Ids → Ids → Type 0
SameIdentifiers a b =
    SameIds a.kind b.kind (option_map octets_of a.orig) (option_map octets_of b.orig) (option_map octets_of a.dest) (option_map octets_of b.dest)

-- the same octets, moment, index of the table and identifiers
pub record SameArrival (a b : Arrival) : Type 0 where
  pub frames : a.frame ≡ b.frame
  pub moments : a.moment ≡ b.moment
  pub tables : a.table ≡ b.table
  pub identifiers : SameIdentifiers a.ids b.ids
