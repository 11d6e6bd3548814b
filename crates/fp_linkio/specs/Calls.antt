-- The calls that were made of an outlet.
use Rattle.std.specs.Prelude.{ℕ, List, Option, Some, None}
use Rattle.fp_book.specs.declared.parcel.Parcel.{Parcel}
use Rattle.fp_book.specs.Parcel.{local_in, octets_in}

-- a parcel was handed out, or there was no more; or a parcel was reported: each by the local transaction identifier of
-- its dialogue, 0 for an Abort of the provider, and its octets
pub data OutletCall : Type 0 where
  picked : ℕ → List ℕ → OutletCall
  no_more : OutletCall
  sent : ℕ → List ℕ → OutletCall
  unsent : ℕ → List ℕ → OutletCall

-- that this was handed out
abbrev pub picks : Option Parcel → OutletCall
picks (Some parcel) = picked (local_in parcel) (octets_in parcel)
picks None = no_more

-- that this parcel was sent
abbrev pub reports_sent : Parcel → OutletCall
reports_sent parcel = sent (local_in parcel) (octets_in parcel)

-- that this parcel couldn't be sent
abbrev pub reports_unsent : Parcel → OutletCall
reports_unsent parcel = unsent (local_in parcel) (octets_in parcel)
