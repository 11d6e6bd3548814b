-- What the loop that writes a link makes of the parcels that it is handed, and why it went no further.
use Rattle.std.specs.Prelude.{◌≡◌, ◌≢◌, ℕ, ◌<◌, List, [], ◌∷◌, ◌++◌, Option, Some, length}
use Rattle.std.specs.List.{flat_map}
use Rattle.std.specs.Io.KnownBytes.{Appends}
use Rattle.fp_book.specs.declared.parcel.Parcel.{Parcel}
use Rattle.fp_streams.specs.Grows.{Grows}
use Rattle.fp_linkio.specs.Calls.{OutletCall, no_more, picks, reports_sent, reports_unsent}
use Rattle.fp_book.specs.Parcel.{octets_in}
use Rattle.fp_linkio.specs.declared.ended.Ended.{Ended}
use Rattle.fp_linkio.specs.declared.ended.Ended.TheVariants.{EndOfInput, BadFrame, ReadFault, WriteFault, TurnLimit, Memory}

-- the octets of parcels, one after another
abbrev pub octets_of_all : List Parcel → List ℕ
octets_of_all parcels = flat_map octets_in parcels

-- each was handed out, and then reported sent
abbrev pub each_sent : List Parcel → List OutletCall
each_sent parcels = flat_map (λ (parcel : Parcel). picks (Some parcel) ∷ reports_sent parcel ∷ []) parcels

-- all of these were written, whole, and then reported sent; and then the last calls were made
pub record Writes (old new : Option (List ℕ)) (before after : Option (List OutletCall)) (parcels : List Parcel) (last : List OutletCall) : Type 0 where
  pub wrote : Appends old new (octets_of_all parcels)
  pub calls : Grows before after (each_sent parcels ++ last)

-- one more was handed out, of which a front was written and not the whole, and it was reported unsent
pub record EndsUnsent (old new : Option (List ℕ)) (before after : Option (List OutletCall)) (parcels : List Parcel) : Type 0 where
  pub parcel : Parcel
  pub front : List ℕ
  pub rest : List ℕ
  pub whole : octets_in parcel ≡ front ++ rest
  pub missing : 0 < length rest
  pub wrote : Appends old new (octets_of_all parcels ++ front)
  pub calls : Grows before after (each_sent parcels ++ picks (Some parcel) ∷ reports_unsent parcel ∷ [])

-- why it went no further, after the parcels that were sent, this number at most
abbrev pub SendEnds : Ended → ℕ → Option (List ℕ) → Option (List ℕ) → Option (List OutletCall) → Option (List OutletCall) → List Parcel → Type 0
-- the outlet has no more
SendEnds EndOfInput turns old new before after parcels = Writes old new before after parcels (no_more ∷ []) × (length parcels < turns)
SendEnds BadFrame turns old new before after parcels = ⊥
SendEnds ReadFault turns old new before after parcels = ⊥
-- the writer failed in the next one
SendEnds WriteFault turns old new before after parcels = EndsUnsent old new before after parcels × (length parcels < turns)
-- this number was sent
SendEnds TurnLimit turns old new before after parcels = Writes old new before after parcels [] × (length parcels ≡ turns)
SendEnds Memory turns old new before after parcels = ⊥

-- these parcels were handed out, written and reported, in their order
abbrev pub Sends : ℕ → Option (List ℕ) → Option (List ℕ) → Option (List OutletCall) → Option (List OutletCall) → Ended → Type 0
Sends turns old new before after ended = (parcels : List Parcel) × SendEnds ended turns old new before after parcels

-- the failures of the writer: it failed if that is reported, and not otherwise
abbrev pub WriterFailed : Ended → ℕ → ℕ → Type 0
WriterFailed EndOfInput old new = new ≡ old
WriterFailed BadFrame old new = ⊥
WriterFailed ReadFault old new = ⊥
WriterFailed WriteFault old new = new ≢ old
WriterFailed TurnLimit old new = new ≡ old
WriterFailed Memory old new = ⊥
