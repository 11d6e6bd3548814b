-- The parcels that were sent so far.
use Rattle.std.proofs.Common.{◌≡◌, ℕ, ◌+◌, List, [], ◌∷◌, ◌++◌, length, Option, Some, sym, ◌∙◌, ap, subst, arith, append-nil, length-append}
use Rattle.std.specs.Io.KnownBytes.{Appends}
use Rattle.std.proofs.KnownBytes.{Appends-trans}
use Rattle.std.proofs.lemmas.List.Concat.{flat_map-append}
use Rattle.fp_book.specs.declared.parcel.Parcel.{Parcel}
use Rattle.fp_streams.specs.Grows.{Grows}
use Rattle.fp_linkio.specs.Calls.{OutletCall, picks, reports_sent}
use Rattle.fp_book.specs.Parcel.{octets_in}
use Rattle.fp_linkio.specs.Sending.{each_sent, octets_of_all}
use Rattle.fp_linkio.proofs.Told.{told_more}

-- this number of parcels was sent
pub record Sending (made : ℕ) (old new : Option (List ℕ)) (before after : Option (List OutletCall)) : Type 0 where
  pub parcels : List Parcel
  pub count : length parcels ≡ made
  pub wrote : Appends old new (octets_of_all parcels)
  pub calls : Grows before after (each_sent parcels)

-- one more was sent
pub sending_more : (made : ℕ) (old new newer : Option (List ℕ)) (before after picked later : Option (List OutletCall)) (parcel : Parcel)
    → Sending made old new before after → Grows after picked (picks (Some parcel) ∷ []) → Appends new newer (octets_in parcel)
    → Grows picked later (reports_sent parcel ∷ []) → Sending (made + 1) old newer before later
sending_more made old new newer before after picked later parcel sending pick wrote report =
    let all = sending.parcels ++ parcel ∷ [] in
    let octets : octets_of_all all ≡ octets_of_all sending.parcels ++ octets_in parcel =
    flat_map-append octets_in sending.parcels (parcel ∷ []) ∙ ap (λ o. octets_of_all sending.parcels ++ o) (append-nil (octets_in parcel)) in
    let calls : each_sent all ≡ each_sent sending.parcels ++ picks (Some parcel) ∷ reports_sent parcel ∷ [] =
    flat_map-append (λ (p : Parcel). picks (Some p) ∷ reports_sent p ∷ []) sending.parcels (parcel ∷ []) in
    let count = sending.count in
    let long = length-append sending.parcels (parcel ∷ []) in
    record {
      parcels = all;
      count = omega (arith, count, long);
      wrote = subst (Appends old newer) (sym octets) (Appends-trans old new newer (octets_of_all sending.parcels) (octets_in parcel) sending.wrote wrote);
      calls = subst (Grows before later) (sym calls)
          (told_more before after later (each_sent sending.parcels) (picks (Some parcel) ∷ reports_sent parcel ∷ []) sending.calls
          (told_more after picked later (picks (Some parcel) ∷ []) (reports_sent parcel ∷ []) pick report));
    }
