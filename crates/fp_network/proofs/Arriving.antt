-- What becomes of a connection by a message, if a megabyte waits for it, and if not.
use Rattle.std.proofs.Common.{◌≡◌, ℕ, Bool, true, false, List, refl, sym, subst}
use Rattle.fp_ipa.specs.declared.stream_identifier.StreamIdentifier.{StreamIdentifier}
use Rattle.fp_network.specs.declared.arrival.Arrival.{Arrival}
use Rattle.fp_network.specs.declared.arrival.Arrival.TheVariants.{Close}
use Rattle.fp_network.specs.declared.connection.Connection.{Connection}
use Rattle.fp_network.specs.declared.event.Closing.TheVariants.{Slow}
use Rattle.fp_network.specs.Changes.{is_slow}
use Rattle.fp_network.specs.Stepping.{Arrives, ArrivesIf, Stepped}

module _ (names : List (List ℕ)) (drains : Bool) (stream : StreamIdentifier) (octets : List ℕ) where
  pub arrives_slow : (own : Connection) → is_slow own ≡ true → Arrives names drains stream octets own own (Close Slow)
  arrives_slow own slow =
      subst (λ (slow : Bool). ArrivesIf slow names drains stream octets own own (Close Slow)) (sym slow) (refl, refl)

  pub arrives_stepped : (old new : Connection) (arrival : Arrival) → is_slow old ≡ false
      → Stepped names drains stream octets old new arrival → Arrives names drains stream octets old new arrival
  arrives_stepped old new arrival slow stepped =
      subst (λ (slow : Bool). ArrivesIf slow names drains stream octets old new arrival) (sym slow) stepped
