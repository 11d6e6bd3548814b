-- A connection that a unit has isn't among those that were closed.
use Rattle.std.proofs.Common.{◌≡◌, ℕ, Bool, true, false, not, ◌&&◌, ◌||◌, nat_eq, cond, List, [], ◌∷◌, ◌++◌, Option, Some, None, refl, sym, ap, ◌∙◌}
use Rattle.std.proofs.lemmas.Bool.{eqb-false, ne_eqb}
use Rattle.std.proofs.lemmas.Option.{none-some}
use Rattle.fp_adaptor.specs.Connections.{without}
use Rattle.fp_adaptor.specs.History.{Event, connection_after, ended}
use Rattle.fp_network.specs.declared.node.Node.{Node}
use Rattle.fp_network.specs.Endings.{AreEnded, Closes, IsTied, ends}
use Rattle.fp_network.specs.Node.{is_over_at}
use Rattle.fp_network.proofs.First.{same_some}

-- what a unit has once a connection is over, it had, and it is another one
without_is : (over place other : ℕ) (same : Bool) → nat_eq other over ≡ same → cond same None (Some other) ≡ Some place
    → (other ≡ place) × (nat_eq over place ≡ false)
without_is over place other true is had = absurd (none-some _ had)
without_is over place other false is had =
    let here = same_some _ _ had in
    (here, ne_eqb over place (λ same. eqb-false other over is (here ∙ sym same)))

pub without_some : (over place : ℕ) (had : Option ℕ) → without over had ≡ Some place
    → (had ≡ Some place) × (nat_eq over place ≡ false)
without_some over place None is = absurd (none-some _ is)
without_some over place (Some other) is =
    let so = without_is over place other (nat_eq other over) refl is in
    (ap Some so.0, so.1)

not_ended : (closed history : List Event) (unit place : ℕ) → AreEnded closed → connection_after (closed ++ history) unit ≡ Some place
    → (connection_after history unit ≡ Some place) × (ends place closed ≡ false)
not_ended [] history unit place are is = (is, refl)
not_ended (ended over ∷ closed) history unit place are is =
    let so = without_some over place (connection_after (closed ++ history) unit) is in
    let more = not_ended closed history unit place are so.0 in
    (more.0, ap (λ (b : Bool). b || ends place closed) so.1 ∙ more.1)
not_ended (event ∷ closed) history unit place are is = absurd are

pub tied_closes : (old new : Node) (history closed : List Event) → Closes old new closed → IsTied old history → IsTied new (closed ++ history)
tied_closes old new history closed closes tied unit place is =
    let so = not_ended closed history unit place closes.are_ended is in
    sym (ap (λ (over : Bool). not over && is_over_at new place) (tied unit place so.0)) ∙ sym (closes.those place) ∙ so.1
