use Rattle.std.proofs.Common.{◌≡◌, ◌≤◌, ℕ, List, [], Option, Some, None, arith, length, slice_get, refl, sym, subst, ap}
use Rattle.std.proofs.lemmas.Option.{slice_get_past, slice_get_read}
use Rattle.fp_network.specs.declared.connection.Connection.{Connection}
use Rattle.fp_network.specs.declared.event.NetworkEvent.{NetworkEvent}
use Rattle.fp_network.specs.Counting.{Notes, active_for, active_of}
use Rattle.fp_network.specs.Node.{connection_in}
use Rattle.fp_network.proofs.News.{notes_none}
use Rattle.fp_network.proofs.node.Node.note_active.Goals as goal

-- no connection is active for a unit that isn't there
none_active : (names : List (List ℕ)) (unit : ℕ) (own : Option Connection) → length names ≤ unit → active_of names unit own ≡ []
none_active names unit None past = refl
none_active names unit (Some own) past = ap (active_for own.number) (slice_get_past names unit past)

pub returns-else-unit-len-clause-news : goal.returns-else-unit-len-clause-news
returns-else-unit-len-clause-news c =
    let test = c.if-unit-len.false in
    let past : length c.args.self.now.names.items ≤ c.args.unit = omega (arith, test) in
    subst (λ (events : List NetworkEvent). Notes events c.args.self.now c.args.self.now)
    (sym (none_active c.args.self.now.names.items c.args.unit (connection_in c.args.self.now c.args.place) past))
    (notes_none c.args.self.now c.args.self.now refl)

pub returns-in_default-clause-news : goal.returns-in_default-clause-news
returns-in_default-clause-news c = rw c.in_default.ensures (notes_none c.args.self.now c.args.self.now refl)

pub returns-then-unit-len-clause-news : goal.returns-then-unit-len-clause-news
returns-then-unit-len-clause-news c =
    let test = c.if-unit-len.true in
    let names = c.args.self.now.names.items in
    let named : slice_get names c.args.unit ≡ Some c.index-unit.result.now
    = slice_get_read names (length names) c.args.unit c.index-unit.result.now refl (omega (arith, test)) c.index-unit.ensures in
    rw (c.in-Some.ensures, named, sym c.number-connection.ensures) c.note.ensures.news
