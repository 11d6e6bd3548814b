use Rattle.std.proofs.Common.{◌≡◌, ℕ, ◌++◌, None, arith, inl, inr, refl, sym, ap, ◌∙◌}
use Rattle.std.proofs.lemmas.Bool.{cases_lt}
use Rattle.std.proofs.lemmas.List.{get_or_past}
use Rattle.std.proofs.lemmas.Option.{none-some}
use Rattle.fp_adaptor.specs.Connections.{connection_at}
use Rattle.fp_network.specs.Node.{connection_in, refusal_of}
use Rattle.fp_network.proofs.Ending.{refused_more}
use Rattle.fp_network.proofs.Way.{way_more, way_none}
use Rattle.fp_network.proofs.First.{first_one, none_so_far, same_some}
use Rattle.fp_network.proofs.Leaves.{leaves_more, leaves_same}
use Rattle.fp_network.proofs.Tied.{tied_closes}
use Rattle.fp_network.proofs.Waits.{stays_more, stays_same, waits_closed}
use Rattle.fp_network.proofs.Tallied.{counts_more, counts_none, counts_one}
use Rattle.fp_network.proofs.node.Node.make_way.Goals as goal

pub loop-unit-init : goal.loop-unit-init
loop-unit-init c = record {
  ended = way_none _;
  refused = λ place. inl refl;
  rest = stays_same _;
  link = leaves_same _;
  counted = counts_none _ _ refl refl refl;
  skipped = refl;
  none = λ setting history led tied unit below. absurd (omega (arith, below));
}

pub loop-unit-preserved : goal.loop-unit-preserved
loop-unit-preserved c =
    let inv = c.loop-unit.invariant in
    let close = c.close.ensures in
    let place = c.in-Some.place in
    record {
      ended = way_more c.args.self.now c.loop-unit.self c.close.new.self _ place inv.ended close.here close.others close.stays close.ended
          c.in-Some.ensures;
      refused = refused_more _ _ c.args.self.now c.loop-unit.self c.close.new.self inv.refused
          (sym c.refusal.ensures ∙ c.in-Some-refusal.is) close.here close.others;
      rest = stays_more _ _ _ inv.rest (waits_closed _ _ c.loop-unit.self c.close.new.self close.here close.others);
      link = leaves_more _ _ _ inv.link close.link;
      counted = counts_more c.args.self.now c.loop-unit.self c.close.new.self inv.link.count inv.counted
          (counts_one _ _ c.loop-unit.self c.close.new.self close.here close.others close.uncounted close.counted close.silent
          close.reported close.connections);
      skipped = close.skipped ∙ inv.skipped;
      none = λ setting history led tied.
          let way = inv.ended in
          let closed = way.0 in
          let before = way.2 setting history led in
          let first = c.in-Some.ensures setting (closed ++ history) before in
          let lives = tied_closes c.args.self.now c.loop-unit.self history closed way.1 tied first.0 place first.1 in
          let after = close.ended lives setting (closed ++ history) before in
          none_so_far _ _ (closed ++ history) place c.loop-unit._unit before.connections after.connections first (inv.none setting history led tied);
    }

-- the first connection takes messages
pub returns-in_default-clause-way : goal.returns-in_default-clause-way
returns-in_default-clause-way c setting history later led units tied after place first =
    absurd (none-some _ (first_one _ _ _ (c.in_default.ensures setting later after) first))

pub returns-in_default-refusal-clause-way : goal.returns-in_default-refusal-clause-way
returns-in_default-refusal-clause-way c setting history later led units tied after place first =
    let same = same_some _ _ (first_one _ _ _ (c.in-Some.ensures setting later after) first) in
    ap (λ (place : ℕ). refusal_of (connection_in c.loop-unit.self place)) (sym same)
    ∙ sym c.refusal.ensures ∙ c.in_default-refusal.is

pub returns-clause-way : goal.returns-clause-way
returns-clause-way c setting history later led units tied after place first =
    let inv = c.loop-unit.invariant in
    let past = c.loop-unit-test.false in
    let none : connection_at c.loop-unit.self.adaptor.connections.places.items first.0 ≡ None
    = elim (cases_lt first.0 c.loop-unit._unit) [
      | inl below ↦ inv.none setting history led tied first.0 below
      | inr above ↦ get_or_past c.loop-unit.self.adaptor.connections.places.items first.0 None (omega (arith, above, past, units, after.units))
    ] in
    absurd (none-some _ (sym none ∙ after.connections first.0 ∙ first.1))
