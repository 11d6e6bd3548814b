use Rattle.std.proofs.Common.{◌≡◌, ◌∙◌, ℕ, true, List, ◌∷◌, [], FitsSigned, w16, arith, length, refl, ap, rules}
use Rattle.std.specs.Arc.{arc_value}
use Rattle.std.specs.Cmp.{first_so, second_so}
use Rattle.std.specs.Map.{keys_of}
use Rattle.std.proofs.lemmas.Int.{ints}
use Rattle.std.proofs.lemmas.List.{append-nil, append_assoc, length-append, length-map, map-append}
use Rattle.std.proofs.lemmas.List.Folds.{list_all-append}
use Rattle.fp_records.specs.Choice.{Rules}
use Rattle.fp_records.specs.Digits.{is_decimal}
use Rattle.fp_records.specs.Listed.{listed}
use Rattle.fp_records.proofs.Grouping.{few-parts}
use Rattle.fp_records.proofs.Lookups.{seen}
use Rattle.fp_records.proofs.Orders.{keys-seen}
use Rattle.fp_records.proofs.groups.Groups.into_records.Goals as goal

pub loop-number-init : goal.loop-number-init
loop-number-init c =
    let gives = c.into_iter-number-iterator.ensures.into_iter_gives in
    let entries = gives.0 in
    let limits = c.self.invariant in
    record {
      west = omega (arith, ints);
      east = omega (arith, ints);
      so_far = rw (c.in_ok-records.ensures.items, entries, ← c.self.view_is) refl;
      once = rw (c.in_ok-records.ensures.items, entries, keys-seen (λ list. list.items) c.self.inside.groups.entries) gives.5;
      short = rw entries limits.of_number;
      decimal = rw entries limits.decimal;
      kept = rw c.in_ok-records.ensures.items refl;
      count = rw (c.in_ok-records.ensures.items, entries) (omega (arith, limits.rules, simp length-map at limits.numbers));
    }

pub loop-number-preserved : goal.loop-number-preserved
loop-number-preserved c =
    let inv = c.loop-number.invariant in
    let rest = rw c.in-Some.is at c.next.ensures.steps in
    let so_far = rw rest at inv.so_far in
    let once = rw rest at inv.once in
    let fits : FitsSigned w16 c.args.offset = search rules in
    let shared = c.in_ok-record.ensures.ok ∙ c.new.ensures in
    let here : is_decimal c.in-Some.number ≡ true = first_so _ _ (rw rest at inv.decimal) in
    let old : List (List ℕ × Rules) = seen (λ a. arc_value a) c.loop-number.records.items in
    let one : List (List ℕ × Rules) = (c.in-Some.number, arc_value c.in_ok-record.record) ∷ [] in
    let entries = ap (seen (λ a. arc_value a)) c.in_ok-push.ensures.items ∙ map-append (λ e. (e.0, arc_value e.1)) c.loop-number.records.items ((c.in-Some.number, c.in_ok-record.record) ∷ []) in
    record {
      west = inv.west;
      east = inv.east;
      so_far = rw (entries, append_assoc, shared, c.in_ok-days.ensures.days) so_far;
      once = rw (entries, map-append (λ e. e.0) old one, append_assoc) once;
      short = (few-parts (c.in-Some.number, c.in-Some.rules.items) (listed c.next.new.self) (rw rest at inv.short)).2;
      decimal = second_so _ _ (rw rest at inv.decimal);
      kept = rw (entries, list_all-append (λ entry. is_decimal entry.0) old one, inv.kept, here) refl;
      count = omega (arith, ap length c.in_ok-push.ensures.items, length-append c.loop-number.records.items ((c.in-Some.number, c.in_ok-record.record) ∷ []), inv.count, ap length rest);
    }

pub returns-clause-kept : goal.returns-clause-kept
returns-clause-kept c =
    let inv = c.loop-number.invariant in
    record { most = rw length-map (omega (arith, inv.count)); decimal = inv.kept; once = rw (append-nil (keys_of (seen (λ a. arc_value a) c.loop-number.records.items))) at (rw (rw c.in-None.is at c.next.ensures.steps).0 at inv.once) }
