use Rattle.std.proofs.Common.{◌≡◌, ◌∙◌, Ok, Err, Some, None, ap, option_map, List, ℕ, Bool, true, false, if◌then◌else◌, rules, refl, sym}
use Rattle.std.specs.Arc.{arc_value}
use Rattle.std.proofs.lemmas.List.Sorted.{answers_always}
use Rattle.fp_records.specs.Digits.{decimal_of, is_decimal}
use Rattle.fp_records.proofs.Entries.{lookup-apart}
use Rattle.fp_records.proofs.Lookups.{lookup-seen, seen}
use Rattle.fp_records.proofs.Orders.{keys-seen}
use Rattle.fp_records.proofs.Searches.{searched}
use Rattle.fp_records.proofs.table.Table.find.Goals as goal

-- digits of which there is no decimal form are not decimal, and others are their own
not_decimal : (digits : List ℕ) → decimal_of digits ≡ None → is_decimal digits ≡ false
not_decimal digits none = by (is_decimal digits) none
  where
    by : (decimal : Bool) → (if decimal then Some digits else None) ≡ None → decimal ≡ false
    by true is = cc
    by false is = refl

own_digits : (digits other : List ℕ) → decimal_of digits ≡ Some other → other ≡ digits
own_digits digits other some = by (is_decimal digits) some
  where
    by : (decimal : Bool) → (if decimal then Some digits else None) ≡ Some other → other ≡ digits
    by true is = cc
    by false is = cc

pub returns-in_default : goal.returns-in_default
returns-in_default c =
    let none = not_decimal c.args.called.now.digits (rw c.as_slice.ensures.value at (sym c.from_digits.ensures ∙ c.in_default.is)) in
    rw (← c.self.view_is) (sym (lookup-apart is_decimal c.args.called.now.digits (seen (λ found. arc_value found) c.self.inside.records.items) c.self.invariant.decimal none))

pub returns-in-Ok : goal.returns-in-Ok
returns-in-Ok c =
    let same = own_digits c.args.called.now.digits c.in-Some.digits (rw c.as_slice.ensures.value at (sym c.from_digits.ensures ∙ c.in-Some.is)) in
    let sorted = rw (keys-seen (λ found. arc_value found) c.self.inside.records.items) at c.self.invariant.once in
    let bound = rw (c.deref.ensures.value, c.in-Ok.is) at c.binary_search_by_key.ensures.bound in
    let position = c.binary_search_by_key.ensures.position (λ entry. entry.0) (answers_always _ _ _ (λ f a r g called. search rules)) in
    let found = searched c.self.inside.records.items c.args.called.now.digits (Ok c.in-Ok.place) sorted bound (rw (c.deref.ensures.value, c.in-Ok.is, c.new.ensures, same) at position) in
    rw (← c.self.view_is) (ap (λ entry. Some (arc_value entry.1)) c.index.ensures ∙ sym (lookup-seen (λ shared. arc_value shared) c.args.called.now.digits c.self.inside.records.items ∙ ap (option_map (λ shared. arc_value shared)) (found c.index.result.now)))

pub returns-in-Err : goal.returns-in-Err
returns-in-Err c =
    let same = own_digits c.args.called.now.digits c.in-Some.digits (rw c.as_slice.ensures.value at (sym c.from_digits.ensures ∙ c.in-Some.is)) in
    let sorted = rw (keys-seen (λ found. arc_value found) c.self.inside.records.items) at c.self.invariant.once in
    let bound = rw (c.deref.ensures.value, c.in-Err.is) at c.binary_search_by_key.ensures.bound in
    let position = c.binary_search_by_key.ensures.position (λ entry. entry.0) (answers_always _ _ _ (λ f a r g called. search rules)) in
    let missing = searched c.self.inside.records.items c.args.called.now.digits (Err c.in-Err.field-0) sorted bound (rw (c.deref.ensures.value, c.in-Err.is, c.new.ensures, same) at position) in
    rw (← c.self.view_is) (sym (lookup-seen (λ shared. arc_value shared) c.args.called.now.digits c.self.inside.records.items ∙ ap (option_map (λ shared. arc_value shared)) missing))
