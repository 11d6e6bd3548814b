use Rattle.std.proofs.Common.{◌≡◌, [], length, arith, refl, sym}
use Rattle.std.specs.Prelude.{bytes_eq}
use Rattle.std.specs.BTreeMap.{insert_entry}
use Rattle.std.specs.Cmp.Lexicographic.{slice_cmp}
use Rattle.std.specs.Map.{lookup}
use Rattle.std.specs.Option.{unwrap_or}
use Rattle.std.specs.Ordering.{nat_cmp}
use Rattle.std.proofs.lemmas.List.{length-map}
use Rattle.std.proofs.lemmas.Result.{err_from_is_err_and}
use Rattle.fp_records.specs.Listed.{listed}
use Rattle.fp_records.proofs.Entries.{inserted_again, inserted_same, seen-insert_entry}
use Rattle.fp_records.proofs.Lookups.{lookup-seen}
use Rattle.fp_records.proofs.Orders.{keys-seen}
use Rattle.fp_records.proofs.groups.push_at.Goals as goal

pub returns-in_default-clause-entries : goal.returns-in_default-clause-entries
returns-in_default-clause-entries g c =
    let missing = sym (rw c.in_default.is at c.in_ok-earlier.ensures.old) in
    let had : unwrap_or (lookup (bytes_eq c.args.number.now) (listed c.args.lists.now.entries)) [] ≡ [] =
    rw (lookup-seen (λ list. list.items) c.args.number.now c.args.lists.now.entries, missing) refl in
    rw (c.in_ok-earlier.ensures.entries, seen-insert_entry (λ list. list.items) c.args.lists.now.entries c.args.number.now c.push.new.self, c.in_ok-push.ensures.items, c.in_ok-list.ensures.items, had) refl

pub returns-in_default-clause-numbers : goal.returns-in_default-clause-numbers
returns-in_default-clause-numbers g c =
    let missing = sym (rw c.in_default.is at c.in_ok-earlier.ensures.old) in
    let more = rw c.in_default.is at c.in_ok-earlier.ensures.len in
    let old : length (listed c.args.lists.now.entries) ≡ length c.args.lists.now.entries = rw length-map refl in
    let new : length (listed c.insert.new.self.entries) ≡ length c.insert.new.self.entries = rw length-map refl in
    rw (lookup-seen (λ list. list.items) c.args.number.now c.args.lists.now.entries, missing) (omega (arith, more, old, new))

pub returns-in_default-clause-once : goal.returns-in_default-clause-once
returns-in_default-clause-once g c =
    rw (keys-seen (λ list. list.items) c.insert.new.self.entries) c.in_ok-earlier.ensures.ordered

pub returns-in_err-insert-clause-refused : goal.returns-in_err-insert-clause-refused
returns-in_err-insert-clause-refused g c = cc (c.in_err-insert.ensures.absent, c.in_ok-earlier.ensures.updates.1)

pub returns-in_err-pushed-clause-refused : goal.returns-in_err-pushed-clause-refused
returns-in_err-pushed-clause-refused g c =
    let entries = c.args.lists.now.entries in
    let number = c.args.number.now in
    let found = sym (rw c.in-Some.is at c.in_ok-earlier.ensures.old) in
    let same = rw c.in_err-pushed.was at c.push-pushed.ensures.items in
    let failed = err_from_is_err_and c.from_residual-in_err-pushed.result c.from_residual-in_err-pushed.ensures.1 in
    rw (failed.1, c.in_ok-insert.ensures.entries, c.in_ok-earlier.ensures.entries, seen-insert_entry (λ list. list.items) (insert_entry (slice_cmp nat_cmp) entries number c.push.new.self) number c.push-pushed.new.self, seen-insert_entry (λ list. list.items) entries number c.push.new.self, inserted_again (listed entries) number c.push.new.self.items c.push-pushed.new.self.items)
    (inserted_same (λ list. list.items) entries number c.in-Some.earlier c.push-pushed.new.self c.in_ok-earlier.ensures.was_ordered found same)

pub returns-clause-entries : goal.returns-clause-entries
returns-clause-entries g c =
    let entries = c.args.lists.now.entries in
    let number = c.args.number.now in
    let found = sym (rw c.in-Some.is at c.in_ok-earlier.ensures.old) in
    let more = rw c.in_ok-pushed.was at c.push-pushed.ensures.items in
    let had : unwrap_or (lookup (bytes_eq number) (listed entries)) [] ≡ c.in-Some.earlier.items =
    rw (lookup-seen (λ list. list.items) number entries, found) refl in
    rw (c.in_ok-insert.ensures.entries, c.in_ok-earlier.ensures.entries, seen-insert_entry (λ list. list.items) (insert_entry (slice_cmp nat_cmp) entries number c.push.new.self) number c.push-pushed.new.self, seen-insert_entry (λ list. list.items) entries number c.push.new.self, inserted_again (listed entries) number c.push.new.self.items c.push-pushed.new.self.items, more, had) refl

pub returns-clause-numbers : goal.returns-clause-numbers
returns-clause-numbers g c =
    let found = sym (rw c.in-Some.is at c.in_ok-earlier.ensures.old) in
    let first = rw c.in-Some.is at c.in_ok-earlier.ensures.len in
    let second = rw (c.in_ok-insert.ensures.old, c.in_ok-earlier.ensures.updates.1) at c.in_ok-insert.ensures.len in
    let old : length (listed c.args.lists.now.entries) ≡ length c.args.lists.now.entries = rw length-map refl in
    let new : length (listed c.insert-2.new.self.entries) ≡ length c.insert-2.new.self.entries = rw length-map refl in
    rw (lookup-seen (λ list. list.items) c.args.number.now c.args.lists.now.entries, found) (omega (arith, first, second, old, new))

pub returns-clause-once : goal.returns-clause-once
returns-clause-once g c =
    rw (keys-seen (λ list. list.items) c.insert-2.new.self.entries) c.in_ok-insert.ensures.ordered
