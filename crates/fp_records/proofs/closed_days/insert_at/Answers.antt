use Rattle.std.proofs.Common.{◌≡◌, [], FitsSigned, w32, refl, sym}
use Rattle.std.proofs.lemmas.Int.{to_z-of_z}
use Rattle.fp_records.specs.Closings.{at_number, listed_days}
use Rattle.fp_records.proofs.Entries.{seen-insert_entry, seen-written}
use Rattle.fp_records.proofs.Lookups.{lookup-seen}
use Rattle.fp_records.proofs.closed_days.insert_at.Goals as goal

pub returns-in_ok-insert-in-Some-clause-entries : goal.returns-in_ok-insert-in-Some-clause-entries
returns-in_ok-insert-in-Some-clause-entries c =
    let found = sym (rw c.in-Some.is at c.get_mut.ensures.value) in
    let written = (c.get_mut.follows.holds c.insert.new.self).0 in
    let had : at_number c.args.number.now (listed_days c.args.sets.now.entries) ≡ c.in-Some.set.now.keys =
    rw (lookup-seen (λ set. set.keys) c.args.number.now c.args.sets.now.entries, found) refl in
    let fits : FitsSigned w32 c.args.day = c.ranges.day in
    let keys = simp to_z-of_z at c.in_ok-insert-in-Some.ensures.keys in
    rw (written, seen-written (λ set. set.keys) c.args.sets.now.entries c.args.number.now c.in-Some.set.now c.insert.new.self c.get_mut.ensures.ordered found, keys, had) refl

pub returns-in_ok-insert-in-None-2-clause-entries : goal.returns-in_ok-insert-in-None-2-clause-entries
returns-in_ok-insert-in-None-2-clause-entries c =
    let missing = sym (rw c.in-None.is at c.get_mut.ensures.value) in
    let had : at_number c.args.number.now (listed_days c.args.sets.now.entries) ≡ [] =
    rw (lookup-seen (λ set. set.keys) c.args.number.now c.args.sets.now.entries, missing) refl in
    let fits : FitsSigned w32 c.args.day = c.ranges.day in
    let keys = simp to_z-of_z at c.in_ok-insert-in-None.ensures.keys in
    rw (c.in_ok-insert-in-None-2.ensures.entries, c.get_mut.follows.holds-at-none, seen-insert_entry (λ set. set.keys) c.args.sets.now.entries c.args.number.now c.insert-in-None.new.self, keys, c.new-set.ensures.empty, had) refl
