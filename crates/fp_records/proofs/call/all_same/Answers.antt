use Rattle.std.proofs.Common.{◌≡◌, ◌&&◌, ◌+◌, ◌<◌, ◌∙◌, List, ℕ, ap, arith, drop, eq-eqb, length, nat_eq, refl, slice_index_or, sym}
use Rattle.std.proofs.lemmas.List.{drop_all, drop_more}
use Rattle.std.specs.Cmp.Lexicographic.{pointwise}
use Rattle.fp_records.proofs.call.all_same.Goals as goal

-- what is left is the next octet and the others
one_more : (one other : List ℕ) (place : ℕ) → place < length one → place < length other
    → pointwise nat_eq (drop place one) (drop place other)
    ≡ (nat_eq (slice_index_or one place 0) (slice_index_or other place 0) && pointwise nat_eq (drop (place + 1) one) (drop (place + 1) other))
one_more one other place first second = rw (drop_more one place 0 first, drop_more other place 0 second) refl

pub loop-place-init : goal.loop-place-init
loop-place-init c = refl

pub loop-place-preserved : goal.loop-place-preserved
loop-place-preserved c =
    let one = c.args.one.now in
    let other = c.args.other.now in
    let place = c.loop-place.place in
    let more = one_more one other place c.loop-place-test.true (omega (arith, c.loop-place-test.true, c.requires)) in
    let same = eq-eqb _ _ c.if-one-place.false in
    sym (more ∙ ap (λ b. b && pointwise nat_eq (drop (place + 1) one) (drop (place + 1) other)) same) ∙ c.loop-place.invariant

pub returns : goal.returns
returns c =
    let one = drop_all c.loop-place.place c.args.one.now c.loop-place-test.false in
    let other = drop_all c.loop-place.place c.args.other.now (omega (arith, c.loop-place-test.false, c.requires)) in
    rw (one, other) at c.loop-place.invariant
