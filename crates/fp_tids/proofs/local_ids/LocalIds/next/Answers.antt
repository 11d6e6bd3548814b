use Rattle.std.proofs.Common.{None, Some, ap, arith, deque_capacity, slice_get, sym, ◌+◌, ◌∙◌, ◌≡◌, ◌≤◌}
use Rattle.fp_tids.specs.Identifiers.{base_of, first_of}
use Rattle.fp_tids.proofs.Serials.{first_is, first_within, fresh_front, none_fresh}
use Rattle.fp_tids.proofs.local_ids.LocalIds.next.Goals as goal

-- the next serial, which was never given
pub returns-then-self-lt-SERIALS : goal.returns-then-self-lt-SERIALS
returns-then-self-lt-SERIALS c =
    let b = c.self.inside in
    rw (← c.self.view_is) (ap (λ l. Some (l + (b.fresh + 1))) c.base_of-base.ensures.base ∙ sym (ap (first_of (base_of b.link b.tag)) (fresh_front b.fresh b.returned.items c.if-self-lt-SERIALS.true)))

-- there is none
pub returns-in_default : goal.returns-in_default
returns-in_default c =
    let b = c.self.inside in
    let none : slice_get b.returned.items 0 ≡ None = sym c.first.ensures ∙ c.in_default.is in
    rw (← c.self.view_is) (first_is (base_of b.link b.tag) b.returned.items None none ∙ sym (ap (first_of (base_of b.link b.tag)) (none_fresh b.fresh b.returned.items c.if-self-lt-SERIALS.false)))

-- the one that came back first
front : (c : goal.In-Some) → slice_get c.self.inside.returned.items 0 ≡ Some c.in-Some.serial
front c = sym c.first.ensures ∙ c.in-Some.is

pub overflow_add-result-2 : goal.overflow_add-result-2
overflow_add-result-2 c =
    let b = c.self.inside in
    let most : c.in-Some.serial ≤ 131072 = first_within b.link b.tag b.fresh c.in-Some.serial (deque_capacity b.returned) b.returned.items c.self.invariant (front c) in
    omega (arith, most, c.base_of-base.ensures.room)

pub returns : goal.returns
returns c =
    let b = c.self.inside in
    rw (← c.self.view_is)
    (ap (λ l. Some (l + c.in-Some.serial)) c.base_of-base.ensures.base ∙ first_is (base_of b.link b.tag) b.returned.items (Some c.in-Some.serial) (front c)
    ∙ sym (ap (first_of (base_of b.link b.tag)) (none_fresh b.fresh b.returned.items c.if-self-lt-SERIALS.false)))
