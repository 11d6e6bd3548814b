use Rattle.std.proofs.Common.{Some, [], ap, arith, deque_capacity, drop, option_to_list, sym, ◌++◌, ◌+◌, ◌∙◌, ◌∷◌, ◌≡◌, ◌≤◌}
use Rattle.std.proofs.lemmas.List.{nil_from_length}
use Rattle.fp_tids.specs.Identifiers.{base_of, first_of, serials_above}
use Rattle.fp_tids.proofs.Serials.{fresh_front, kept_taken, none_fresh, taken_within}
use Rattle.fp_tids.proofs.local_ids.LocalIds.give.Goals as goal

-- the next serial, given for the first time
pub returns-then-self-lt-SERIALS-clause-left : goal.returns-then-self-lt-SERIALS-clause-left
returns-then-self-lt-SERIALS-clause-left c =
    let b = c.self.inside in
    rw (← c.self.view_is) (ap (λ queue. record { link = b.link; tag = b.tag; queue = drop 1 queue }) (sym (fresh_front b.fresh b.returned.items c.if-self-lt-SERIALS.true)))

pub returns-then-self-lt-SERIALS-clause-next : goal.returns-then-self-lt-SERIALS-clause-next
returns-then-self-lt-SERIALS-clause-next c =
    let b = c.self.inside in
    rw (← c.self.view_is) (ap (λ l. Some (l + (b.fresh + 1))) c.base_of-base.ensures.base ∙ sym (ap (first_of (base_of b.link b.tag)) (fresh_front b.fresh b.returned.items c.if-self-lt-SERIALS.true)))

-- there is none
none : (c : goal.In_default) → c.self.inside.returned.items ≡ []
none c =
    let b = c.self.inside in
    nil_from_length b.returned.items (omega (arith, (rw c.in_default.is at c.pop_front.ensures.cases).0, b.returned.ok))

pub returns-in_default-clause-left : goal.returns-in_default-clause-left
returns-in_default-clause-left c =
    let b = c.self.inside in
    let left : c.pop_front.new.self.items ≡ b.returned.items = sym (c.pop_front.ensures.items ∙ ap (λ o. option_to_list o ++ c.pop_front.new.self.items) c.in_default.is) in
    let empty : serials_above b.fresh ++ b.returned.items ≡ [] = none_fresh b.fresh b.returned.items c.if-self-lt-SERIALS.false ∙ none c in
    rw (← c.self.view_is) (ap (λ queue. record { link = b.link; tag = b.tag; queue = queue }) (ap (λ items. serials_above b.fresh ++ items) left ∙ empty ∙ sym (ap (drop 1) empty)))

pub returns-in_default-clause-next : goal.returns-in_default-clause-next
returns-in_default-clause-next c =
    let b = c.self.inside in
    rw (← c.self.view_is) (sym (ap (first_of (base_of b.link b.tag)) (none_fresh b.fresh b.returned.items c.if-self-lt-SERIALS.false ∙ none c)))

-- the one that came back first
front : (c : goal.In-Some) → c.self.inside.returned.items ≡ c.in-Some.serial ∷ c.pop_front.new.self.items
front c = c.pop_front.ensures.items ∙ ap (λ o. option_to_list o ++ c.pop_front.new.self.items) c.in-Some.is

pub overflow_add-result-2 : goal.overflow_add-result-2
overflow_add-result-2 c =
    let b = c.self.inside in
    let most : c.in-Some.serial ≤ 131072 = taken_within b.link b.tag b.fresh c.in-Some.serial (deque_capacity b.returned) b.returned.items c.pop_front.new.self.items c.self.invariant (front c) in
    omega (arith, most, c.base_of-base.ensures.room)

pub invariant_of-self-2 : goal.invariant_of-self-2
invariant_of-self-2 c =
    let b = c.self.inside in
    kept_taken b.link b.tag b.fresh c.in-Some.serial (deque_capacity b.returned) (deque_capacity c.pop_front.new.self) b.returned.items c.pop_front.new.self.items c.self.invariant (front c) c.pop_front.ensures.capacity

queue : (c : goal.In-Some) → serials_above c.self.inside.fresh ++ c.self.inside.returned.items ≡ c.in-Some.serial ∷ (serials_above c.self.inside.fresh ++ c.pop_front.new.self.items)
queue c =
    let b = c.self.inside in
    none_fresh b.fresh b.returned.items c.if-self-lt-SERIALS.false ∙ front c ∙ ap (λ xs. c.in-Some.serial ∷ xs) (sym (none_fresh b.fresh c.pop_front.new.self.items c.if-self-lt-SERIALS.false))

pub returns-clause-left : goal.returns-clause-left
returns-clause-left c =
    let b = c.self.inside in
    rw (← c.self.view_is) (ap (λ queue. record { link = b.link; tag = b.tag; queue = drop 1 queue }) (sym (queue c)))

pub returns-clause-next : goal.returns-clause-next
returns-clause-next c =
    let b = c.self.inside in
    rw (← c.self.view_is) (ap (λ l. Some (l + c.in-Some.serial)) c.base_of-base.ensures.base ∙ sym (ap (first_of (base_of b.link b.tag)) (queue c)))
