use Rattle.fp_book.proofs.Names.{ap, arith, length, length-drop, min, ◌-◌, ◌<◌, ◌∙◌, ◌≡◌}
use Rattle.fp_book.proofs.Accounts.{all_moved, one_moved}
use Rattle.fp_book.proofs.log.move_steps.Goals.{in-Some, in_default}
use Rattle.fp_book.proofs.log.move_steps.Goals as goal

-- the step that was taken off is the oldest that was left; there is one, since fewer than all were moved
pub loop-moved-preserved : goal.loop-moved-preserved
loop-moved-preserved c =
    let left = ap length c.loop-moved.invariant.so_far.left ∙ length-drop c.loop-moved._moved c.args.steps.now.items in
    let within : c.loop-moved._moved < length c.args.steps.now.items = omega (arith, c.min-moved-end.ensures, c.args.steps.now.ok) in
    elim c.match-pop_front.branch [
      | in-Some w ↦ rw w.lines-is record {
        so_far = rw (c.pop_front.ensures.rest, w.push_reserved.ensures.items) (one_moved _ _ _ _ _ _ _ within c.loop-moved.invariant.so_far w.in-Some.ensures.lookup);
        count = omega (arith, w.push_reserved.ensures.len, c.loop-moved.invariant.count);
        places = c.pop_front.ensures.capacity ∙ c.loop-moved.invariant.places;
        capacity = w.push_reserved.ensures.capacity ∙ c.loop-moved.invariant.capacity;
      }
      | in_default w ↦ absurd (omega (arith, w.in_default.ensures.cases.0, left, within, c.loop-moved.steps.ok))
    ]

-- as many as there was room for
pub returns-clause-drains : goal.returns-clause-drains
returns-clause-drains c =
    let count : c.loop-moved._moved ≡ min (c.capacity.result - c.len.result) (length c.args.steps.now.items) = omega (arith, c.min-moved-end.ensures, c.loop-moved.auto._moved-end, c.args.steps.now.ok) in
    rw (← c.capacity.ensures, ← c.len.ensures) (all_moved _ _ _ _ _ _ _ count c.loop-moved.invariant.so_far)
