use Rattle.fp_book.proofs.Names.{Inside, IsGiven, Left, PutsBackAt, PutsTurnBack, ap, free_with, gone_with, joins, logged, refl, shelf_of, subst, sym, ◌++◌, ◌-◌, ◌∙◌}
use Rattle.fp_book.specs.declared.line.LoggedStep.TheVariants as line
use Rattle.fp_book.proofs.Kept.{Leaves, leaves, place_to_join, same_parts, timed_still}
use Rattle.fp_book.proofs.Serials.{freed, given_of, linked}
use Rattle.fp_book.proofs.Turns.{fewer_turns, is_out, not_ready_out, turn_there}
use Rattle.fp_book.proofs.book.Book.put_back.Goals as goal

pub overflow_sub-self : goal.overflow_sub-self
overflow_sub-self c =
    let h = c.in-Ok.ensures.ok in
    turn_there c.self.inside c.args.turn.local h.before c.count-count.result c.self.invariant h.was (c.count-count.ensures ∙ h.does.0.count)

pub join-requires : goal.join-requires
join-requires c = λ _.
    let h = c.in-Ok.ensures.ok in
    place_to_join (shelf_of c.self.inside) c.args.turn.local h.before c.self.invariant.sound h.was (not_ready_out h.before (is_out h.before c.args.turn h.does.0.was_out).is_out)

-- its serial ends, if nothing of it is left
pub end_serial_unless_held-requires : goal.end_serial_unless_held-requires
end_serial_unless_held-requires c _ =
    let h = c.in-Ok.ensures.ok in
    subst (IsGiven c.self.inside.ids) (sym c.local-local.ensures) (given_of c.self.inside c.args.turn.local h.before c.self.invariant h.was)

-- the parts of the book then
abbrev after : goal.After-add → Inside
after c = record c.self.inside { ids = c.end_serial_unless_held.new.ids; rows = c.put_back.new.rows; ready = c.join.new.ready; turns = c.self.inside.turns - c.count-count.result; log = c.add.new.self }

put : (c : goal.After-add) → Leaves (after c) (PutsTurnBack (shelf_of c.self.inside) c.args.turn)
put c =
    let b = c.self.inside in
    let turn = c.args.turn in
    let h : PutsBackAt b.rows turn c.in-Ok.left c.put_back.new.rows = c.in-Ok.ensures.ok in
    leaves (after c) (gone_with (shelf_of b).gone h.after) (PutsTurnBack (shelf_of b) turn)
    (λ s does. c.turns_keep_a_book_sound.ensures.puts_back (shelf_of b) s turn c.self.invariant.sound does)
    (record {
      before = h.before;
      after = h.after;
      was = h.was;
      puts = h.does.0;
      new_is = same_parts (record (shelf_of b) { gone = gone_with (shelf_of b).gone h.after })
          (freed b.ids c.end_serial_unless_held.new.ids c.local-local.result c.in-Ok.left.is_held h.after c.end_serial_unless_held.ensures (ap (λ (x : Left). x.is_held) h.does.1) ∙ ap (λ l. free_with b.ids.queue l h.after) c.local-local.ensures) h.rows
          (c.join.ensures ∙ ap (λ l. b.ready ++ joins l c.in-Ok.left.is_ready) c.local-local.ensures ∙ ap (λ (x : Left). b.ready ++ joins turn.local x.is_ready) h.does.1) refl
          (c.add.ensures ∙ ap (λ (x : Left). logged b.log (line.PutBack x.birth c.position-position.result)) h.does.1
          ∙ (λ i. logged b.log (line.PutBack (h.does.0.same.birth i) (c.position-position.ensures i))));
    })
    (linked b.ids c.end_serial_unless_held.new.ids c.local-local.result c.in-Ok.left.is_held c.end_serial_unless_held.ensures ∙ c.self.invariant.links)
    (fewer_turns b c.count-count.result h c.self.invariant (c.count-count.ensures ∙ h.does.0.count) h.does.0.out)
    (timed_still b.deadlines h c.self.invariant.timed h.does.0.deadline)

pub invariant_of-self-2 : goal.invariant_of-self-2
invariant_of-self-2 c = (put c).kept

pub returns-clause-ok : goal.returns-clause-ok
returns-clause-ok c = rw (← c.self.view_is) (put c).is

pub returns-clause-sound : goal.returns-clause-sound
returns-clause-sound c = (put c).kept.sound
