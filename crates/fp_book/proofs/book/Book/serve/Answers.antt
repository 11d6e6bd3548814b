use Rattle.fp_book.proofs.Names.{Inside, Left, ap, arith, free_with, gone_with, is_ready, joins, keep, length, logged, more_served, shelf_of, sym, waiting_in, with_deadline, with_dialogue, ◌++◌, ◌∙◌, ◌∷◌, ◌≡◌}
use Rattle.fp_book.specs.Calls.{ServesTurn}
use Rattle.fp_book.specs.declared.line.LoggedStep.TheVariants as line
use Rattle.fp_book.specs.declared.taken.Taken.TheVariants.{Turn as ATurn}
use Rattle.fp_book.proofs.AtOnce.{AtOnce, at_once, between, done, few_asked, few_count, few_done, fits, here, keep_twice, mid, mid_sound, not_ready_between, place, takes_turn, was_mid}
use Rattle.fp_book.proofs.Changes.{turns_none}
use Rattle.fp_book.proofs.Kept.{Leaves, leaves, place_to_join, room_for, same_parts, timed_by, turns_by}
use Rattle.fp_book.proofs.Serials.{freed, given_of, linked}
use Rattle.fp_book.proofs.Turns.{first_is, first_is_ready, idle}
use Rattle.fp_book.proofs.book.Book.serve.Goals as goal

pub serve-requires-clause-ready : goal.serve-requires-clause-ready
serve-requires-clause-ready c = first_is_ready (shelf_of c.self.inside) c.in-Some.local c.self.invariant.sound (sym c.first.ensures ∙ c.in-Some.is)

pub overflow_cast-count : goal.overflow_cast-count
overflow_cast-count c = omega (arith, few_count _ _ _ _ _ (at_once c.self.invariant.sound c.self.view_is c.places_held-held.ensures c.if-held-ge-MOST_FRAMES.false c.turns_keep_a_book_sound.ensures.takes c.turns_are_served_by_the_step.ensures c.in-Ok.ensures.ok))

pub overflow_add-self : goal.overflow_add-self
overflow_add-self c = omega (arith, fits _ _ _ _ _ (at_once c.self.invariant.sound c.self.view_is c.places_held-held.ensures c.if-held-ge-MOST_FRAMES.false c.turns_keep_a_book_sound.ensures.takes c.turns_are_served_by_the_step.ensures c.in-Ok.ensures.ok))

pub overflow_cast-served : goal.overflow_cast-served
overflow_cast-served c = omega (arith, few_done _ _ _ _ _ (at_once c.self.invariant.sound c.self.view_is c.places_held-held.ensures c.if-held-ge-MOST_FRAMES.false c.turns_keep_a_book_sound.ensures.takes c.turns_are_served_by_the_step.ensures c.in-Ok.ensures.ok))

-- its serial ends, if nothing of it is left
pub end_serial_unless_held-requires : goal.end_serial_unless_held-requires
end_serial_unless_held-requires c _ =
    let g = at_once c.self.invariant.sound c.self.view_is c.places_held-held.ensures c.if-held-ge-MOST_FRAMES.false c.turns_keep_a_book_sound.ensures.takes c.turns_are_served_by_the_step.ensures c.in-Ok.ensures.ok in
    given_of c.self.inside c.in-Some.local g.at.before c.self.invariant g.at.was

-- there is a place for its deadline
pub set_deadline-requires : goal.set_deadline-requires
set_deadline-requires c =
    let g = at_once c.self.invariant.sound c.self.view_is c.places_held-held.ensures c.if-held-ge-MOST_FRAMES.false c.turns_keep_a_book_sound.ensures.takes c.turns_are_served_by_the_step.ensures c.in-Ok.ensures.ok in
    room_for c.self.inside.deadlines c.self.inside.rows c.in-Some.local g.at.before c.self.invariant.timed g.at.was c.self.invariant.sound.held

pub join-requires : goal.join-requires
join-requires c = λ _.
    let rest = c.next.new.self in
    let first : c.self.inside.ready ≡ c.in-Some.local ∷ rest = first_is c.self.inside.ready rest c.in-Some.local c.next.result (sym c.first.ensures ∙ c.in-Some.is) c.next.ensures.taken c.next.ensures.none in
    let g = at_once c.self.invariant.sound c.self.view_is c.places_held-held.ensures c.if-held-ge-MOST_FRAMES.false c.turns_keep_a_book_sound.ensures.takes c.turns_are_served_by_the_step.ensures c.in-Ok.ensures.ok in
    place_to_join (mid _ _ _ _ _ g rest) (done _ _ _ _ _ g).turn.local (between _ _ _ _ _ g) (mid_sound _ _ _ _ _ g rest first) (was_mid _ _ _ _ _ g) (not_ready_between _ _ _ _ _ g)

pub queue-given-requires-clause-place : goal.queue-given-requires-clause-place
queue-given-requires-clause-place c = place _ _ _ _ _ (at_once c.self.invariant.sound c.self.view_is c.places_held-held.ensures c.if-held-ge-MOST_FRAMES.false c.turns_keep_a_book_sound.ensures.takes c.turns_are_served_by_the_step.ensures c.in-Ok.ensures.ok)

pub queue-given-requires-clause-few : goal.queue-given-requires-clause-few
queue-given-requires-clause-few c = few_asked _ _ _ _ _ (at_once c.self.invariant.sound c.self.view_is c.places_held-held.ensures c.if-held-ge-MOST_FRAMES.false c.turns_keep_a_book_sound.ensures.takes c.turns_are_served_by_the_step.ensures c.in-Ok.ensures.ok)

-- the parts of the book then
abbrev after : goal.After-add-2 → Inside
after c = record c.self.inside {
  ids = c.end_serial_unless_held.new.ids;
  rows = c.serve.new.rows;
  deadlines = c.set_deadline.new.deadlines;
  ready = c.join.new.ready;
  outbox = c.queue-given.new.outbox;
  totals = more_served c.self.inside.totals c.in-Ok.came.turn.served;
  log = c.add-2.new.self;
}

served : (c : goal.After-add-2) → Leaves (after c) (ServesTurn (shelf_of c.self.inside) c.in-Ok.came.turn.served c.queue-given.result)
served c =
    let b = c.self.inside in
    let s = shelf_of b in
    let local = c.in-Some.local in
    let turn = c.in-Ok.came.turn in
    let left = c.in-Ok.came.left in
    let rest = c.next.new.self in
    let first : b.ready ≡ local ∷ rest = first_is b.ready rest local c.next.result (sym c.first.ensures ∙ c.in-Some.is) c.next.ensures.taken c.next.ensures.none in
    let g : AtOnce s local turn left c.serve.new.rows = at_once c.self.invariant.sound c.self.view_is c.places_held-held.ensures c.if-held-ge-MOST_FRAMES.false c.turns_keep_a_book_sound.ensures.takes c.turns_are_served_by_the_step.ensures c.in-Ok.ensures.ok in
    let serves = g.at.does.0 in
    let done = serves.done in
    let l = done.turn.local in
    let there : local ≡ l = sym (here _ _ _ _ _ g) in
    let birth : left.birth ≡ serves.between.birth = ap (λ (x : Left). x.birth) g.at.does.1 ∙ serves.gives.same.birth in
    let first_birth : left.birth ≡ g.at.before.birth = birth ∙ serves.takes.same.birth in
    leaves (after c) (gone_with s.gone g.at.after) (ServesTurn s turn.served c.queue-given.result)
    (λ t does. c.turns_keep_a_book_sound.ensures.gives does.between t does.done c.queue-given.result (c.turns_keep_a_book_sound.ensures.takes s does.between (ATurn does.done.turn) c.self.invariant.sound does.takes) does.gives)
    (record {
      done = done;
      between = mid _ _ _ _ _ g rest;
      takes = takes_turn _ _ _ _ _ g rest first;
      gives = record {
        before = serves.between;
        after = g.at.after;
        asked = turn.requested;
        was = was_mid _ _ _ _ _ g;
        gives = serves.gives;
        given_is = c.queue-given.ensures.given;
        new_is = same_parts (record s { totals = more_served b.totals turn.served; gone = gone_with s.gone g.at.after })
            (freed b.ids c.end_serial_unless_held.new.ids local left.is_held g.at.after c.end_serial_unless_held.ensures (ap (λ (x : Left). x.is_held) g.at.does.1) ∙ ap (λ l. free_with b.ids.queue l g.at.after) there)
            (g.at.rows ∙ ap (λ l. keep b.rows l g.at.after) there ∙ sym (keep_twice b.rows l serves.between g.at.after))
            (c.join.ensures ∙ ap (λ l. rest ++ joins l left.is_ready) there ∙ ap (λ (x : Left). rest ++ joins l x.is_ready) g.at.does.1)
            (c.queue-given.ensures.value ∙ (λ i. record b.outbox { frames = b.outbox.frames ++ waiting_in (there i) (birth i) turn.requested }))
            (c.add-2.ensures
            ∙ ap (λ log. logged log (line.Give left.birth turn.position turn.served c.queue-given.result)) c.add.ensures
            ∙ (λ i. logged (logged b.log (line.Take (first_birth i) (serves.position i) (serves.count i))) (line.Give (birth i) (serves.position i) (serves.served i) c.queue-given.result)))
            ∙ ap (λ n. record (with_dialogue (mid _ _ _ _ _ g rest) l g.at.after) {
              ready = rest ++ joins l (is_ready g.at.after);
              outbox = record b.outbox { frames = b.outbox.frames ++ waiting_in l serves.between.birth turn.requested };
              totals = more_served b.totals n;
              log = logged (logged b.log (line.Take g.at.before.birth done.turn.position (length done.turn.entries))) (line.Give serves.between.birth done.turn.position done.served c.queue-given.result);
            }) serves.served;
      };
      count_is = serves.served;
    })
    (linked b.ids c.end_serial_unless_held.new.ids local left.is_held c.end_serial_unless_held.ensures ∙ c.self.invariant.links)
    (turns_by b.turns b.turns g.at c.self.invariant.turns (omega (arith, turns_none g.at.before (idle g.at.before serves.takes.was_ready), serves.gives.out)))
    (timed_by b.deadlines c.set_deadline.new.deadlines g.at c.self.invariant.timed (c.set_deadline.ensures ∙ ap (λ (x : Left). with_deadline b.deadlines local x.deadline) g.at.does.1))

pub invariant_of-self-2 : goal.invariant_of-self-2
invariant_of-self-2 c = (served c).kept

pub returns-clause-serves : goal.returns-clause-serves
returns-clause-serves c = rw (← c.self.view_is) (served c).is

pub returns-clause-sound : goal.returns-clause-sound
returns-clause-sound c = (served c).kept.sound
