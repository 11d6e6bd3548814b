use Rattle.fp_book.proofs.Names.{GivesAt, GivesDone, HasRoom, Inside, IsGiven, Left, Turn, ap, arith, frames_in, free_with, gone_with, is_ready, joins, length, logged, more_served, shelf_of, subst, sym, waiting_in, with_deadline, with_dialogue, ◌++◌, ◌-◌, ◌∙◌, ◌≡◌}
use Rattle.fp_book.specs.declared.line.LoggedStep.TheVariants as line
use Rattle.fp_book.proofs.Kept.{Leaves, few_entries, few_served, leaves, out_few, place_to_join, place_to_queue, room_for, same_parts, timed_by}
use Rattle.fp_book.proofs.Serials.{freed, given_of, linked}
use Rattle.fp_book.proofs.Turns.{few_requests, fewer_turns, is_out, not_ready_out, turn_there}
use Rattle.fp_book.proofs.book.Book.give.Goals as goal

pub overflow_sub-self : goal.overflow_sub-self
overflow_sub-self c =
    let h = c.in-Ok.ensures.ok in
    turn_there c.self.inside c.args.done.turn.local h.before c.count-count.result c.self.invariant h.was (c.count-count.ensures ∙ ap (λ (turn : Turn). length turn.entries) c.turn-3.ensures ∙ h.does.0.count)

pub overflow_add-self : goal.overflow_add-self
overflow_add-self c =
    let s = shelf_of c.self.inside in
    let h = c.in-Ok.ensures.ok in
    omega (arith, few_served s c.self.invariant.sound, few_entries s c.self.invariant.sound, c.served-served_count.ensures, h.does.0.few_served, out_few s c.args.done.turn.local h.before c.self.invariant.sound h.was)

pub overflow_cast-served_count : goal.overflow_cast-served_count
overflow_cast-served_count c =
    let h = c.in-Ok.ensures.ok in
    omega (arith, c.served-served_count.ensures, h.does.0.few_served, out_few (shelf_of c.self.inside) c.args.done.turn.local h.before c.self.invariant.sound h.was)

-- its serial ends, if nothing of it is left
pub end_serial_unless_held-requires : goal.end_serial_unless_held-requires
end_serial_unless_held-requires c _ =
    let h = c.in-Ok.ensures.ok in
    let here : c.local-local.result ≡ c.args.done.turn.local = c.local-local.ensures ∙ ap (λ (turn : Turn). turn.local) c.turn.ensures in
    subst (IsGiven c.self.inside.ids) (sym here) (given_of c.self.inside c.args.done.turn.local h.before c.self.invariant h.was)

-- there is a place for its deadline
pub set_deadline-requires : goal.set_deadline-requires
set_deadline-requires c =
    let h = c.in-Ok.ensures.ok in
    let here : c.local-local.result ≡ c.args.done.turn.local = c.local-local.ensures ∙ ap (λ (turn : Turn). turn.local) c.turn.ensures in
    subst (HasRoom c.self.inside.deadlines) (sym here)
    (room_for c.self.inside.deadlines c.self.inside.rows c.args.done.turn.local h.before c.self.invariant.timed h.was c.self.invariant.sound.held)

pub join-requires : goal.join-requires
join-requires c = λ _.
    let h = c.in-Ok.ensures.ok in
    place_to_join (shelf_of c.self.inside) c.args.done.turn.local h.before c.self.invariant.sound h.was
    (not_ready_out h.before (is_out h.before c.args.done.turn h.does.0.was_out).is_out)

pub queue-given-requires-clause-place : goal.queue-given-requires-clause-place
queue-given-requires-clause-place c =
    let h = c.in-Ok.ensures.ok in
    place_to_queue (shelf_of c.self.inside) c.args.done.turn.local h.before (length (frames_in c.in-Ok.served.requested)) c.self.invariant.sound h.was h.does.0.few_frames

-- no more than the entries that were out, which have a place each
pub queue-given-requires-clause-few : goal.queue-given-requires-clause-few
queue-given-requires-clause-few c =
    let s = shelf_of c.self.inside in
    let h = c.in-Ok.ensures.ok in
    omega (arith, few_requests h.before h.after c.args.done c.in-Ok.served.requested h.does.0 (c.turns_are_served_by_the_step.ensures c.args.done), out_few s c.args.done.turn.local h.before c.self.invariant.sound h.was, c.self.invariant.sound.places)

-- the parts of the book then
abbrev after : goal.After-add → Inside
after c = record c.self.inside {
  ids = c.end_serial_unless_held.new.ids;
  rows = c.give.new.rows;
  deadlines = c.set_deadline.new.deadlines;
  ready = c.join.new.ready;
  outbox = c.queue-given.new.outbox;
  turns = c.self.inside.turns - c.count-count.result;
  totals = more_served c.self.inside.totals c.served-served_count.result;
  log = c.add.new.self;
}

given : (c : goal.After-add) → Leaves (after c) (GivesDone (shelf_of c.self.inside) c.args.done c.queue-given.result)
given c =
    let b = c.self.inside in
    let done = c.args.done in
    let l = done.turn.local in
    let asked = c.in-Ok.served.requested in
    let left = c.in-Ok.served.left in
    let h : GivesAt b.rows done asked left c.give.new.rows = c.in-Ok.ensures.ok in
    let here : c.local-local.result ≡ l = c.local-local.ensures ∙ ap (λ (turn : Turn). turn.local) c.turn.ensures in
    let place : c.position-position.result ≡ done.turn.position = c.position-position.ensures ∙ ap (λ (turn : Turn). turn.position) c.turn-2.ensures in
    let birth : left.birth ≡ h.before.birth = ap (λ (x : Left). x.birth) h.does.1 ∙ h.does.0.same.birth in
    let count = c.count-count.ensures ∙ ap (λ (turn : Turn). length turn.entries) c.turn-3.ensures in
    leaves (after c) (gone_with (shelf_of b).gone h.after) (GivesDone (shelf_of b) done c.queue-given.result)
    (λ s does. c.turns_keep_a_book_sound.ensures.gives (shelf_of b) s done c.queue-given.result c.self.invariant.sound does)
    (record {
      before = h.before;
      after = h.after;
      asked = asked;
      was = h.was;
      gives = h.does.0;
      given_is = c.queue-given.ensures.given;
      new_is = same_parts (record (shelf_of b) { totals = more_served b.totals c.served-served_count.result; gone = gone_with (shelf_of b).gone h.after })
          (freed b.ids c.end_serial_unless_held.new.ids c.local-local.result left.is_held h.after c.end_serial_unless_held.ensures (ap (λ (x : Left). x.is_held) h.does.1) ∙ ap (λ l. free_with b.ids.queue l h.after) here) h.rows
          (c.join.ensures ∙ ap (λ l. b.ready ++ joins l left.is_ready) here ∙ ap (λ (x : Left). b.ready ++ joins l x.is_ready) h.does.1)
          (c.queue-given.ensures.value ∙ (λ i. record b.outbox { frames = b.outbox.frames ++ waiting_in (here i) (birth i) asked }))
          (c.add.ensures ∙ (λ i. logged b.log (line.Give (birth i) (place i) (c.served-served_count.ensures i) c.queue-given.result)))
          ∙ ap (λ n. record (with_dialogue (shelf_of b) l h.after) {
            ready = b.ready ++ joins l (is_ready h.after);
            outbox = record b.outbox { frames = b.outbox.frames ++ waiting_in l h.before.birth asked };
            totals = more_served b.totals n;
            log = logged b.log (line.Give h.before.birth done.turn.position done.served c.queue-given.result);
          }) c.served-served_count.ensures;
    })
    (linked b.ids c.end_serial_unless_held.new.ids c.local-local.result left.is_held c.end_serial_unless_held.ensures ∙ c.self.invariant.links)
    (fewer_turns b c.count-count.result h c.self.invariant (count ∙ h.does.0.count) h.does.0.out)
    (timed_by b.deadlines c.set_deadline.new.deadlines h c.self.invariant.timed
    (c.set_deadline.ensures ∙ ap (λ l. with_deadline b.deadlines l left.deadline) here ∙ ap (λ (x : Left). with_deadline b.deadlines l x.deadline) h.does.1))

pub invariant_of-self-2 : goal.invariant_of-self-2
invariant_of-self-2 c = (given c).kept

pub returns-clause-ok : goal.returns-clause-ok
returns-clause-ok c = rw (← c.self.view_is) (given c).is

pub returns-clause-sound : goal.returns-clause-sound
returns-clause-sound c = (given c).kept.sound
