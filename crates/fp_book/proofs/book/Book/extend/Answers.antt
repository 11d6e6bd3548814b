use Rattle.fp_book.proofs.Names.{Accepted, Bool, Extend, ExtendsAt, Follows, Inside, Left, Message, Prepared, Shelf, ap, are_some, arith, arrival_of, entries_in, gone_with, inl, is_frame_of, joins, length, logged, more_accepted, refl, shelf_of, subst, sym, verdict, with_deadline, ℕ, ◌++◌, ◌+◌, ◌∙◌, ◌≡◌, ◌≤◌, most_elements}
use Rattle.fp_book.specs.declared.line.LoggedStep.TheVariants as line
use Rattle.fp_book.proofs.Closes.{drops_as}
use Rattle.fp_book.proofs.Fits.{can_extend}
use Rattle.fp_book.proofs.Grows.{grown_out, grown_shelf, was_idle}
use Rattle.fp_book.proofs.Kept.{Leaves, leaves, place_to_join, room_for, same_parts, timed_by, turns_by}
use Rattle.fp_book.proofs.Counts.{receipt_lost, receipt_of, some_of}
use Rattle.fp_book.proofs.Serials.{freed, given_of, linked}
use Rattle.fp_book.proofs.Turns.{components_few, frames_at}
use Rattle.fp_book.proofs.book.Book.extend.Goals as goal

-- the dialogue takes messages
pub extend-requires : goal.extend-requires
extend-requires c = (can_extend (shelf_of c.self.inside) c.args.self.now c.args.came c.args.local c.args.ends c.self.view_is c.requires).0

-- if nothing of it is left its serial ends
pub end_serial_unless_held-requires : goal.end_serial_unless_held-requires
end_serial_unless_held-requires c _ = let h = c.in-Ok.ensures.ok in given_of c.self.inside c.args.local h.before c.self.invariant h.was

-- there is a place for its deadline
pub set_deadline-requires : goal.set_deadline-requires
set_deadline-requires c = let h = c.in-Ok.ensures.ok in room_for _ _ _ h.before c.self.invariant.timed h.was c.self.invariant.sound.held

-- and for it among those that are ready, if it has become so
pub join-requires : goal.join-requires
join-requires c is = let h = c.in-Ok.ensures.ok in place_to_join _ _ h.before c.self.invariant.sound h.was (was_idle h.before h.after c.in-Ok.extended.left _ h.does.1 is)

-- a message has few entries
few : (s : Shelf) (came message : Prepared) (local : ℕ) (ends : Bool) → verdict s came ≡ Extend local ends → came ≡ message → length (entries_in message) ≤ most_elements + 1
few s came message local ends is same = subst (λ (m : Prepared). length (entries_in m) ≤ most_elements + 1) same (can_extend s s came local ends refl is).1

pub overflow_cast-posted : goal.overflow_cast-posted
overflow_cast-posted c = omega (arith, c.len-count.ensures, few c.args.self.now c.args.came _ c.args.local c.args.ends c.requires c.in-Message.is)

-- and few components
pub overflow_cast-result : goal.overflow_cast-result
overflow_cast-result c =
    omega (arith, c.component_count-components.ensures, components_few c.in-Message.incoming.entries, few c.args.self.now c.args.came _ c.args.local c.args.ends c.requires c.in-Message.is)

-- the parts of the book then
abbrev after : goal.After-add → Inside
after c = record c.self.inside {
  ids = c.end_serial_unless_held.new.ids;
  entries = c.self.inside.entries + c.len-count.result;
  rows = c.extend.new.rows;
  deadlines = c.set_deadline.new.deadlines;
  ready = c.join.new.ready;
  outbox = c.drop_frames_if.new.outbox;
  totals = record c.self.inside.totals { accepted = c.self.inside.totals.accepted + c.component_count-components.result };
  log = c.add.new.self;
}

-- the dialogue has accepted the message
extended : (c : goal.After-add)
    → Leaves (after c) (Follows (Extend c.args.local c.args.ends) (shelf_of c.self.inside) (Message c.in-Message.arrival c.in-Message.incoming) (Accepted c.len-count.result))
extended c =
    let b = c.self.inside in
    let s = shelf_of b in
    let k = c.self.invariant in
    let local = c.args.local in
    let ends = c.args.ends in
    let left = c.in-Ok.extended.left in
    let came = Message c.in-Message.arrival c.in-Message.incoming in
    let answer = Accepted c.len-count.result in
    let h : ExtendsAt b.rows local c.in-Message.incoming.entries ends (is_frame_of local b.outbox.out) left c.extend.new.rows = rw (← c.is_sending-is_sending.ensures) c.in-Ok.ensures.ok in
    let is : verdict s came ≡ Extend local ends = subst (λ (m : Prepared). verdict s m ≡ Extend local ends) c.in-Message.is (subst (λ t. verdict t c.args.came ≡ Extend local ends) (sym c.self.view_is) c.requires) in
    let drops : c.in-Ok.extended.drops_frames ≡ _ = c.in-Ok.ensures.drops h.before h.was in
    leaves (after c) (gone_with s.gone h.after) (Follows (Extend local ends) s came answer)
    (λ then does. c.messages_keep_a_book_sound.ensures s then came answer k.sound (inl (subst (λ v. Follows v s came answer then) (sym is) does)))
    (grown_shelf s _ came local ends left c.extend.new.rows answer h (can_extend s s came local ends refl is).0 (ap Accepted c.len-count.ensures)
    (rw (c.len-count.ensures, c.component_count-components.ensures) (same_parts (record s {
      entries = b.entries + length c.in-Message.incoming.entries;
      totals = more_accepted b.totals c.in-Message.incoming.entries;
      gone = gone_with s.gone h.after;
    }) (freed b.ids c.end_serial_unless_held.new.ids local left.is_held h.after c.end_serial_unless_held.ensures (ap (λ (x : Left). x.is_held) h.does.1)) h.rows (c.join.ensures ∙ ap (λ (x : Left). b.ready ++ joins local x.is_ready) h.does.1)
    (c.drop_frames_if.ensures ∙ drops_as s local h.before ends c.in-Ok.extended.drops_frames (frames_at s local _ k.sound h.was) (rw (← c.is_sending-is_sending.ensures) drops))
    (c.add.ensures ∙ ap (λ n. logged b.log (line.Post c.in-Message.arrival.table c.in-Message.arrival.moment c.in-Message.arrival.frame (Accepted n))) c.len-count.ensures))))
    (linked b.ids c.end_serial_unless_held.new.ids local left.is_held c.end_serial_unless_held.ensures ∙ k.links)
    (turns_by b.turns b.turns h k.turns (omega (arith, grown_out c.in-Message.incoming.entries ends (is_frame_of local b.outbox.out) h.before h.after h.does.0)))
    (timed_by b.deadlines c.set_deadline.new.deadlines h k.timed (c.set_deadline.ensures ∙ ap (λ (x : Left). with_deadline b.deadlines local x.deadline) h.does.1))

pub invariant_of-self-2 : goal.invariant_of-self-2
invariant_of-self-2 c = (extended c).kept

pub returns : goal.returns
returns c =
    rw c.in-Message.is (receipt_of (Extend c.args.local c.args.ends) c.args.self.now (shelf_of (after c)) (Message c.in-Message.arrival c.in-Message.incoming) (Accepted c.len-count.result) c.component_count-components.result
    (subst (λ (m : Prepared). verdict c.args.self.now m ≡ Extend c.args.local c.args.ends) c.in-Message.is c.requires) c.component_count-components.ensures (rw (← c.self.view_is) (extended c).is))

-- memory ran out
pub returns-in_default-extend : goal.returns-in_default-extend
returns-in_default-extend c =
    rw c.not_accepted.ensures (receipt_lost (Extend c.args.local c.args.ends) c.args.self.now (shelf_of (record c.self.inside { rows = c.extend.new.rows })) c.lose.new.self c.args.came c.in-Message.arrival c.lose.result c.requires
    (ap (λ (m : Prepared). are_some (entries_in m)) c.in-Message.is ∙ some_of c.in-Message.incoming.entries c.in_default-extend.ensures.only)
    (sym (ap arrival_of c.in-Message.is)) (ap (λ rows. shelf_of (record c.self.inside { rows = rows })) c.in_default-extend.ensures.err ∙ c.self.view_is) c.lose.ensures)
