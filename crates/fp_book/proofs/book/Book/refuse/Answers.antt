use Rattle.fp_book.proofs.Names.{AnsweredBy, Closed, EndsAt, Refuse, Refuses, abort_for, ap, arrival_of, length, logged, shelf_of, subst, sym, verdict, ◌∙◌, ◌≡◌}
use Rattle.fp_book.proofs.Closes.{left_outbox, left_queue}
use Rattle.fp_book.proofs.Kept.{Leaves}
use Rattle.fp_book.proofs.Serials.{given_of}
use Rattle.fp_book.proofs.Grows.{ClosedAs, is_there, none_closed, one_closed, refused_book}
use Rattle.fp_book.proofs.book.Book.refuse.Goals.{in-Some, in_default}
use Rattle.fp_book.proofs.book.Book.refuse.Goals as goal

-- the dialogue that is closed is there
pub end-dropped-requires : goal.end-dropped-requires
end-dropped-requires c = is_there c.self.inside c.args.self.now c.args.came c.args.cause c.args.closes c.in-Some.local c.self.view_is c.requires c.in-Some.is

-- its serial ends, if nothing of it is left
pub end_serial_unless_held-requires : goal.end_serial_unless_held-requires
end_serial_unless_held-requires c _ = let h = c.end-dropped.ensures.ends in given_of c.self.inside c.in-Some.local h.before c.self.invariant h.was

-- the parts of the book if it is closed
closing : (c : goal.After-add) → ClosedAs c.self.inside c.match-closes.self-inside c.args.closes
closing c =
    elim c.match-closes.branch [
      | in-Some w ↦ rw (w.self-inside-is, w.in-Some.is) (
          let g = w.end-dropped.ensures.ends in
          one_closed c.self.inside w.in-Some.local w.end-dropped.result.is_held w.end_serial_unless_held.new.ids w.end-dropped.new.rows w.clear.new.self w.leave_if.new.ready w.drop_frames_if.new.outbox c.self.invariant
          (subst (λ b. EndsAt c.self.inside.rows w.in-Some.local Closed b w.end-dropped.result.is_held w.end-dropped.new.rows) w.is_sending-is_sending.ensures g) w.end_serial_unless_held.ensures w.clear.ensures
          (left_queue (shelf_of c.self.inside) w.in-Some.local g.before w.is_sending-is_sending.result w.end-dropped.result w.leave_if.new.ready c.self.invariant.sound g.was
          (w.end-dropped.ensures.dropped g.before g.was) w.leave_if.ensures)
          (left_outbox (shelf_of c.self.inside) w.in-Some.local g.before w.is_sending-is_sending.result w.end-dropped.result w.drop_frames_if.new.outbox c.self.invariant.sound g.was
          (w.end-dropped.ensures.dropped g.before g.was) w.is_sending-is_sending.ensures w.drop_frames_if.ensures))
      | in_default w ↦ rw (w.self-inside-is, w.in_default.is) (none_closed c.self.inside c.self.invariant)
    ]

-- it is the one that is to be closed
closes : (c : goal.After-add) → c.match-closes.closes ≡ c.args.closes
closes c =
    elim c.match-closes.branch [
      | in-Some w ↦ w.closes-is ∙ sym w.in-Some.is
      | in_default w ↦ w.closes-is
    ]

-- the message is answered
answers : (c : goal.After-add)
    → AnsweredBy c.match-closes.self-inside.outbox (abort_for (length c.match-closes.self-inside.outbox.aborts) c.args.cause (arrival_of c.args.came).ids.orig) c.args.closes c.answer_by-answer.result c.answer_by-answer.new.outbox
answers c = rw (← c.arrival.ensures, ← closes c) c.answer_by-answer.ensures

refused : (c : goal.After-add)
    → Leaves (record c.match-closes.self-inside { outbox = c.answer_by-answer.new.outbox; log = c.add.new.self }) (Refuses (shelf_of c.self.inside) c.args.cause c.args.closes c.args.came c.answer_by-answer.result)
refused c =
    refused_book c.messages_keep_a_book_sound.ensures c.self.inside c.match-closes.self-inside c.answer_by-answer.new.outbox c.add.new.self c.args.cause c.args.closes c.args.came c.answer_by-answer.result
    c.self.invariant (subst (λ s. verdict s c.args.came ≡ Refuse c.args.cause c.args.closes) (sym c.self.view_is) c.requires) (closing c) (answers c) (c.add.ensures ∙ ap (logged c.match-closes.self-inside.log) c.line_of.ensures)

pub invariant_of-self : goal.invariant_of-self
invariant_of-self c = (refused c).kept

-- the message is refused
pub returns : goal.returns
returns c = rw (← c.self.view_is) (refused c).is
