use Rattle.fp_book.proofs.Names.{Inside, Sends, SendsAt, ap, arith, gone_with, logged, one_sent, refl, shelf_of, ◌∙◌}
use Rattle.fp_book.proofs.Kept.{Leaves, leaves, same_parts, timed_still, turns_by}
use Rattle.fp_book.proofs.Serials.{freed, given_of, linked}
use Rattle.fp_book.specs.declared.line.LoggedStep.TheVariants as line
use Rattle.fp_book.proofs.Downs.{abort_sends, frame_sends, sent_fits, unsent_out}
use Rattle.fp_book.proofs.book.Book.sent.Goals as goal

-- an Abort comes back: the parts of the book then
abbrev after_abort : goal.After-add → Inside
after_abort c = record c.self.inside { outbox = c.take_back.new.self; log = c.add.new.self }

abort : (c : goal.After-add) → Leaves (after_abort c) (Sends (shelf_of c.self.inside) c.args.parcel.content)
abort c =
    let s = shelf_of c.self.inside in
    leaves (after_abort c) s.gone (Sends s c.args.parcel.content) (λ then does. c.sending_keeps_a_book_sound.ensures.sends s then c.args.parcel.content c.self.invariant.sound does)
    (abort_sends s _ c.args.parcel.content c.in_default.ensures (c.in-Ok.ensures.known.0 refl).1 (same_parts s refl refl refl c.in-Ok.ensures.ok c.add.ensures))
    c.self.invariant.links c.self.invariant.turns c.self.invariant.timed

pub invariant_of-self-in_default : goal.invariant_of-self-in_default
invariant_of-self-in_default c = (abort c).kept

pub returns-in_default-clause-sound : goal.returns-in_default-clause-sound
returns-in_default-clause-sound c = (abort c).kept.sound

pub sent-is_held-requires : goal.sent-is_held-requires
sent-is_held-requires c = unsent_out c.self.inside c.args.parcel.content c.in-Some.local c.self.invariant c.in-Some.ensures (c.in-Ok.ensures.known.0 refl).1

pub overflow_add-self : goal.overflow_add-self
overflow_add-self c = omega (arith, sent_fits c.entries_ask_once_at_most.ensures c.self.inside c.self.invariant)

-- its dialogue is there, and its serial ends if nothing of it is left
pub end_serial_unless_held-requires : goal.end_serial_unless_held-requires
end_serial_unless_held-requires c _ = let h = c.sent-is_held.ensures in given_of c.self.inside c.in-Some.local h.before c.self.invariant h.was

-- a frame comes back: the parts of the book then
abbrev after_frame : goal.After-add-2 → Inside
after_frame c = record c.self.inside { ids = c.end_serial_unless_held.new.ids; rows = c.sent-is_held.new.rows; outbox = c.take_back.new.self; totals = one_sent c.self.inside.totals; log = c.add-2.new.self }

frame : (c : goal.After-add-2) → Leaves (after_frame c) (Sends (shelf_of c.self.inside) c.args.parcel.content)
frame c =
    let b = c.self.inside in
    let s = shelf_of b in
    let h : SendsAt b.rows c.in-Some.local c.sent-is_held.result c.sent-is_held.new.rows = c.sent-is_held.ensures in
    leaves (after_frame c) (gone_with s.gone h.after) (Sends s c.args.parcel.content) (λ then does. c.sending_keeps_a_book_sound.ensures.sends s then c.args.parcel.content c.self.invariant.sound does)
    (frame_sends s _ c.args.parcel.content c.in-Some.local c.sent-is_held.result c.sent-is_held.new.rows c.in-Some.ensures (c.in-Ok.ensures.known.0 refl).1 h
    (same_parts (record s { totals = one_sent b.totals; gone = gone_with s.gone h.after }) (freed b.ids c.end_serial_unless_held.new.ids c.in-Some.local c.sent-is_held.result h.after c.end_serial_unless_held.ensures h.does.1) h.rows refl c.in-Ok.ensures.ok
    (c.add-2.ensures ∙ ap (λ birth. logged b.log (line.Sent birth)) c.birth-birth.ensures)))
    (linked b.ids c.end_serial_unless_held.new.ids c.in-Some.local c.sent-is_held.result c.end_serial_unless_held.ensures ∙ c.self.invariant.links)
    (turns_by b.turns b.turns h c.self.invariant.turns (omega (arith, h.does.0.out)))
    (timed_still b.deadlines h c.self.invariant.timed h.does.0.deadline)

pub invariant_of-self-2 : goal.invariant_of-self-2
invariant_of-self-2 c = (frame c).kept

pub returns-clause-ok : goal.returns-clause-ok
returns-clause-ok c = rw (← c.self.view_is) (frame c).is

pub returns-clause-sound : goal.returns-clause-sound
returns-clause-sound c = (frame c).kept.sound
