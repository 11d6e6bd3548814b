use Rattle.fp_book.proofs.Names.{ClosesAt, GoesDown, None, ap, birth_of, get, is_frame_of, logged, refl, shelf_of, subst, without_waiting, ◌∙◌}
use Rattle.fp_book.proofs.Kept.{Leaves}
use Rattle.fp_book.proofs.Downs.{down_book, gone_down}
use Rattle.fp_book.specs.declared.line.LoggedStep.TheVariants as line
use Rattle.fp_book.proofs.book.Book.unsent.Goals as goal

leaves : (c : goal.After-add) → Leaves (down_book c.self.inside c.close_all.new.rows c.close_all.new.deadlines c.clear.new.self c.clear-2.new.self c.add.new.self)
    (λ new. GoesDown None (shelf_of c.self.inside) (line.Unsent (birth_of c.args.parcel.content)) new)
leaves c =
    gone_down c.self.inside None (line.Unsent (birth_of c.args.parcel.content)) c.close_all.new.rows c.close_all.new.deadlines c.clear.new.self c.clear-2.new.self c.add.new.self
    (λ new down.
    c.going_down_keeps_a_book_sound.ensures.unsent (shelf_of c.self.inside) new c.args.parcel c.self.invariant.sound
    (record { was_out = (c.in-Ok.ensures.known.0 refl).1; down = down }))
    c.self.invariant
    (λ q. subst (λ o. ClosesAt (is_frame_of q o) (get c.self.inside.rows q) (get c.close_all.new.rows q)) (ap (λ o. o.out) c.in-Ok.ensures.ok) (c.close_all.ensures.closes q))
    c.close_all.ensures.timed c.clear.ensures (c.clear-2.ensures ∙ ap without_waiting c.in-Ok.ensures.ok)
    (c.add.ensures ∙ ap (λ birth. logged c.self.inside.log (line.Unsent birth)) c.birth-birth.ensures)

pub invariant_of-self-2 : goal.invariant_of-self-2
invariant_of-self-2 c = (leaves c).kept

pub returns-clause-ok : goal.returns-clause-ok
returns-clause-ok c = rw (← c.self.view_is) (record { was_out = (c.in-Ok.ensures.known.0 refl).1; down = (leaves c).is })

pub returns-clause-sound : goal.returns-clause-sound
returns-clause-sound c = (leaves c).kept.sound
