use Rattle.fp_book.proofs.Names.{Hands, Inside, Picks, ap, logged, refl, shelf_of, subst, ◌∙◌}
use Rattle.fp_book.proofs.Kept.{Leaves, leaves, same_parts}
use Rattle.fp_book.specs.declared.line.LoggedStep.TheVariants as line
use Rattle.fp_book.specs.declared.parcel.Picked.TheVariants as answers
use Rattle.fp_book.proofs.book.Book.pick.Goals as goal

-- the parts of the book then
abbrev after : goal.After-add → Inside
after c = record c.self.inside { outbox = c.pick-picked.new.self; log = c.add.new.self }

picked : (c : goal.After-add) → Leaves (after c) (Hands (shelf_of c.self.inside) (answers.Parcel c.in-Parcel.parcel))
picked c =
    let b = c.self.inside in
    let parcel = c.in-Parcel.parcel in
    let rest = c.pick-picked.new.self in
    let picks : Picks b.link b.outbox (answers.Parcel parcel) rest = subst (λ r. Picks b.link b.outbox r rest) c.in-Parcel.is c.pick-picked.ensures in
    leaves (after c) (shelf_of b).gone (Hands (shelf_of b) (answers.Parcel parcel)) (λ s does. c.sending_keeps_a_book_sound.ensures.picks (shelf_of b) s parcel.content c.self.invariant.sound does.1) (
      picks.3,
      record {
        rest = rest;
        none_out = picks.0;
        next = picks.1;
        new_is = same_parts (shelf_of b) refl refl refl (ap (λ out. record { aborts = rest.aborts; frames = rest.frames; out = out }) picks.2) (c.add.ensures ∙ ap (λ l. logged b.log (line.Pick l)) c.birth-birth.ensures);
      },
    )
    c.self.invariant.links c.self.invariant.turns c.self.invariant.timed

pub invariant_of-self : goal.invariant_of-self
invariant_of-self c = (picked c).kept

pub returns-in-Parcel : goal.returns-in-Parcel
returns-in-Parcel c = record { hands = rw (← c.self.view_is) (rw c.in-Parcel.is (picked c).is); sound = (picked c).kept.sound }
