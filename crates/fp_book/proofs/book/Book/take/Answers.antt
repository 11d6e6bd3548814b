use Rattle.fp_book.proofs.Names.{HandsOutAt, Inside, TakesTurn, ap, arith, logged, places_held, refl, shelf_of, subst, sym, ◌+◌, ◌-◌, ◌<◌, ◌∙◌, ◌∷◌, ◌≡◌, most_places}
use Rattle.fp_book.specs.declared.line.LoggedStep.TheVariants as line
use Rattle.fp_book.specs.declared.taken.Taken.TheVariants.{Turn as ATurn}
use Rattle.fp_book.proofs.Changes.{turns_none}
use Rattle.fp_book.proofs.Kept.{Leaves, leaves, same_parts, timed_still, turns_by}
use Rattle.fp_book.proofs.Turns.{first_is, first_is_ready, held_out, idle, taken_out, turn_is_of}
use Rattle.fp_book.proofs.Sums.{put_held}
use Rattle.fp_book.proofs.book.Book.take.Goals as goal

pub take-requires-clause-ready : goal.take-requires-clause-ready
take-requires-clause-ready c = first_is_ready (shelf_of c.self.inside) c.in-Some.local c.self.invariant.sound (sym c.first.ensures ∙ c.in-Some.is)

-- the places that are held, and the turn
held_is : (c : goal.After-add) → c.places_held-held.result ≡ places_held (shelf_of c.self.inside)
held_is c = c.places_held-held.ensures ∙ sym (ap places_held c.self.view_is)

handed : (c : goal.After-add) → HandsOutAt (most_places - places_held (shelf_of c.self.inside)) c.self.inside.rows c.in-Some.local c.in-Ok.turn c.take.new.rows
handed c = subst (λ n. HandsOutAt (most_places - n) c.self.inside.rows c.in-Some.local c.in-Ok.turn c.take.new.rows) (held_is c) c.in-Ok.ensures.ok

-- the parts of the book then
abbrev after : goal.After-add → Inside
after c = record c.self.inside { rows = c.take.new.rows; ready = c.next.new.self; turns = c.self.inside.turns + c.count-count.result; log = c.add.new.self }

taken : (c : goal.After-add) → Leaves (after c) (TakesTurn (shelf_of c.self.inside) c.in-Ok.turn)
taken c =
    let b = c.self.inside in
    let turn = c.in-Ok.turn in
    let free = most_places - places_held (shelf_of b) in
    let taken = handed c in
    let here : turn.local ≡ c.in-Some.local = turn_is_of free (shelf_of b) c.in-Some.local turn c.take.new.rows c.self.invariant.sound taken in
    let h : HandsOutAt free b.rows turn.local turn c.take.new.rows = subst (λ l. HandsOutAt free b.rows l turn c.take.new.rows) (sym here) taken in
    leaves (after c) (shelf_of b).gone (TakesTurn (shelf_of b) turn)
    (λ s does. c.turns_keep_a_book_sound.ensures.takes (shelf_of b) s (ATurn turn) c.self.invariant.sound does)
    (record {
      before = h.before;
      after = h.after;
      rest = c.next.new.self;
      was = h.was;
      takes = h.does;
      first = first_is b.ready c.next.new.self c.in-Some.local c.next.result (sym c.first.ensures ∙ c.in-Some.is) c.next.ensures.taken c.next.ensures.none ∙ ap (λ l. l ∷ c.next.new.self) (sym here);
      room = subst (λ n. n < most_places) (held_is c) c.if-held-ge-MOST_FRAMES.false;
      new_is = same_parts (shelf_of b) refl (h.rows ∙ sym (put_held b.rows turn.local h.after (held_out h.after (taken_out free h.before turn h.after h.does)))) refl refl
          (c.add.ensures ∙ (λ i. logged b.log (line.Take ((c.birth.ensures ∙ h.does.birth) i) (c.position-position.ensures i) (c.count-count.ensures i))));
    })
    c.self.invariant.links
    (turns_by b.turns (b.turns + c.count-count.result) h c.self.invariant.turns (omega (arith, turns_none h.before (idle h.before h.does.was_ready), h.does.out, c.count-count.ensures)))
    (timed_still b.deadlines h c.self.invariant.timed h.does.deadline)

pub invariant_of-self-2 : goal.invariant_of-self-2
invariant_of-self-2 c = (taken c).kept

pub returns-clause-takes : goal.returns-clause-takes
returns-clause-takes c = rw (← c.self.view_is) (taken c).is

pub returns-clause-sound : goal.returns-clause-sound
returns-clause-sound c = (taken c).kept.sound
