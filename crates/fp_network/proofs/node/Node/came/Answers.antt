use Rattle.std.proofs.Common.{ℕ, [], ◌∷◌, ap, refl, subst, sym, ◌∙◌}
use Rattle.fp_network.specs.declared.event.Closing.TheVariants.{TooMany}
use Rattle.fp_network.specs.declared.event.NetworkEvent.TheVariants.{Came, Gone}
use Rattle.fp_network.specs.declared.tally.Tally.{Tally}
use Rattle.fp_network.specs.Counting.{Notes}
use Rattle.fp_network.specs.Tally.{closed_once_more, closings_of}
use Rattle.fp_network.proofs.Keeping.{free_over, keeps_away, keeps_places}
use Rattle.fp_network.proofs.News.{notes_from, notes_then}
use Rattle.fp_network.proofs.node.Node.came.Goals as goal

pub returns-in_default-clause-came : goal.returns-in_default-clause-came
returns-in_default-clause-came c =
    (c.in_default.ensures, λ place. rw (c.count_closing.ensures.places, c.note.ensures.places))

pub returns-clause-came : goal.returns-clause-came
returns-clause-came c =
    let new = c.in_ok-connection.ensures in (
      c.in-Some.ensures,
      (rw (c.note-2.ensures.places, c.put.ensures.here) (new.state, new.open, new.came, new.reader, new.asks, new.reads)),
      λ other apart. rw c.note-2.ensures.places (c.put.ensures.others other apart),
    )

pub returns-in_default-clause-counted : goal.returns-in_default-clause-counted
returns-in_default-clause-counted c other =
    c.count_closing.ensures.counted other
    ∙ ap (λ (tally : Tally). closed_once_more TooMany other (closings_of tally other)) (c.note.ensures.tally ∙ c.connection-number.ensures.counted)

pub returns-clause-counted : goal.returns-clause-counted
returns-clause-counted c other =
    ap (λ (tally : Tally). closings_of tally other) (c.note-2.ensures.tally ∙ c.put.ensures.tally ∙ c.connection-number.ensures.counted)

-- the number that the event has is the one that was counted
pub returns-in_default-clause-news : goal.returns-in_default-clause-news
returns-in_default-clause-news c =
    let refused = c.count_closing.ensures in
    let is = refused.connections ∙ ap (λ (t : Tally). t.connections) (c.note.ensures.tally ∙ c.connection-number.ensures.counted) in
    subst (λ (number : ℕ). Notes (Came number c.args.peer ∷ Gone number TooMany ∷ []) c.args.self.now c.count_closing.new.self) (sym is)
    (notes_then _ _ c.args.self.now _ c.count_closing.new.self (notes_from _ c.args.self.now _ _ refl c.note.ensures.news) refused.news)

pub returns-clause-news : goal.returns-clause-news
returns-clause-news c =
    let is = ap (λ (t : Tally). t.connections) (c.note-2.ensures.tally ∙ c.put.ensures.tally ∙ c.connection-number.ensures.counted) in
    subst (λ (number : ℕ). Notes (Came number c.args.peer ∷ []) c.args.self.now c.note-2.new.self) (sym is)
    (notes_from _ c.args.self.now _ _ c.put.ensures.news c.note-2.ensures.news)

pub returns-in_default-clause-tied : goal.returns-in_default-clause-tied
returns-in_default-clause-tied c =
    keeps_places c.args.self.now c.count_closing.new.self (c.count_closing.ensures.adaptor ∙ c.note.ensures.adaptor)
    (c.count_closing.ensures.places ∙ c.note.ensures.places)

pub returns-clause-tied : goal.returns-clause-tied
returns-clause-tied c =
    keeps_away c.in-Some.place c.args.self.now c.note-2.new.self (c.note-2.ensures.adaptor ∙ c.put.ensures.adaptor)
    (free_over _ c.in-Some.ensures.1) (λ other apart. rw c.note-2.ensures.places (c.put.ensures.others other apart))
