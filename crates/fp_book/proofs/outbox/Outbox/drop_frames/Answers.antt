use Rattle.fp_book.proofs.Names.{List, Outbox, Waiting, ap, filter, filter_same, is_of_other, rules, without_frames_of, ◌∙◌, ◌≡◌}
use Rattle.fp_book.proofs.outbox.Outbox.drop_frames.Goals as goal

-- the closure keeps the frames of each other dialogue
pub returns : goal.returns
returns c =
    let kept : c.retain.new.self.items ≡ filter (is_of_other c.args.local) c.self.inside.frames.items = filter_same _ (is_of_other c.args.local) _ (λ x kept f called. search rules) _ _ c.retain.ensures.filtered in
    let with_frames : List Waiting → Outbox = λ frames. record { aborts = c.self.inside.aborts.items; frames = frames; out = c.self.inside.sending } in
    ap with_frames kept ∙ ap (without_frames_of c.args.local) c.self.view_is
