use Rattle.fp_book.proofs.Names.{List, [], ap, arith, length, length-append, length-map, map, refl, sym, waiting_frames, ◌++◌, ◌∙◌, ◌∷◌, ◌≡◌}
use Rattle.std.proofs.lemmas.Iterator.Adapters.{YieldsList-from_vec}
use Rattle.std.proofs.lemmas.Iterator.Consumers.{YieldsList-end, YieldsList-turn}
use Rattle.fp_book.proofs.Unsent.{waiting_as}
use Rattle.fp_book.proofs.outbox.push_all.Goals as goal

same : {A : Type 0} (xs : List A) → map (λ x. x) xs ≡ xs
same [] = refl
same (x ∷ xs) = ap (λ ys. x ∷ ys) (same xs)

pub push_back_reserved-requires : goal.push_back_reserved-requires
push_back_reserved-requires c =
    let gives = c.into_iter-frame-iterator.ensures.into_iter_gives in
    let turn = YieldsList-turn (YieldsList-from_vec {s = c.into_iter-frame-iterator.result} c.args.frames.items gives.0 (omega (arith, gives.1, c.args.frames.ok)))
    c.loop-frame.yielded c.loop-frame.frame-iterator c.loop-frame.yielded_by c.next.result c.next.new.self c.in-Some.frame c.in-Some.is c.next.ensures.steps in
    let count = ap length c.loop-frame.invariant.items ∙ length-append c.args.waiting.now.items (waiting_frames c.args.local c.args.birth c.loop-frame.yielded) in
    let more = length-map c.loop-frame.yielded (waiting_as c.args.local c.args.birth) in
    omega (arith, turn.0, count, more, c.requires, c.loop-frame.invariant.capacity, c.loop-frame.waiting.ok)

pub returns-clause-items : goal.returns-clause-items
returns-clause-items c =
    let gives = c.into_iter-frame-iterator.ensures.into_iter_gives in
    let end = YieldsList-end (YieldsList-from_vec {s = c.into_iter-frame-iterator.result} c.args.frames.items gives.0 (omega (arith, gives.1, c.args.frames.ok)))
    c.loop-frame.yielded c.loop-frame.frame-iterator c.loop-frame.yielded_by c.next.result c.next.new.self c.in-None.is c.next.ensures.steps in
    let all : c.loop-frame.yielded ≡ c.args.frames.items = sym (same c.loop-frame.yielded) ∙ end.0 in
    c.loop-frame.invariant.items ∙ ap (λ frames. c.args.waiting.now.items ++ waiting_frames c.args.local c.args.birth frames) all
