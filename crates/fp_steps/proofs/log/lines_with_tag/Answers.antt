use Rattle.fp_steps.proofs.Names.{length, length_push, rules, subst, sym, take, ◌≡◌}
use Rattle.std.proofs.lemmas.Slice.Zip.{zip_turn}
use Rattle.std.specs.Iterator.Adapters.{zip_first, zip_second}
use Rattle.std.specs.Slice.Iter.{iter_rest}
use Rattle.fp_steps.proofs.LogSoFar.{Logging, logging_next}
use Rattle.fp_steps.proofs.log.lines_with_tag.Goals as goal

pub loop-step-preserved : goal.loop-step-preserved
loop-step-preserved c =
    let steps = c.args.steps.now in let outputs = c.args.outputs.now in
    let first : iter_rest (zip_first c.into_iter-step-iterator.result) ≡ steps = search rules in
    let second : iter_rest (zip_second c.into_iter-step-iterator.result) ≡ outputs = search rules in
    let t = zip_turn steps outputs c.loop-step.yielded c.into_iter-step-iterator.result c.loop-step.step-iterator c.next.new.self c.next.result first second c.loop-step.yielded_by (c.in-Some.step, c.in-Some.output) c.in-Some.is c.next.ensures.steps in
    subst (λ n. Logging c.args.link c.args.tag (take n steps) (take n outputs) c.tell.new.self.lines.items c.tell.new.self.named c.tell.new.self.turns.items c.tell.new.self.sending) (sym (length_push c.loop-step.yielded (c.in-Some.step, c.in-Some.output)))
    (logging_next steps outputs (length c.loop-step.yielded) c.in-Some.step.now c.in-Some.output.now c.tell.new.self.lines.items c.tell.new.self.named c.tell.new.self.turns.items c.tell.new.self.sending
    c.loop-step.invariant t.0 t.1 (t.2 c.in-Some.step.now) (t.3 c.in-Some.output.now)
    (record { lines = c.in_ok-tell.ensures.lines; ranges = c.in_ok-tell.ensures.ranges; named = c.in_ok-tell.ensures.named; turns_are = c.in_ok-tell.ensures.turns; sending = c.in_ok-tell.ensures.sending }))
