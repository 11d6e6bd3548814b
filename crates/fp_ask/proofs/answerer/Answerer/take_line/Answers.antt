use Rattle.std.proofs.Common.{Some, refl, sym, ap, ◌∙◌}
use Rattle.std.specs.Prelude.{option_map}
use Rattle.fp_ask.specs.proof_only.Answering.{input_of}
use Rattle.fp_ask.proofs.Lines.{in_time, taken_message, taken_wait}
use Rattle.fp_ask.proofs.answerer.Answerer.take_line.Goals as goal

pub returns-in_ok-frames-in-Some-Message : goal.returns-in_ok-frames-in-Some-Message
returns-in_ok-frames-in-Some-Message c state at =
    taken_message c.args.table.now c.args.contexts.now state c.args.line.now _ c.read-came.result _ c.args.self.now _
    (sym c.in_ok-line_of.ensures ∙ ap (option_map input_of) c.in-Some-Message.is ∙ ap (λ l. Some (input_of l)) c.in-Some-Message.field-0-is) at c.read-came.ensures.is
    c.in_ok-frames-in-Some-Message.ensures.read
    (c.in_ok-frames-in-Some-Message.ensures.follows (record {
      contents = c.args.table.now;
      contexts = c.args.contexts.now;
      octets = _;
      moment = _;
      prepared = c.read-came.ensures.is;
    })) refl

pub returns-in_ok-frames-in-Some-Wait : goal.returns-in_ok-frames-in-Some-Wait
returns-in_ok-frames-in-Some-Wait c state at =
    let time = in_time _ _ _ (sym c.later.ensures ∙ c.in-Some.is) in
    taken_wait c.args.table.now c.args.contexts.now state c.args.line.now _ _ _ c.args.self.now _
    (sym c.in_ok-line_of.ensures ∙ ap (option_map input_of) c.in-Some-Wait.is ∙ ap (λ l. Some (input_of l)) c.in-Some-Wait.field-0-is) at time.0 time.1
    c.in_ok-frames-in-Some-Wait.ensures refl
