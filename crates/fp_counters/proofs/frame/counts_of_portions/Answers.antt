-- One Invoke, or all portions.
use Rattle.std.proofs.Common.{List, ℕ, ap, drop, refl, ◌∙◌}
use Rattle.fp_counters.proofs.Sent.{one_counted}
use Rattle.fp_counters.proofs.frame.counts_of_portions.Goals as goal

pub returns : goal.returns
returns c = λ acceptance all bound is.
    one_counted c.args.portions.now c.after-contents.result.now _ c.args.message c.args.ends_dialogue all
    (c.after-contents.ensures.is ∙ ap (λ (o : List ℕ). drop 2 o) c.after-component.ensures.is) (c.if-not-is_one_invoke.ensures acceptance all is refl)
    c.invoke_counter.ensures
