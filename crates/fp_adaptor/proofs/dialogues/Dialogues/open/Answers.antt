use Rattle.std.proofs.Common.{cond, Some, rules, ◌∙◌}
use Rattle.std.specs.BTreeMap.{Updates}
use Rattle.std.specs.Cmp.Lexicographic.{slice_cmp}
use Rattle.std.specs.Ordering.{nat_cmp}
use Rattle.fp_adaptor.specs.Dialogues.{is_same}
use Rattle.fp_adaptor.specs.Seen.{at_exchange, at_local}
use Rattle.fp_adaptor.proofs.Following.{opens}
use Rattle.fp_adaptor.proofs.dialogues.Dialogues.open.Goals as goal

pub returns : goal.returns
returns c = λ known sees.
    let here = c.key_of-key.ensures in
    let there = c.key_of-exchange_key.ensures in
    let before = c.forget_local.new.self in
    let less = c.forget_local.ensures _ (c.forget_exchange.ensures known sees) in
    let put : Updates (slice_cmp nat_cmp) before.by_local c.insert.new.self c.key_of-key.result (Some c.key_of-exchange_key.result) = search rules in
    let led : Updates (slice_cmp nat_cmp) before.by_exchange c.insert-2.new.self c.key_of-exchange_key.result (Some c.args.local) = search rules in
    opens _ _ known c.args.local c.args.exchange less _ _
    (λ q. put.0 q ∙ (λ i. cond (is_same (here i) q) (Some (there i)) (at_local before q)))
    (λ p. led.0 p ∙ (λ i. cond (is_same (there i) p) (Some c.args.local) (at_exchange before p)))
