use Rattle.std.proofs.Common.{arith, drop, ◌≡◌, []}
use Rattle.std.proofs.lemmas.List.{drop_all}
use Rattle.fp_logtext.proofs.OneAfterOther.{stopped, then_later, with_later}
use Rattle.fp_logtext.proofs.made.add_all.Goals as goal

pub returns-in_err-add_lines-clause-in_order : goal.returns-in_err-add_lines-clause-in_order
returns-in_err-add_lines-clause-in_order c =
    let lines = c.args.lines.now in
    with_later c.add_lines.new.text.items c.args.text.now.items (drop c.add_lines.new.made lines) (drop c.args.made.now lines) c.args.exchanged.now c.add_lines.ensures.in_order

pub returns-then-made-lines-clause-in_order : goal.returns-then-made-lines-clause-in_order
returns-then-made-lines-clause-in_order c =
    let lines = c.args.lines.now in
    with_later c.add_lines.new.text.items c.args.text.now.items (drop c.add_lines.new.made lines) (drop c.args.made.now lines) c.args.exchanged.now c.add_lines.ensures.in_order

pub returns-then-made-lines-clause-ok : goal.returns-then-made-lines-clause-ok
returns-then-made-lines-clause-ok c =
    stopped c.args.most c.args.lines.now c.args.exchanged.now c.add_lines.new.made c.add_lines.new.text.items c.if-made-lines.true c.in_ok-add_lines.ensures.ok

pub returns-clause-in_order : goal.returns-clause-in_order
returns-clause-in_order c =
    let lines = c.args.lines.now in
    let none : drop c.add_lines.new.made lines ≡ [] = drop_all c.add_lines.new.made lines (omega (arith, c.if-made-lines.false)) in
    then_later c.add_text.new.text.items c.add_lines.new.text.items c.args.text.now.items (drop c.add_lines.new.made lines) (drop c.args.made.now lines) c.args.exchanged.now c.add_text.new.self
    none c.add_lines.ensures.in_order c.add_text.ensures.in_order
