use Rattle.std.proofs.Common.{arith, rules}
use Rattle.fp_page.proofs.Escapes.{IsPlain, character}
use Rattle.fp_page.proofs.escaping.push_escaped.Goals as goal

-- no reference stands for this character
pub returns-in_default : goal.returns-in_default
returns-in_default c =
    let plain : IsPlain c.args.character = record { ampersand = λ e. omega arith; less = λ e. omega arith; greater = λ e. omega arith; quotation = λ e. omega arith; apostrophe = λ e. omega arith } in
    rw (character c.args.character plain) (search rules)
