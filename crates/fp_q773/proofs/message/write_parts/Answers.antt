-- A Unidirectional holds nothing.
use Rattle.std.proofs.Common.{refl, sym}
use Rattle.fp_ber.specs.Tree.{none}
use Rattle.fp_q773.proofs.Puts.{on_ok}
use Rattle.fp_q773.proofs.Sound.{unidirectional_sound}
use Rattle.fp_q773.proofs.message.write_parts.Goals as goal

pub returns-in-Unidirectional-clause-exact : goal.returns-in-Unidirectional-clause-exact
returns-in-Unidirectional-clause-exact c = rw c.in-Unidirectional.is (c.put_constructed.ensures.ok none c.args.out.now refl (sym c.len-behind.ensures.value))

pub returns-in-Unidirectional-clause-found : goal.returns-in-Unidirectional-clause-found
returns-in-Unidirectional-clause-found c = rw c.in-Unidirectional.is (on_ok c.put_constructed.result _ unidirectional_sound)
