use Rattle.std.proofs.Common.{ℕ, rules, subst}
use Rattle.std.proofs.lemmas.List.{take_rest}
use Rattle.fp_ipa.specs.Identity.{NamesUnit}
use Rattle.fp_ipa.proofs.received.management_of.Goals as goal

pub returns-in-None : goal.returns-in-None
returns-in-None c = (
  search rules,
  subst (λ o. (unit : ℕ) → NamesUnit c.args.names.now o unit → ⊥) (take_rest c.args.octets.now 1) c.in-None.ensures,
)
