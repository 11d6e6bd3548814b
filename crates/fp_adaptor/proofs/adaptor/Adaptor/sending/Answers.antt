use Rattle.std.proofs.Common.{Some, arith, sym, subst, ◌∙◌}
use Rattle.fp_adaptor.specs.Connections.{IsFirst}
use Rattle.fp_sccp.specs.Written.{unit_data_octets}
use Rattle.fp_adaptor.proofs.adaptor.Adaptor.sending.Goals as goal

pub returns-in_default : goal.returns-in_default
returns-in_default c = λ setting history led. (
  omega (arith, c.if-octets-gt-MOST_DATA.false),
  λ unit. sym (led.connections unit) ∙ c.in_default.ensures unit,
)

pub returns : goal.returns
returns c = λ setting history led. (
  omega (arith, c.if-octets-gt-MOST_DATA.false),
  subst (λ has. IsFirst has (Some c.in-Some.connection)) (λ i unit. led.connections unit i) c.in-Some.ensures,
  c.in_ok-octets.ensures ∙ (λ i. unit_data_octets 0 (led.setting_is i).exchange (led.setting_is i).own c.args.octets.now),
)
