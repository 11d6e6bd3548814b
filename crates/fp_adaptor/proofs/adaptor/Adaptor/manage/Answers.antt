use Rattle.std.proofs.Common.{refl, ap, option_map, inl, inr, sym, subst, ◌∙◌}
use Rattle.fp_adaptor.specs.Counted.{counted_once_more}
use Rattle.fp_adaptor.specs.declared.counts.Counted.TheVariants as counted
use Rattle.fp_sccp.specs.Address.{HasSubsystem, subsystem}
use Rattle.fp_sccp.specs.Management.{Allows}
use Rattle.fp_sccp.specs.View.{unit_data_value}
use Rattle.fp_adaptor.proofs.adaptor.Adaptor.manage.Goals as goal

pub returns-in_default : goal.returns-in_default
returns-in_default c = λ setting history led. (
  inr (λ has. c.in_default.ensures (subst (λ s. HasSubsystem s.own) (sym led.setting_is) has), refl),
  record {
    setting_is = led.setting_is;
    units = led.units;
    connections = led.connections;
    dialogues = led.dialogues;
    counts = λ what. c.count.ensures what ∙ ap (counted_once_more counted.Management what) (led.counts what);
  },
)

pub returns : goal.returns
returns c = λ setting history led.
    let answer = option_map (λ octets. octets.items) c.in_ok-answer.answer in
    let number = c.in-Some.ensures.1 ∙ ap (λ s. subsystem s.own) led.setting_is in (
      inl (
        subst (λ s. HasSubsystem s.own) led.setting_is c.in-Some.ensures.0,
        (
          answer,
          subst (λ n. Allows (unit_data_value c.args.message.now) n answer) number c.in_ok-answer.ensures.answer,
          c.answered.ensures,
        ),
      ),
      record {
        setting_is = led.setting_is;
        units = led.units;
        connections = led.connections;
        dialogues = led.dialogues;
        counts = λ what. c.count.ensures what ∙ ap (counted_once_more counted.Management what) (led.counts what);
      },
    )
