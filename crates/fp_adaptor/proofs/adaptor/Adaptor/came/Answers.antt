use Rattle.std.proofs.Common.{[], ◌∷◌, ◌≤◌, ◌<◌, refl, ap, subst, ◌∙◌}
use Rattle.fp_adaptor.specs.Connections.{placed}
use Rattle.fp_adaptor.specs.History.{came}
use Rattle.fp_adaptor.proofs.adaptor.Adaptor.came.Goals as goal

pub returns : goal.returns
returns c = record {
  came = λ setting history led.
      ([], (subst (λ units. units ≤ c.args.unit) led.units (c.has.ensures.no c.if-has.false), refl), led);
}

pub returns-then-has : goal.returns-then-has
returns-then-has c = record {
  came = λ setting history led. (
    came c.args.connection c.args.unit ∷ [],
    (
      subst (λ units. c.args.unit < units) led.units (c.has.ensures.yes c.if-has.true),
      c.put.ensures.had ∙ led.connections c.args.unit,
      refl,
      refl,
    ),
    record {
      setting_is = led.setting_is;
      units = c.put.ensures.size ∙ led.units;
      connections = λ unit. c.put.ensures.each unit ∙ ap (placed c.args.connection c.args.unit unit) (led.connections unit);
      dialogues = led.dialogues;
      counts = led.counts;
    },
  );
}
