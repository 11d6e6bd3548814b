use Rattle.std.proofs.Common.{ap, ◌∙◌}
use Rattle.fp_adaptor.specs.Connections.{without}
use Rattle.fp_adaptor.proofs.adaptor.Adaptor.ended.Goals as goal

pub returns : goal.returns
returns c = record {
  ended = λ setting history led. record {
    setting_is = led.setting_is;
    units = c.remove.ensures.size ∙ led.units;
    connections = λ unit. c.remove.ensures.each unit ∙ ap (without c.args.connection) (led.connections unit);
    dialogues = led.dialogues;
    counts = led.counts;
  };
}
