use Rattle.std.proofs.Common.{ap, option_map, ◌∙◌}
use Rattle.fp_adaptor.specs.Counted.{count_of, counted_once_more, refused_as}
use Rattle.fp_adaptor.proofs.adaptor.Adaptor.refuse.Goals as goal

pub returns : goal.returns
returns c = λ setting history led. (
  (option_map (λ octets. octets.items) c.in_ok-answer.answer, c.in_ok-answer.ensures.returned, c.answered.ensures),
  record {
    setting_is = led.setting_is;
    units = led.units;
    connections = led.connections;
    dialogues = led.dialogues;
    counts = λ what. c.count.ensures what ∙ ap (λ kind. counted_once_more kind what (count_of c.args.self.now.counts what)) c.refused_as.ensures ∙ ap (counted_once_more (refused_as c.args.cause) what) (led.counts what);
  },
)
