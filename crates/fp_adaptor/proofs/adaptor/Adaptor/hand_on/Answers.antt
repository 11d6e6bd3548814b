use Rattle.std.proofs.Common.{refl, ap, ◌∙◌}
use Rattle.fp_adaptor.specs.Counted.{counted_once_more}
use Rattle.fp_adaptor.specs.declared.counts.Counted.TheVariants as counted
use Rattle.fp_adaptor.proofs.Reading.{is_read, message_of}
use Rattle.fp_adaptor.proofs.adaptor.Adaptor.hand_on.Goals as goal

pub returns : goal.returns
returns c = λ setting history led. (
  message_of c.args.octets.now c.ids_of-ids.result.kind c.ids_of-ids.result.orig c.ids_of-ids.result.dest,
  is_read _ _ _ _ _ refl c.ids_of-ids.ensures,
  (c.in_ok-message.ensures, (c.forgotten.result, c.forgotten.ensures _ led.dialogues, c.in_ok-abort.ensures)),
  record {
    setting_is = led.setting_is;
    units = led.units;
    connections = led.connections;
    dialogues = c.hear.ensures _ led.dialogues;
    counts = λ what. c.count.ensures what ∙ ap (counted_once_more counted.HandedOn what) (led.counts what);
  },
)
