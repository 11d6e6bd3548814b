use Rattle.std.proofs.Common.{subst, ◌∙◌}
use Rattle.fp_adaptor.specs.Adaptor.{Sends}
use Rattle.fp_adaptor.specs.Counted.{counted_once_more}
use Rattle.fp_adaptor.proofs.Reading.{is_read, message_of}
use Rattle.fp_adaptor.proofs.adaptor.Adaptor.send.Goals as goal

pub returns : goal.returns
returns c = record {
  sent = λ setting history led. (
    subst (λ octets. Sends setting history octets c.in_ok-sending.sending) c.octets-octets.ensures.value
        (c.in_ok-sending.ensures setting history led),
    (
      message_of c.octets-octets.result.now c.ids_of.result.kind c.ids_of.result.orig c.ids_of.result.dest,
      is_read _ _ _ _ _ c.octets-octets.ensures.value c.ids_of.ensures,
      record {
        setting_is = led.setting_is;
        units = led.units;
        connections = led.connections;
        dialogues = c.in_ok-say.ensures _ led.dialogues;
        counts = λ what. c.count.ensures what ∙ (λ i. counted_once_more (c.sent_as.ensures i) what (led.counts what i));
      },
    ),
  );
}
