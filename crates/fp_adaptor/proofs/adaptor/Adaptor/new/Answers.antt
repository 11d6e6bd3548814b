use Rattle.std.proofs.Common.{refl}
use Rattle.fp_adaptor.proofs.adaptor.Adaptor.new.Goals as goal

pub returns : goal.returns
returns c = record {
  led = record {
    setting_is = refl;
    units = c.in_ok-connections.ensures.size;
    connections = c.in_ok-connections.ensures.each;
    dialogues = c.new-dialogues.ensures;
    counts = c.new-counts.ensures;
  };
}
