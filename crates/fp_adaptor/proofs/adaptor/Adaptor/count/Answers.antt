use Rattle.std.proofs.Common.{◌∙◌}
use Rattle.fp_adaptor.proofs.adaptor.Adaptor.count.Goals as goal

pub returns : goal.returns
returns c = record { count = λ setting history led. c.of.ensures ∙ led.counts c.args.what }
