use Rattle.std.proofs.Common.{◌+◌, ◌∙◌, ap, if◌then◌else◌}
use Rattle.std.specs.Bool.{◌==◌}
use Rattle.fp_counters.specs.Counted.{capped}
use Rattle.fp_counters.specs.Histogram.{number_in}
use Rattle.fp_counters.proofs.Observed.{observed_more}
use Rattle.fp_counters.proofs.histogram.Histogram.observe.Goals as goal

pub returns : goal.returns
returns c = λ times was.
    observed_more c.args.self.now _ _ times c.args.microseconds
    (λ other. c.raise.ensures.number other
    ∙ ap (λ b. if other == b then capped (number_in c.args.self.now other + 1) else number_in c.args.self.now other) c.bucket_of.ensures.value)
    c.raise.ensures.sum c.add.ensures was
