use Rattle.std.proofs.Common.{arith, inr, refl, ◌∙◌}
use Rattle.fp_records.proofs.WholeText.{strip_bom-length}
use Rattle.fp_lint.proofs.rows.RowReader.new.Goals as goal

pub invariant_of-result : goal.invariant_of-result
invariant_of-result c =
    let fr = c.from_reader-reader.ensures in
    let e = c.has_headers.ensures in
    let f = c.flexible.ensures in
    let shorter = strip_bom-length c.args.text.now in
    record {
      trim = rw (f, e) at fr.trim ∙ c.new.ensures.trim;
      ready = inr (inr (rw (f, e) at fr.has_headers, fr.headers));
      config = rw (f, e) at fr.config ∙ c.new.ensures.config;
      outside = rw fr.state refl;
      source = rw fr.source refl;
      size = rw fr.source (omega (arith, shorter));
    }
