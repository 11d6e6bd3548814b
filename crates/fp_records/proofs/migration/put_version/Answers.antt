use Rattle.std.proofs.Common.{◌≡◌, ◌∷◌, [], refl}
use Rattle.fp_records.specs.Version.{version_line}
use Rattle.fp_records.proofs.Migrating.{written-line}
use Rattle.fp_records.proofs.migration.put_version.Goals as goal

pub returns : goal.returns
returns c = λ text has.
    let same : c.as_slice.result.now ∷ c.as_slice-2.result.now ∷ [] ≡ version_line = rw (c.as_slice.ensures, c.as_slice-2.ensures) refl in
    written-line c.args.writer.now c.write_fields.new.self text (c.as_slice.result.now ∷ c.as_slice-2.result.now ∷ []) version_line same has c.in-Ok.ensures.setup c.in-Ok.ensures.ended c.in-Ok.ensures.clean c.in-Ok.ensures.bytes
