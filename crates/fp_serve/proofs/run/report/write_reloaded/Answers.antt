use Rattle.std.proofs.Common.{subst}
use Rattle.std.proofs.KnownBytes.{Appends-trans}
use Rattle.std.proofs.lemmas.Result.{on_ok_weaker}
use Rattle.std.specs.Io.KnownBytes.{Appends}
use Rattle.fp_serve.proofs.run.report.write_reloaded.Goals as goal

-- the pieces were written one after the other
pub returns : goal.returns
returns g c =
    let contents = g.W.LinkWrite.contents in
    let number = subst (Appends (contents c.write_piece.new.output) (contents c.write_piece-2.new.output)) c.format.ensures.text c.in_ok-write_piece-2.ensures in
    on_ok_weaker c.write_flushed.result (λ end. Appends-trans _ _ _ _ _ c.in_ok-write_piece.ensures (Appends-trans _ _ _ _ _ number end)) c.write_flushed.ensures
