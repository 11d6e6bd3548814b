use Rattle.std.specs.Io.KnownBytes.{Appends}
use Rattle.std.proofs.KnownBytes.{Appends-trans}
use Rattle.std.proofs.Common.{subst, ◌≡◌, length}
use Rattle.std.proofs.lemmas.Result.{on_ok_weaker}
use Rattle.fp_replay.specs.Replayed.{report_line}
use Rattle.fp_serve.specs.Report.{TellsAnswers, with_links_below}
use Rattle.fp_watch.specs.Links.{lines_by}
use Rattle.fp_serve.proofs.run.serving.Server.serve_tagged.Goals as goal

-- the address was told, then what commands give, and then the lines of the links, those below the first one among them
pub returns : goal.returns
returns g c =
    let contents = g.W.LinkWrite.contents in
    let answers : TellsAnswers c.args.service.tables.now c.args.self.settings.first_link c.args.self.settings.has_commands (contents c.write_address.new.output) (contents c.serve_and_follow.new.output) = c.in_ok-counted.ensures in
    on_ok_weaker c.report.result (λ told. record {
      address = c.in_ok-address.address;
      answers = answers.0;
      allowed = answers.1;
      totals = c.in_ok-counted.counted.items;
      each = subst (λ ts. length ts ≡ c.args.self.settings.links) c.as_slice.ensures.value told.0;
      wrote = Appends-trans _ _ _ _ _ c.in_ok-write_address.ensures
          (Appends-trans _ _ _ _ _ answers.2
          (subst (λ ts. Appends (contents c.serve_and_follow.new.output) (contents c.report.new.output) (lines_by report_line 0 (with_links_below c.args.self.settings.first_link ts))) c.as_slice.ensures.value told.1));
    }) c.report.ensures
