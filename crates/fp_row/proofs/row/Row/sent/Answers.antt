use Rattle.std.proofs.Common.{rules, ◌<◌, ◌≡◌, true, nat_lt, arith}
use Rattle.std.proofs.lemmas.Bool.Decides.{nat_tests}
use Rattle.fp_row.proofs.Fronts.{one_more}
use Rattle.fp_row.proofs.Keeping.{sent_within}
use Rattle.fp_row.specs.Row.{frames_of}
use Rattle.fp_row.proofs.row.Row.sent.Goals as goal

pub returns : goal.returns
returns c =
    let row = c.args.self.now in
    let less : row.sent < row.kept = omega (arith, row.sent_within) in
    let left : nat_lt row.sent row.kept ≡ true = grind (arith, nat_tests) in
    let within = sent_within row in
    search (rules, one_more (frames_of row) row.sent row.kept)
