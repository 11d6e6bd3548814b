use Rattle.fp_book.proofs.Counts.{posted_counts, receipt_posts}
use Rattle.fp_book.proofs.book.Book.post_unless_held_back.Goals as goal

pub returns-clause-totals : goal.returns-clause-totals
returns-clause-totals c =
    let before = c.args.self.now in
    let after = c.receive.new.self in
    posted_counts before c.args.came c.receive.result.posted after (receipt_posts before after c.args.came c.receive.result c.receive.ensures)
