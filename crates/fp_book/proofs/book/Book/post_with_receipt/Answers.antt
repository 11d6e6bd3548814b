use Rattle.fp_book.proofs.Names.{Posts}
use Rattle.fp_book.proofs.Counts.{posted_counts, receipt_posts}
use Rattle.fp_book.proofs.book.Book.post_with_receipt.Goals as goal

-- the receipt of a message says how it was posted
pub returns : goal.returns
returns c =
    let posts : Posts c.args.self.now c.args.came c.receive.result.posted c.receive.new.self = receipt_posts c.args.self.now c.receive.new.self c.args.came c.receive.result c.receive.ensures in
    record {
      receipt = c.receive.ensures;
      posts = posts;
      totals = posted_counts c.args.self.now c.args.came c.receive.result.posted c.receive.new.self posts;
      sound = c.messages_keep_a_book_sound.ensures c.args.self.now c.receive.new.self c.args.came c.receive.result.posted c.verdict-found.ensures.sound posts;
    }
