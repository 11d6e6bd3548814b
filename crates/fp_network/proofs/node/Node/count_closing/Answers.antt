use Rattle.std.proofs.Common.{refl}
use Rattle.fp_network.proofs.News.{notes_from}
use Rattle.fp_network.proofs.node.Node.count_closing.Goals as goal

pub returns-clause-news : goal.returns-clause-news
returns-clause-news c = notes_from _ c.args.self.now _ _ refl c.note.ensures.news
