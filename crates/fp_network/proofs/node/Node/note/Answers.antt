use Rattle.fp_network.proofs.News.{noted}
use Rattle.fp_network.proofs.node.Node.note.Goals as goal

pub returns-clause-news : goal.returns-clause-news
returns-clause-news c =
    let push = c.push_back.ensures in
    noted c.args.event c.args.self.now _ c.push_back.result _ c.args.self.now.news.ok.0 push.items push.full push.capacity
