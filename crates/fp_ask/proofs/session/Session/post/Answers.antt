use Rattle.std.proofs.Common.{sym, subst}
use Rattle.std.proofs.lemmas.Result.{IfOk-weaker}
use Rattle.fp_ask.specs.Solo.{post}
use Rattle.fp_ask.specs.Tied.{Matches, Rest}
use Rattle.fp_ask.proofs.Posting.{posted_came, posted_fit}
use Rattle.fp_ask.proofs.session.Session.post.Goals as goal

pub serve_and_send-requires : goal.serve_and_send-requires
serve_and_send-requires c =
    let posted = c.post_with_receipt-receipt.ensures in
    record { fit = posted_fit (subst Rest (sym c.self.view_is) c.requires.rest) posted.receipt c.if-receipt.false posted.sound }

pub returns-clause-follows : goal.returns-clause-follows
returns-clause-follows c = IfOk-weaker c.serve_and_send.result _ _ (λ frames goes of w m. goes (post w c.args.came)
    (posted_came (subst Rest (sym c.self.view_is) c.requires.rest) c.post_with_receipt-receipt.ensures.receipt c.if-receipt.false w
    (subst (Matches w) (sym c.self.view_is) m))) c.serve_and_send.ensures.goes_on
