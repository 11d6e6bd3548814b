use Rattle.std.proofs.Common.{◌+◌, ◌<◌, ◌++◌, length, take, drop, sym, ◌∙◌, ap, arith, length-drop}
use Rattle.std.proofs.lemmas.List.{length-take-le, take-append-drop, take_rest}
use Rattle.fp_streams.proofs.Feeding.{declined, fed_line, grows_long}
use Rattle.fp_streams.proofs.Lists.{split_at}
use Rattle.fp_streams.proofs.following.Following.feed.Goals as goal

pub returns-then-count-self-clause-fed : goal.returns-then-count-self-clause-fed
returns-then-count-self-clause-fed g c =
    let count = c.loop-self.count in
    let rest = c.loop-self.rest.now in
    let said = c.loop-self.invariant in
    let size = length-take-le count rest said.within in
    let more = c.if-count-self.true in
    let len = c.len.ensures in
    let same = said.most in
    grows_long _ _ _ _ _ _ _ _ _ (take count rest) (drop count rest) said.feeding
    (ap (λ l. c.loop-self.self.begun.items ++ l) (sym (take-append-drop count rest))) said.one_line
    (grind (arith, size, more, len, same))

pub returns-in-Err-clause-fed : goal.returns-in-Err-clause-fed
returns-in-Err-clause-fed g c =
    let count = c.loop-self.count in
    let rest = c.loop-self.rest.now in
    let said = c.loop-self.invariant in
    let size = length-take-le count rest said.within in
    let within : count < length rest = (let m = said.within in let n = c.if-count-rest.false in omega (arith, m, n)) in
    let few = c.if-count-self.false in
    let len = c.len.ensures in
    let same = said.most in
    declined _ _ _ _ _ _ _ _ _ _ _ (take count rest) (drop (count + 1) rest) _ _ said.feeding
    (ap (λ l. c.loop-self.self.begun.items ++ l) (split_at rest count 10 (said.line_feed within))) said.one_line
    (grind (arith, size, few, len, same)) (c.as_slice.ensures.value ∙ c.in-Ok.ensures.items) c.in-Err.ensures

pub loop-self-preserved : goal.loop-self-preserved
loop-self-preserved g c =
    let count = c.loop-self.count in
    let rest = c.loop-self.rest.now in
    let said = c.loop-self.invariant in
    let next = c.line_length-next.ensures in
    let size = length-take-le count rest said.within in
    let within : count < length rest = (let m = said.within in let n = c.if-count-rest.false in omega (arith, m, n)) in
    let few = c.if-count-self.false in
    let len = c.len.ensures in
    let same = said.most in
    let left = length-drop (count + 1) rest in
    let counted = said.counted in
    record {
      feeding = rw (take_rest rest (count + 1)) (fed_line _ _ _ _ _ _ _ _ _ _ (take count rest) (drop (count + 1) rest) _ _ said.feeding
          (ap (λ l. c.loop-self.self.begun.items ++ l) (split_at rest count 10 (said.line_feed within)))
          said.one_line (grind (arith, size, few, len, same)) (c.as_slice.ensures.value ∙ c.in-Ok.ensures.items) c.in_default-take_line.ensures c.clear.ensures.items);
      most = same;
      within = next.most;
      one_line = next.one_line;
      line_feed = next.line_feed;
      counted = omega (arith, counted, left, within);
    }
