use Rattle.std.proofs.Common.{ap, ℕ, List, ◌≡◌, ◌+◌, ◌++◌, ◌∙◌, get_or, string_bytes}
use Rattle.fp_watch.specs.Links.{status_line}
use Rattle.fp_watch.specs.declared.link_status.LinkStatus.{LinkStatus}
use Rattle.fp_watch.proofs.Lines.{more}
use Rattle.fp_watch.proofs.link_status.status_lines.Goals as goal

-- the line of a link under the sum that was meant
line_at : (first place n : ℕ) (known listed : LinkStatus) (line : List ℕ) → n ≡ first → known ≡ listed → line ≡ status_line (n + place) known → line ≡ status_line (first + place) listed
line_at first place n known listed line same is line_is =
    line_is ∙ ap (λ m. status_line (m + place) known) same ∙ ap (λ k. status_line (first + place) k) is

pub loop-place-preserved : goal.loop-place-preserved
loop-place-preserved c =
    let known = c.index-links-place.result in
    more (λ place. status_line (c.args.first_link + place)) c.loop-place.place c.args.links.now known _ (string_bytes c.in_ok-line.line) _ c.loop-place-test.true
    (c.in_ok-push_str.ensures.bytes ∙ ap (λ l. string_bytes c.loop-place.text ++ l) c.as_str.ensures.value)
    (line_at c.args.first_link c.loop-place.place c.from.result known (get_or c.args.links.now c.loop-place.place known) (string_bytes c.in_ok-line.line) c.from.ensures
    (c.index-links-place.is) c.in_ok-line.ensures) c.loop-place.invariant
