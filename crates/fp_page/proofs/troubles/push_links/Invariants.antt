use Rattle.std.proofs.Common.{◌≡◌, ◌++◌}
use Rattle.std.proofs.Math.ListN.{drop}
use Rattle.fp_page.specs.Troubles.{links_troubles}
use Rattle.fp_page.proofs.troubles.push_links.Given as goal

-- with the troubles of the links that are left, these are those of all
abbrev pub invariant-loop-link : goal.invariant-loop-link
invariant-loop-link l =
    l.out.items ++ links_troubles (drop l.link-index l.links) ≡ l.fn.out.items ++ links_troubles l.links
