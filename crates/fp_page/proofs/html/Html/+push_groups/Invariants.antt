use Rattle.fp_page.proofs.html.Html.+push_groups.Given as goal

-- each call writes one comma less
abbrev pub decreases-push_groups : goal.decreases-push_groups
decreases-push_groups l = l.commas
