use Rattle.std.proofs.Common.{rules, ◌∙◌}
use Rattle.std.proofs.lemmas.Iterator.{YieldsList-from_slice}
use Rattle.std.proofs.lemmas.Iterator.Consumers.{YieldsList-from_filter, count_from_yields_List}
use Rattle.std.proofs.lemmas.List.Sums.{length-filter}
use Rattle.fp_entry.specs.declared.entry.Entry.{Entry}
use Rattle.fp_entry.specs.Entries.{is_from_component}
use Rattle.fp_entry.proofs.entries.Entries.component_count.Goals as goal

pub returns : goal.returns
returns c =
    let passes : Entry → _ = (λ entry. is_from_component entry.kind) in
    count_from_yields_List _ _ c.count.ensures.ran
    (YieldsList-from_filter _ passes (YieldsList-from_slice c.args.self.now cc) c.filter.ensures.closure (λ x r q k. search rules))
    ∙ length-filter {X = Entry} passes c.args.self.now
