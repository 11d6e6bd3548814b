use Rattle.std.proofs.Common.{map, take}
use Rattle.std.specs.List.{AllZip}
use Rattle.scp.specs.Contexts.{IsNameText}
use Rattle.scp.proofs.contexts.names_of.Given as goal

abbrev pub invariant-loop-text : goal.invariant-loop-text
invariant-loop-text l = AllZip IsNameText (take l.text-index (map (λ text. text.now) l.texts)) l.names.items
