-- The sum of the weights of the rules with the longest prefix, rule by rule.
use Rattle.std.specs.Prelude.{ℕ, ◌+◌, ◌==◌, length, nat_lt, if◌then◌else◌}
use Rattle.fp_records.specs.declared.rule.Rule.{Rule}

-- the sum with one more rule, where it is `total` at the longest prefix before it
abbrev pub total_with : ℕ → ℕ → Rule → ℕ
total_with longest total rule =
    if nat_lt longest (length rule.prefix) then rule.weight
    else if length rule.prefix == longest then total + rule.weight
    else total
