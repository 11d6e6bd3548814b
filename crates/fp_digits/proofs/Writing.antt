-- The step of writing two digits in an octet.
use Rattle.std.proofs.Common.{◌≡◌, ℕ, suc, ◌+◌, ◌-◌, ◌*◌, ◌/◌, ◌<◌, ◌≤◌, List, [], ◌∷◌, ◌++◌, length, length-append, take, drop, append_assoc, ◌∙◌, ap, arith}
use Rattle.std.specs.Prelude.{slice_index}
use Rattle.std.specs.List.{All}
use Rattle.std.proofs.lemmas.List.{take_rest}
use Rattle.std.proofs.lemmas.List.Elements.{All-drop}
use Rattle.fp_digits.specs.Called.{octets_of_digits}

-- with the digits that are left the octets are all, and there is room for them
pub record WritesOn (all octets rest : List ℕ) : Type 0 where
  pub so_far : octets ++ octets_of_digits rest ≡ all
  pub decimal : All (λ digit. digit < 10) rest
  pub room : length octets + (length rest + 1) / 2 ≤ 10

-- two more digits in one more octet
pub WritesOn-step : (all octets rest next : List ℕ) → WritesOn all octets rest → 2 ≤ length rest → next ≡ octets ++ (slice_index rest 0 + 16 * slice_index rest 1) ∷ [] → WritesOn all next (take (length rest - 2) (drop 2 rest))
WritesOn-step all octets [] next so_far two next_is = absurd (omega arith)
WritesOn-step all octets (last ∷ []) next so_far two next_is = absurd (omega arith)
WritesOn-step all octets (first ∷ second ∷ rest) next before two next_is =
    rw (take_rest (first ∷ second ∷ rest) 2) (record {
      so_far =
          ap (λ xs. xs ++ octets_of_digits rest) next_is
          ∙ (append_assoc octets ((first + 16 * second) ∷ []) (octets_of_digits rest) ∙ before.so_far);
      decimal = All-drop (λ digit. digit < 10) 2 (first ∷ second ∷ rest) before.decimal;
      room =
          let longer : length next ≡ length octets + 1 =
          ap length next_is ∙ length-append octets ((first + 16 * second) ∷ []) in
          let room : length octets + (suc (suc (length rest)) + 1) / 2 ≤ 10 = before.room in
          omega arith;
    })
