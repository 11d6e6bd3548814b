-- What is found by the exchange's identifier.
use Rattle.std.proofs.Common.{◌≡◌, ℕ, List, Option, Some, None, sym, ◌∙◌}
use Rattle.fp_adaptor.specs.Dialogues.{HasLocal}
use Rattle.fp_adaptor.specs.Seen.{Follows}

-- the index leads to the link's identifier
pub found : (has index known : List ℕ → Option (List ℕ)) → Follows has index known
    → (x : List ℕ) (o : Option (List ℕ)) → index x ≡ o → HasLocal known (Some x) o
found has index known follow x None none = λ local is. absurd (let clash = sym none ∙ (follow.leads x local).1 is in cc clash)
found has index known follow x (Some local) there = (follow.leads x local).0 there
