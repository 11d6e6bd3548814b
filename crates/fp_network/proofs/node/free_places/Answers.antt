use Rattle.std.proofs.Common.{◌≡◌, ℕ, zero, suc, ◌+◌, List, [], ◌∷◌, ◌++◌, Option, None, length, length-append, refl, rules, ap, ◌∙◌}
use Rattle.fp_network.specs.declared.connection.Connection.{Connection}
use Rattle.fp_network.specs.Node.{connection_at}
use Rattle.fp_network.proofs.node.free_places.Goals as goal

-- one more place without a connection
free_more : (places : List (Option Connection)) → ((place : ℕ) → connection_at places place ≡ None)
    → (place : ℕ) → connection_at (places ++ None ∷ []) place ≡ None
free_more [] free zero = refl
free_more [] free (suc place) = refl
free_more (first ∷ places) free zero = free 0
free_more (first ∷ places) free (suc place) = free_more places (λ other. free (suc other)) place

pub loop-place-init : goal.loop-place-init
loop-place-init c = record { count = search rules; free = λ place. search rules }

pub loop-place-preserved : goal.loop-place-preserved
loop-place-preserved c =
    let inv = c.loop-place.invariant in
    let items = c.in_ok-push.ensures.items in
    record {
      count = ap length items ∙ length-append _ _ ∙ ap (λ (n : ℕ). n + 1) inv.count;
      free = λ place. ap (λ (l : List (Option Connection)). connection_at l place) items ∙ free_more _ inv.free place;
    }
