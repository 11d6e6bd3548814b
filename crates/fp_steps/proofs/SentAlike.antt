-- What is sent for a dialogue is told by how it began and what it accepted.
use Rattle.fp_steps.proofs.Names.{Beginning, Event, InOrder, IsPrefix, List, SentAlike, [], accepted, ap, asked, beginning, core_after, cut, frame_from, fresh, inl, inr, map-append, map_list as map, option_map_or, refl, requests, requests-append, sent, served, start, subst, sym, ℕ, ⊎_elim, ◌++◌, ◌∙◌, ◌∷◌, ◌≡◌, ◌⊎◌}
use Rattle.fp_steps.proofs.HeldDialogues.{prefix_trans}

-- two fronts of one list
fronts : {X : Type 0} → (xs ys zs : List X) → IsPrefix xs zs → IsPrefix ys zs → IsPrefix xs ys ⊎ IsPrefix ys xs
fronts [] ys zs p q = inl (ys, refl)
fronts (x ∷ xs) [] zs p q = inr (x ∷ xs, refl)
fronts (x ∷ xs) (y ∷ ys) [] p q = absurd (let clash : x ∷ (xs ++ p.0) ≡ [] = p.1 in cc)
fronts (x ∷ xs) (y ∷ ys) (z ∷ zs) p q =
    let a : x ∷ (xs ++ p.0) ≡ z ∷ zs = p.1 in let b : y ∷ (ys ++ q.0) ≡ z ∷ zs = q.1 in
    let first : x ≡ y = cc in let rest_a : xs ++ p.0 ≡ zs = cc in
    let rest_b : ys ++ q.0 ≡ zs = cc in
    ⊎_elim (λ r. inl (r.0, ap (λ l. x ∷ l) r.1 ∙ ap (λ w. w ∷ ys) first))
    (λ r. inr (r.0, ap (λ l. y ∷ l) r.1 ∙ ap (λ w. w ∷ xs) (sym first)))
    (fronts xs ys zs (p.0, rest_a) (q.0, rest_b))

-- what is sent for a dialogue is a front of what it would request on all that it accepted, cut at its end
sent_front : {h : List Event} {d : ℕ} → InOrder h d → IsPrefix (sent h d) (map (frame_from (beginning h d)) (requests (start h d) (cut (start h d) (accepted h d))))
sent_front {h} {d} k =
    let p : IsPrefix (served h d) (cut (start h d) (accepted h d)) = k.served_first in
    let f = frame_from (beginning h d) in
    let more = requests (core_after (start h d) (served h d)) p.0 in
    let asked_first : IsPrefix (asked h d) (map f (requests (start h d) (cut (start h d) (accepted h d)))) =
    (map f more, sym (map-append f (requests (start h d) (served h d)) more) ∙ ap (map f) (sym (requests-append (start h d) (served h d) p.0)) ∙ ap (λ es. map f (requests (start h d) es)) p.1)
    in
    prefix_trans (sent h d) (asked h d) (map f (requests (start h d) (cut (start h d) (accepted h d)))) k.sent_first asked_first

pub sent_alike : SentAlike
sent_alike g h d a b began accepts =
    let core : start g d ≡ start h d = ap (λ o. fresh d (option_map_or (λ (b : Beginning). b.moment) o 0)) began in
    let same : map (frame_from (beginning g d)) (requests (start g d) (cut (start g d) (accepted g d))) ≡ map (frame_from (beginning h d)) (requests (start h d) (cut (start h d) (accepted h d))) =
    λ i. map (frame_from (began i)) (requests (core i) (cut (core i) (accepts i))) in
    fronts (sent g d) (sent h d) (map (frame_from (beginning h d)) (requests (start h d) (cut (start h d) (accepted h d))))
    (subst (IsPrefix (sent g d)) same (sent_front a)) (sent_front b)
