-- A list whose turns are served one by one, each taken from its front and put at its end.
use Rattle.std.proofs.Common.{◌≡◌, ℕ, ◌+◌, ◌<◌, ◌≤◌, List, [], ◌∷◌, ◌++◌, map, length, refl, sym, ◌∙◌, ap, arith, append-nil, append_assoc, length-append}
use Rattle.std.proofs.lemmas.List.{length-map, map-append, nil_from_length}

module _ {X T : Type 0} (turn_in : X → T) where
  -- the first ones were served
  pub record Serving (made : ℕ) (old now : List X) : Type 0 where
    pub left : List X
    pub served : List X
    pub count : length served ≡ made
    pub now_is : now ≡ left ++ served
    pub turns_are : map turn_in old ≡ map turn_in (served ++ left)

  -- none was served yet
  pub serving_none : (work : List X) → Serving 0 work work
  serving_none work = record { left = work; served = []; count = refl; now_is = sym (append-nil work); turns_are = refl }

  -- the list has as many turns as before
  still_long : (made : ℕ) (old now : List X) (serving : Serving made old now) → length old ≡ made + length serving.left
  still_long made old now serving =
      let count = serving.count in
      let long = ap length serving.turns_are in
      let a = length-map old turn_in in
      let b = length-map (serving.served ++ serving.left) turn_in in
      let parts = length-append serving.served serving.left in
      omega (arith, count, long, a, b, parts)

  -- the first one of those that are left
  next_left : (left served now rest : List X) (first : X) → now ≡ left ++ served → now ≡ first ∷ rest → 0 < length left
      → (later : List X) × (left ≡ first ∷ later) × (rest ≡ later ++ served)
  next_left [] served now rest first now_is at some = absurd (omega (arith, some))
  next_left (next ∷ later) served now rest first now_is at some =
      let both = sym now_is ∙ at in
      (later, cc (both), sym (cc (both)))

  -- one more was served
  pub serving_more : (made : ℕ) (old now rest new : List X) (first served : X) → Serving made old now → made < length old → now ≡ first ∷ rest
      → new ≡ rest ++ served ∷ [] → turn_in served ≡ turn_in first → Serving (made + 1) old new
  serving_more made old now rest new first served serving below at is same =
      let long = still_long made old now serving in
      let next = next_left serving.left serving.served now rest first serving.now_is at (omega (arith, long, below)) in
      let count = serving.count in
      let grown = length-append serving.served (served ∷ []) in
      record {
        left = next.0;
        served = serving.served ++ served ∷ [];
        count = omega (arith, grown, count);
        now_is = is ∙ ap (λ l. l ++ served ∷ []) next.2 ∙ append_assoc next.0 serving.served (served ∷ []);
        turns_are =
            serving.turns_are ∙ ap (λ l. map turn_in (serving.served ++ l)) next.1 ∙ map-append turn_in serving.served (first ∷ next.0)
            ∙ ap (λ t. map turn_in serving.served ++ t ∷ map turn_in next.0) (sym same) ∙ sym (map-append turn_in serving.served (served ∷ next.0))
            ∙ ap (map turn_in) (sym (append_assoc serving.served (served ∷ []) next.0));
      }

  -- all were served
  pub all_served : (made : ℕ) (old now : List X) → Serving made old now → length old ≤ made → map turn_in now ≡ map turn_in old
  all_served made old now serving all =
      let long = still_long made old now serving in
      let none : serving.left ≡ [] = nil_from_length serving.left (omega (arith, long, all)) in
      ap (map turn_in) (serving.now_is ∙ ap (λ l. l ++ serving.served) none)
      ∙ ap (map turn_in) (sym (append-nil serving.served) ∙ ap (λ l. serving.served ++ l) (sym none)) ∙ sym serving.turns_are
