-- Which deadline a list of timers has for an identifier.
use Rattle.fp_timers.proofs.Names.{Bool, List, None, Option, Some, Timer, [], arith, cond, eqb, eqb-true, false, length, nat_tests, refl, suc, sym, timer_at, true, ℕ, ◌<◌, ◌∷◌, ◌++◌, ◌≡◌, ◌≢◌}

-- the deadline of the identifier's first timer
abbrev pub deadline_in : List Timer → ℕ → Option ℕ
deadline_in [] q = None
deadline_in (t ∷ l) q = cond (eqb q t.local) (Some t.deadline) (deadline_in l q)

-- an identifier that no timer has
pub deadline_in_absent : (l : List Timer) (k : ℕ) → ((j : ℕ) → j < length l → (timer_at l j).local ≢ k) → deadline_in l k ≡ None
deadline_in_absent [] k none = refl
deadline_in_absent (t ∷ l) k none = grind (arith, nat_tests, none 0 (omega arith), deadline_in_absent l k (λ j lt. none (suc j) (omega arith)))

-- a timer among others, none of which is its identifier's
pub deadline_in_between : (a b : List Timer) (t : Timer) → deadline_in (a ++ b) t.local ≡ None → (q : ℕ) → deadline_in (a ++ t ∷ b) q ≡ cond (eqb q t.local) (Some t.deadline) (deadline_in (a ++ b) q)
deadline_in_between [] b t none q = refl
deadline_in_between (u ∷ a) b t none q =
    let rest : deadline_in (a ++ b) t.local ≡ None = grind (arith, nat_tests, none) in
    grind (arith, nat_tests, none, deadline_in_between a b t rest q)

-- what is found is a timer's
pub record IsFound (l : List Timer) (local deadline : ℕ) : Type 0 where
  pub place : ℕ
  pub in_range : place < length l
  pub has_local : (timer_at l place).local ≡ local
  pub has_deadline : (timer_at l place).deadline ≡ deadline

-- what is found behind the first timer
found_later : (t : Timer) (l : List Timer) (q d : ℕ) → IsFound l q d → IsFound (t ∷ l) q d
found_later t l q d f = record { place = suc f.place; in_range = omega (arith, f.in_range); has_local = f.has_local; has_deadline = f.has_deadline }

-- the first timer's, or what is found behind it
found_first : (t : Timer) (l : List Timer) (q d : ℕ) (b : Bool) → eqb q t.local ≡ b → cond b (Some t.deadline) (deadline_in l q) ≡ Some d → (deadline_in l q ≡ Some d → IsFound l q d) → IsFound (t ∷ l) q d
found_first t l q d true e is rest = record { place = 0; in_range = omega arith; has_local = sym (eqb-true q t.local e); has_deadline = cc }
found_first t l q d false e is rest = found_later t l q d (rest is)

-- each deadline that is found is a timer's
pub found : (l : List Timer) (q d : ℕ) → deadline_in l q ≡ Some d → IsFound l q d
found [] q d is = absurd (let clash : None ≡ Some d = is in cc)
found (t ∷ l) q d is = found_first t l q d (eqb q t.local) refl is (found l q d)
