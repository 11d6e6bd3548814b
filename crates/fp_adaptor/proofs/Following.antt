-- What two maps of dialogues are after an edit of both, as the dialogues that are open say it.
use Rattle.std.proofs.Common.{◌≡◌, ◌≢◌, ℕ, Bool, true, false, cond, List, Option, Some, None, refl, sym, ap, subst, ◌∙◌}
use Rattle.std.proofs.lemmas.Option.{same_Some}
use Rattle.fp_adaptor.specs.Dialogues.{is_same, opened, unless_exchange, unless_local}
use Rattle.fp_adaptor.specs.Seen.{Follows}
use Rattle.fp_adaptor.proofs.Pairs.{apart, edited, fewer, forgets, is_same-refl, leaves, more, paired_same, same}

-- the same dialogues said in another way
pub said_as : (map index known known' : List ℕ → Option (List ℕ)) → known ≡ known' → Follows map index known → Follows map index known'
said_as map index known known' e follow = subst (λ (k : List ℕ → Option (List ℕ)). Follows map index k) e follow

module _ (map index known : List ℕ → Option (List ℕ)) (follow : Follows map index known) where
  -- maps that have the same follow the same
  again : (map' index' known' : List ℕ → Option (List ℕ)) → ((q : List ℕ) → map' q ≡ map q)
      → ((p : List ℕ) → index' p ≡ index p) → ((q : List ℕ) → known' q ≡ known q) → Follows map' index' known'
  again map' index' known' m i e = record {
    each = λ q. m q ∙ follow.each q ∙ sym (e q);
    leads = paired_same known' index' e i follow.leads;
  }

  module _ (x : List ℕ) where
    -- the exchange's identifier leads nowhere, so no dialogue has it
    pub forget_none : index x ≡ None → (index' : List ℕ → Option (List ℕ)) → ((p : List ℕ) → index' p ≡ index p)
        → Follows map index' (λ q. unless_exchange (Some x) (known q))
    forget_none none index' i =
        again map index' _ (λ q. refl) i
        (λ q. leaves x (known q) (λ is. absurd (let clash = sym none ∙ (follow.leads x q).1 is in cc clash)))

    -- it leads to a dialogue, which alone has it
    module _ (y : List ℕ) (there : index x ≡ Some y) where
      only : (q : List ℕ) (b : Bool) → is_same y q ≡ b → cond b None (known q) ≡ unless_exchange (Some x) (known q)
      only q true e = sym (forgets x (known q) ((follow.leads x q).0 (there ∙ ap Some (same y q e))))
      only q false e = sym (leaves x (known q) (λ is. apart y q e (same_Some _ _ (sym there ∙ (follow.leads x q).1 is))))

      pub forget_one : (map' index' : List ℕ → Option (List ℕ)) → ((q : List ℕ) → map' q ≡ edited y None q (map q))
          → ((p : List ℕ) → index' p ≡ edited x None p (index p)) → Follows map' index' (λ q. unless_exchange (Some x) (known q))
      forget_one map' index' m i = record {
        each = λ q. m q ∙ ap (edited y None q) (follow.each q) ∙ only q (is_same y q) refl;
        leads = paired_same _ _ (λ q. sym (only q (is_same y q) refl)) i (fewer follow.leads x y there);
      }

  module _ (y : List ℕ) where
    -- no dialogue is open at the link's identifier
    pub forget_no_local : map y ≡ None → (map' : List ℕ → Option (List ℕ)) → ((q : List ℕ) → map' q ≡ map q)
        → Follows map' index (λ q. unless_local (Some y) q (known q))
    forget_no_local none map' m = again map' index _ m (λ p. refl) (λ q. by q (is_same y q) refl)
      where
        by : (q : List ℕ) (b : Bool) → is_same y q ≡ b → cond b None (known q) ≡ known q
        by q true e = sym (ap known (sym (same y q e)) ∙ sym (follow.each y) ∙ none)
        by q false e = refl

    -- one is
    pub forget_local_one : (x : List ℕ) → map y ≡ Some x → (map' index' : List ℕ → Option (List ℕ))
        → ((q : List ℕ) → map' q ≡ edited y None q (map q)) → ((p : List ℕ) → index' p ≡ edited x None p (index p))
        → Follows map' index' (λ q. unless_local (Some y) q (known q))
    forget_local_one x there map' index' m i = record {
      each = λ q. m q ∙ ap (edited y None q) (follow.each q);
      leads = paired_same _ _ (λ q. refl) i (fewer follow.leads x y ((follow.leads x y).1 (sym (follow.each y) ∙ there)));
    }

-- a dialogue is noted under two identifiers, once all others under either of them are forgotten
module _ (map index known : List ℕ → Option (List ℕ)) (y x : List ℕ)
    (follow : Follows map index (λ q. unless_local (Some y) q (unless_exchange (Some x) (known q)))) where
  without_it : (b : Bool) (o : Option (List ℕ)) → cond b None (unless_exchange (Some x) o) ≢ Some x
  without_it true o is = absurd (cc is)
  without_it false None is = absurd (cc is)
  without_it false (Some other) is = by (is_same x other) refl is
    where
      by : (b : Bool) → is_same x other ≡ b → cond b None (Some other) ≡ Some x → ⊥
      by true e is = absurd (cc is)
      by false e is = apart x other e (sym (same_Some _ _ is))

  leads_nowhere : (o : Option (List ℕ)) → index x ≡ o → index x ≡ None
  leads_nowhere None e = e
  leads_nowhere (Some q) e = absurd (without_it (is_same y q) (known q) ((follow.leads x q).0 e))

  is_free : unless_local (Some y) y (unless_exchange (Some x) (known y)) ≡ None
  is_free = ap (λ b. cond b None (unless_exchange (Some x) (known y))) (is_same-refl y y refl)

  whole : (q : List ℕ) (b : Bool) → cond b (Some x) (cond b None (unless_exchange (Some x) (known q))) ≡ cond b (Some x) (unless_exchange (Some x) (known q))
  whole q true = refl
  whole q false = refl

  pub opens : (map' index' : List ℕ → Option (List ℕ)) → ((q : List ℕ) → map' q ≡ edited y (Some x) q (map q))
      → ((p : List ℕ) → index' p ≡ edited x (Some y) p (index p)) → Follows map' index' (λ q. opened y x q (known q))
  opens map' index' m i = record {
    each = λ q. m q ∙ ap (edited y (Some x) q) (follow.each q) ∙ whole q (is_same y q);
    leads = paired_same _ _ (λ q. sym (whole q (is_same y q))) i (more follow.leads x y (leads_nowhere (index x) refl) is_free);
  }
