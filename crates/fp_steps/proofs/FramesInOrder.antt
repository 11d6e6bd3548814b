-- The frames that wait are those that were accepted for sending and not picked: the oldest goes where one is picked,
-- more stand after the others where requests are accepted, and those of a dialogue go where it is ended.
use Rattle.fp_steps.proofs.Names.{Bool, Event, Given, List, None, Option, Output, QueuedFrame, Some, [], add-zero, and_parts, ap, append-nil, arith, cases_Bool, cond, eqb, eqb-true, false, filter, for_one, frames, frames_after, frames_by, if_queued, length, length-append, named, nat_le, nat_tests, queued, queued_in, refl, subst, suc, sym, true, ℕ, ⊎_elim, ⊤, ◌&&◌, ◌++◌, ◌+◌, ◌<◌, ◌∙◌, ◌∷◌, ◌≡◌, ◌≤◌, append_assoc, asked_at, eq-eqb, numbered}
use Rattle.fp_steps.proofs.HeldDialogues.{for_other}
use Rattle.fp_steps.proofs.TieAtTurns.{none_queued}

-- one more of a dialogue
abbrev pub bump : ℕ → (ℕ → ℕ) → ℕ → ℕ
bump d f c = cond (eqb c d) (suc (f c)) (f c)

-- the places of each dialogue's frames are one after the other, from these on
abbrev pub Numbered : (ℕ → ℕ) → List QueuedFrame → Type 0
Numbered f [] = ⊤
Numbered f (a ∷ xs) = (a.place ≡ f a.dialogue) × Numbered (bump a.dialogue f) xs

-- how many are of a dialogue
abbrev pub n_of : ℕ → List QueuedFrame → ℕ
n_of d [] = 0
n_of d (a ∷ xs) = cond (eqb d a.dialogue) (suc (n_of d xs)) (n_of d xs)

pub n_of_more : (d : ℕ) (f : ℕ → ℕ) (a : QueuedFrame) (xs : List QueuedFrame) → bump a.dialogue f d + n_of d xs ≡ f d + n_of d (a ∷ xs)
n_of_more d f a xs = grind (arith, nat_tests)

-- one dialogue's, or another's
bump_own : (d c : ℕ) (f : ℕ → ℕ) → eqb c d ≡ true → bump d f c ≡ suc (f c)
bump_own d c f e = ap (λ b. cond b (suc (f c)) (f c)) e

bump_other : (d c : ℕ) (f : ℕ → ℕ) → eqb c d ≡ false → bump d f c ≡ f c
bump_other d c f e = ap (λ b. cond b (suc (f c)) (f c)) e

bump_more : (d c : ℕ) (f : ℕ → ℕ) → f c ≤ bump d f c
bump_more d c f = ⊎_elim (λ e. omega (arith, bump_own d c f e)) (λ e. omega (arith, bump_other d c f e)) (cases_Bool (eqb c d))

pub numbered-snoc : (f : ℕ → ℕ) (xs : List QueuedFrame) (a : QueuedFrame) → Numbered f xs → a.place ≡ f a.dialogue + n_of a.dialogue xs → Numbered f (xs ++ a ∷ [])
numbered-snoc f [] a n is = (is ∙ add-zero (f a.dialogue), tt)
numbered-snoc f (b ∷ xs) a n is = (n.0, numbered-snoc (bump b.dialogue f) xs a n.1 (is ∙ sym (n_of_more a.dialogue f b xs)))

-- a frame waits where its dialogue's go out, and so many of them were picked at most
abbrev pub waits_by : (ℕ → Bool) → (ℕ → ℕ) → QueuedFrame → Bool
waits_by sends k a = sends a.dialogue && nat_le (k a.dialogue) a.place

-- none of a dialogue's later frames is affected where one more of it was picked
stay_all : (sends : ℕ → Bool) (k : ℕ → ℕ) (d : ℕ) (g : ℕ → ℕ) (xs : List QueuedFrame) → Numbered g xs → k d < g d → filter (waits_by sends (bump d k)) xs ≡ filter (waits_by sends k) xs
stay_all sends k d g [] n lt = refl
stay_all sends k d g (a ∷ xs) n lt =
    let p : QueuedFrame → Bool = waits_by sends (bump d k) in
    let place : a.place ≡ g a.dialogue = n.0 in
    let same : p a ≡ waits_by sends k a = grind (arith, nat_tests) in
    ap (λ b. cond b (a ∷ filter p xs) (filter p xs)) same
    ∙ ap (λ r. cond (waits_by sends k a) (a ∷ r) r) (stay_all sends k d (bump a.dialogue g) xs n.1 (omega (arith, lt, bump_more a.dialogue d g)))

-- what becomes of those that wait where the oldest is picked
pub record Goes (sends : ℕ → Bool) (k f : ℕ → ℕ) (xs : List QueuedFrame) (first : QueuedFrame) (rest : List QueuedFrame) : Type 0 where
  pub left : filter (waits_by sends (bump first.dialogue k)) xs ≡ rest
  pub place : first.place ≡ k first.dialogue
  pub within : k first.dialogue < f first.dialogue + n_of first.dialogue xs

the_first : (a b : QueuedFrame) (xs bs : List QueuedFrame) → a ∷ xs ≡ b ∷ bs → (a ≡ b) × (xs ≡ bs)
the_first a b xs bs e = ((let x : a ≡ b = cc in x), (let y : xs ≡ bs = cc in y))

first_here : (sends : ℕ → Bool) (k f : ℕ → ℕ) (a : QueuedFrame) (xs : List QueuedFrame) → Numbered f (a ∷ xs) → (sends a.dialogue ≡ true → f a.dialogue ≤ k a.dialogue) → waits_by sends k a ≡ true
    → Goes sends k f (a ∷ xs) a (filter (waits_by sends k) xs)
first_here sends k f a xs n few w =
    let d = a.dialogue in
    let p : QueuedFrame → Bool = waits_by sends (bump d k) in
    let place : a.place ≡ f d = n.0 in
    let most : f d ≤ k d = few (and_parts (sends d) (nat_le (k d) a.place) w).0 in
    let gone : p a ≡ false = grind (arith, nat_tests) in
    record {
      left = ap (λ b. cond b (a ∷ filter p xs) (filter p xs)) gone ∙ stay_all sends k d (bump d f) xs n.1 (grind (arith, nat_tests));
      place = grind (arith, nat_tests);
      within = grind (arith, nat_tests);
    }

still_few : (sends : ℕ → Bool) (k f : ℕ → ℕ) (a : QueuedFrame) → a.place ≡ f a.dialogue → ((c : ℕ) → sends c ≡ true → f c ≤ k c) → waits_by sends k a ≡ false
    → (c : ℕ) → sends c ≡ true → bump a.dialogue f c ≤ k c
still_few sends k f a place few w c alive = grind (arith, nat_tests, few c alive)

stays_gone : (sends : ℕ → Bool) (k : ℕ → ℕ) (d : ℕ) (a : QueuedFrame) → waits_by sends k a ≡ false → waits_by sends (bump d k) a ≡ false
stays_gone sends k d a w = grind (arith, nat_tests)

pub first_goes : (sends : ℕ → Bool) (k f : ℕ → ℕ) (xs : List QueuedFrame) (first : QueuedFrame) (rest : List QueuedFrame) → Numbered f xs → ((c : ℕ) → sends c ≡ true → f c ≤ k c) → filter (waits_by sends k) xs ≡ first ∷ rest
    → Goes sends k f xs first rest
first_goes sends k f [] first rest n few is = absurd (let clash : [] ≡ first ∷ rest = is in cc)
first_goes sends k f (a ∷ xs) first rest n few is =
    ⊎_elim
    (λ w.
    let parts = the_first a first (filter (waits_by sends k) xs) rest (sym (ap (λ b. cond b (a ∷ filter (waits_by sends k) xs) (filter (waits_by sends k) xs)) w) ∙ is) in
    subst (λ r. Goes sends k f (a ∷ xs) first r) parts.1
    (subst (λ x. Goes sends k f (a ∷ xs) x (filter (waits_by sends k) xs)) parts.0 (first_here sends k f a xs n (few a.dialogue) w)))
    (λ w.
    let is_rest : filter (waits_by sends k) xs ≡ first ∷ rest = sym (ap (λ b. cond b (a ∷ filter (waits_by sends k) xs) (filter (waits_by sends k) xs)) w) ∙ is in
    let g : Goes sends k (bump a.dialogue f) xs first rest = first_goes sends k (bump a.dialogue f) xs first rest n.1 (still_few sends k f a n.0 few w) is_rest in
    let within : k first.dialogue < bump a.dialogue f first.dialogue + n_of first.dialogue xs = g.within in
    record {
      left = ap (λ b. cond b (a ∷ filter (waits_by sends (bump first.dialogue k)) xs) (filter (waits_by sends (bump first.dialogue k)) xs)) (stays_gone sends k first.dialogue a w) ∙ g.left;
      place = g.place;
      within = omega (arith, within, n_of_more first.dialogue f a xs);
    }) (cases_Bool (waits_by sends k a))

-- none goes out where none is to
pub filter_none : (p : QueuedFrame → Bool) (xs : List QueuedFrame) → ((a : QueuedFrame) → p a ≡ false) → filter p xs ≡ []
filter_none p [] none = refl
filter_none p (a ∷ xs) none = ap (λ b. cond b (a ∷ filter p xs) (filter p xs)) (none a) ∙ filter_none p xs none

-- NUMBERS

abbrev pub zero_of : ℕ → ℕ
zero_of d = 0

n_of-append : (d : ℕ) (xs ys : List QueuedFrame) → n_of d (xs ++ ys) ≡ n_of d xs + n_of d ys
n_of-append d [] ys = omega arith
n_of-append d (x ∷ xs) ys = grind (arith, nat_tests, n_of-append d xs ys)

n_of-own : (c d place : ℕ) (xs : List (List ℕ)) → eqb d c ≡ true → n_of d (numbered c place xs) ≡ length xs
n_of-own c d place [] e = refl
n_of-own c d place (x ∷ xs) e = grind (arith, nat_tests, n_of-own c d (place + 1) xs e)

n_of-other : (c d place : ℕ) (xs : List (List ℕ)) → eqb d c ≡ false → n_of d (numbered c place xs) ≡ 0
n_of-other c d place [] e = refl
n_of-other c d place (x ∷ xs) e = grind (arith, nat_tests, n_of-other c d (place + 1) xs e)

-- each is counted
counted_gave : (h : List Event) (l p n : ℕ) (given : Given) (d : ℕ) (o : Option ℕ) → named h l ≡ o → n_of d (frames h) ≡ length (queued h d)
    → n_of d (frames h ++ frames_by o (Output.Gave l p n given) h) ≡ length (queued h d ++ queued_in (Output.Gave l p n given) h d)
counted_gave h l p n given d None name same =
    let none : queued_in (Output.Gave l p n given) h d ≡ [] = ap (λ o. if_queued given (for_one o d (asked_at h d p n))) name ∙ none_queued given in
    ap (n_of d) (append-nil (frames h)) ∙ same ∙ ap length (sym (append-nil (queued h d))) ∙ ap (λ xs. length (queued h d ++ xs)) (sym none)
counted_gave h l p n given d (Some c) name same =
    let xs = queued_in (Output.Gave l p n given) h c in let place = length (queued h c) in
    let all = n_of-append d (frames h) (numbered c place xs) in
    ⊎_elim
    (λ e.
    let these : n_of d (numbered c place xs) ≡ length (queued_in (Output.Gave l p n given) h d) =
    n_of-own c d place xs e ∙ ap (λ k. length (queued_in (Output.Gave l p n given) h k)) (sym (eqb-true d c e))
    in
    omega (arith, all, these, same, length-append (queued h d) (queued_in (Output.Gave l p n given) h d)))
    (λ e.
    let none : queued_in (Output.Gave l p n given) h d ≡ [] =
    ap (if_queued given) (for_other (named h l) d c (asked_at h d p n) name e) ∙ none_queued given
    in
    omega (arith, all, n_of-other c d place xs e, same, length-append (queued h d) (queued_in (Output.Gave l p n given) h d), ap length none))
    (cases_Bool (eqb d c))

-- the places of those that come then are after the others
numbered_more : (d : ℕ) (fs : List QueuedFrame) (place : ℕ) (xs : List (List ℕ)) → Numbered zero_of fs → n_of d fs ≡ place → Numbered zero_of (fs ++ numbered d place xs)
numbered_more d fs place [] n same = subst (Numbered zero_of) (sym (append-nil fs)) n
numbered_more d fs place (x ∷ xs) n same =
    let a : QueuedFrame = record { dialogue = d; place = place; frame = x } in
    let one : n_of d (a ∷ []) ≡ 1 = n_of-own d d place (x ∷ []) (eq-eqb d d refl) in
    subst (Numbered zero_of) (append_assoc fs (a ∷ []) (numbered d (place + 1) xs))
    (numbered_more d (fs ++ a ∷ []) (place + 1) xs (numbered-snoc zero_of fs a n (omega (arith, same))) (omega (arith, n_of-append d fs (a ∷ []), one, same)))

numbered_gave : (h : List Event) (l p n : ℕ) (given : Given) (o : Option ℕ) → Numbered zero_of (frames h) → ((d : ℕ) → n_of d (frames h) ≡ length (queued h d))
    → Numbered zero_of (frames h ++ frames_by o (Output.Gave l p n given) h)
numbered_gave h l p n given None k same = subst (Numbered zero_of) (sym (append-nil (frames h))) k
numbered_gave h l p n given (Some c) k same = numbered_more c (frames h) (length (queued h c)) (queued_in (Output.Gave l p n given) h c) k (same c)

-- whatever is answered
counted_by : (h : List Event) (d : ℕ) (output : Output) → n_of d (frames h) ≡ length (queued h d) → n_of d (frames_after output h (frames h)) ≡ length (queued h d ++ queued_in output h d)
counted_by h d (Output.Gave l p n given) same = counted_gave h l p n given d (named h l) refl same
counted_by h d output same = same ∙ ap length (sym (append-nil (queued h d)))

pub counted : (h : List Event) (d : ℕ) → n_of d (frames h) ≡ length (queued h d)
counted [] d = refl
counted (e ∷ h) d = counted_by h d e.output (counted h d)

numbered_by : (h : List Event) (output : Output) → Numbered zero_of (frames h) → Numbered zero_of (frames_after output h (frames h))
numbered_by h (Output.Gave l p n given) k = numbered_gave h l p n given (named h l) k (counted h)
numbered_by h output k = k

pub all_numbered : (h : List Event) → Numbered zero_of (frames h)
all_numbered [] = tt
all_numbered (e ∷ h) = numbered_by h e.output (all_numbered h)
