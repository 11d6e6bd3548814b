-- Lanes that are joined to one list, and a timer more or less in one of them.
use Rattle.fp_timers.proofs.Names.{All, All-append, AreApart, AreFew, Bool, FinMap, IsAt, IsTimerAt, IsWith, List, None, Some, Timer, ap, append_assoc, arith, drop, drop-append-add, drop-append_seam, false, get, get_or-append-add, get_or-insert_at, get_or_default, insert, joined, len, length, length-append, length-insert, map_insert, map_remove, nat_cmp, refl, remove, set, set-get_or, set_split, subst, suc, sym, take, take-append_seam, timer_at, true, ℕ, ◌++◌, ◌+◌, ◌<◌, ◌∙◌, ◌∷◌, ◌≡◌, ◌≢◌, ◌≤◌, most_deadlines}
use Rattle.fp_timers.proofs.Lookups.{found}
use Rattle.fp_timers.proofs.Maps.{get-map_of, len-map_of, map_of, map_of-insert, map_of-remove, others}
use Rattle.fp_timers.proofs.Order.{past_end, rises_insert, rises_remove}

-- a list without the timer at a place
pub with_removed : (l : List Timer) (t : Timer) (place : ℕ) → IsTimerAt l t place → IsWith (remove l place) t l
with_removed l t place at = record {
  before = take place l;
  after = drop (suc place) l;
  without = refl;
  whole = sym (set-get_or l place past_end) ∙ ap (set l place) at.is_timer ∙ set_split l place t at.in_range;
}

module _ (t : Timer) (x y : List Timer) (w : IsWith x t y) where
  -- with others after them, or before them
  with_left : (r : List Timer) → IsWith (x ++ r) t (y ++ r)
  with_left r = record {
    before = w.before;
    after = w.after ++ r;
    without = ap (λ l. l ++ r) w.without ∙ append_assoc w.before w.after r;
    whole = ap (λ l. l ++ r) w.whole ∙ append_assoc w.before (t ∷ w.after) r;
  }

  with_right : (l : List Timer) → IsWith (l ++ x) t (l ++ y)
  with_right l = record {
    before = l ++ w.before;
    after = w.after;
    without = ap (λ r. l ++ r) w.without ∙ sym (append_assoc l w.before w.after);
    whole = ap (λ r. l ++ r) w.whole ∙ sym (append_assoc l w.before (t ∷ w.after));
  }

-- a test that doesn't fail
pub unless_false : (b : Bool) → (b ≡ false → ⊥) → b ≡ true
unless_false true not_false = refl
unless_false false not_false = absurd (not_false refl)

-- one lane has the timer more
pub in_first : (t : Timer) (a a' b c d : List Timer) → IsWith a t a' → IsWith (joined a b c d) t (joined a' b c d)
in_first t a a' b c d w = with_left t a a' w (b ++ (c ++ d))

pub in_second : (t : Timer) (a a' b b' c d : List Timer) → a ≡ a' → IsWith b t b' → IsWith (joined a b c d) t (joined a' b' c d)
in_second t a a' b b' c d e w = subst (λ x. IsWith (joined a b c d) t (joined x b' c d)) e (with_right t _ _ (with_left t b b' w (c ++ d)) a)

pub in_third : (t : Timer) (a a' b b' c c' d : List Timer) → a ≡ a' → b ≡ b' → IsWith c t c' → IsWith (joined a b c d) t (joined a' b' c' d)
in_third t a a' b b' c c' d e f w =
    subst (λ x. IsWith (joined a b c d) t (joined x b' c' d)) e (with_right t _ _ (subst (λ x. IsWith (b ++ (c ++ d)) t (x ++ (c' ++ d))) f (with_right t _ _ (with_left t c c' w d) b)) a)

pub in_fourth : (t : Timer) (a a' b b' c c' d d' : List Timer) → a ≡ a' → b ≡ b' → c ≡ c' → IsWith d t d' → IsWith (joined a b c d) t (joined a' b' c' d')
in_fourth t a a' b b' c c' d d' e f g w =
    subst
    (λ x. IsWith (joined a b c d) t (joined x b' c' d'))
    e
    (with_right t _ _ (subst (λ x. IsWith (b ++ (c ++ d)) t (x ++ (c' ++ d'))) f (with_right t _ _ (subst (λ x. IsWith (c ++ d) t (x ++ d')) g (with_right t d d' w c)) b)) a)

-- how many timers the lanes have
pub length-joined : (a b c d : List Timer) → length (joined a b c d) ≡ length a + (length b + (length c + length d))
length-joined a b c d = omega (arith, length-append a (b ++ (c ++ d)), length-append b (c ++ d), length-append c d)

-- what holds of all timers of each lane holds of all
pub All-joined : (P : Timer → Type 0) (a b c d : List Timer) → All P a → All P b → All P c → All P d → All P (joined a b c d)
All-joined P a b c d h i j k = All-append P a (b ++ (c ++ d)) h (All-append P b (c ++ d) i (All-append P c d j k))

-- what holds of all timers holds of those of the fourth lane
All-right : (P : Timer → Type 0) (l r : List Timer) → All P (l ++ r) → All P r
All-right P l r h k d lt = subst P (get_or-append-add l r k d) (h (length l + k) d (omega (arith, lt, length-append l r)))

pub All-fourth : (P : Timer → Type 0) (a b c d : List Timer) → All P (joined a b c d) → All P d
All-fourth P a b c d h = All-right P c d (All-right P b (c ++ d) (All-right P a (b ++ (c ++ d)) h))

module _ (t : Timer) (l l' : List Timer) (w : IsWith l t l') where
  -- where the timer is
  abbrev place : ℕ
  place = length w.before

  within : place ≤ length l
  within = omega (arith, ap length w.without, length-append w.before w.after)

  is_insert : l' ≡ insert l place t
  is_insert = w.whole ∙ sym (ap (λ x. insert x place t) w.without ∙ (λ i. take-append_seam w.before w.after i ++ t ∷ drop-append_seam w.before w.after i))

  pub length-with : length l' ≡ length l + 1
  length-with = ap length is_insert ∙ length-insert l place t within

  is_remove : l ≡ remove l' place
  is_remove =
      let next : suc place ≡ place + 1 = omega arith in
      let rest : drop (suc place) (w.before ++ t ∷ w.after) ≡ w.after = ap (λ n. drop n (w.before ++ t ∷ w.after)) next ∙ drop-append-add w.before (t ∷ w.after) 1 in
      w.without ∙ sym (ap (λ x. remove x place) w.whole ∙ (λ i. take-append_seam w.before (t ∷ w.after) i ++ rest i))

  is_at : IsAt l' t.local place
  is_at = record {
    in_range = omega (arith, length-with, within);
    has_local = ap (λ (u : Timer). u.local) (ap (λ x. timer_at x place) is_insert ∙ get_or-insert_at l place t past_end within);
  }

  -- a timer more, of an identifier that had none
  module _ (apart : AreApart l) (none : get (map_of l) t.local ≡ None) where
    pub apart_with : AreApart l'
    apart_with =
        let other = others l apart t.local none in
        subst AreApart (sym is_insert) (rises_insert (λ a b. a.local ≢ b.local) l apart place t within (λ i lt. other i (omega (arith, within))) (λ i le lt e. other i lt (sym e)))

    pub map_with : map_of l' ≡ map_insert (map_of l) t.local t.deadline
    map_with = ap map_of is_insert ∙ map_of-insert l apart t.local none place t.deadline

  -- a timer less
  module _ (apart : AreApart l') where
    pub apart_without : AreApart l
    apart_without = subst AreApart (sym is_remove) (rises_remove (λ a b. a.local ≢ b.local) l' apart place is_at.in_range)

    pub map_without : map_of l ≡ map_remove (map_of l') t.local
    map_without = ap map_of is_remove ∙ map_of-remove l' apart t.local place is_at

module _ (t : Timer) (l : List Timer) (m : FinMap nat_cmp ℕ) (few : AreFew l) (is : map_of l ≡ m) where
  -- a timer is added
  module _ (absent : get m t.local ≡ None) (room : len m < most_deadlines) where
    pub fewer : length l < most_deadlines
    fewer = omega (arith, sym (len-map_of l few.apart) ∙ ap len is, room)

    none : get (map_of l) t.local ≡ None
    none = ap (λ n. get n t.local) is ∙ absent

    pub others_apart : All (λ other. other.local ≢ t.local) l
    others_apart k d lt e = others l few.apart t.local none k lt (ap (λ (u : Timer). u.local) (get_or_default l k past_end d lt) ∙ e)

    pub few_with : (l' : List Timer) → IsWith l t l' → AreFew l'
    few_with l' w = record { apart = apart_with t l l' w few.apart none; most = omega (arith, length-with t l l' w, fewer) }

    pub view_with : (l' : List Timer) → IsWith l t l' → map_of l' ≡ map_insert m t.local t.deadline
    view_with l' w = map_with t l l' w few.apart none ∙ ap (λ n. map_insert n t.local t.deadline) is

  -- a timer is taken away
  module _ (l' : List Timer) (w : IsWith l' t l) where
    pub few_without : AreFew l'
    few_without = record { apart = apart_without t l' l w few.apart; most = omega (arith, length-with t l' l w, few.most) }

    pub view_without : map_of l' ≡ map_remove m t.local
    view_without = map_without t l' l w few.apart ∙ ap (λ n. map_remove n t.local) is

    pub room_without : len (map_of l') < most_deadlines
    room_without = omega (arith, len-map_of l' few_without.apart, length-with t l' l w, few.most)

  -- a timer that the map has is in the list
  pub somewhere : get m t.local ≡ Some t.deadline → All (λ other. other ≢ t) l → ⊥
  somewhere has none =
      let f = found l t.local t.deadline (sym (get-map_of l t.local) ∙ ap (λ n. get n t.local) is ∙ has) in
      none f.place past_end f.in_range (λ i. record { local = f.has_local i; deadline = f.has_deadline i })
