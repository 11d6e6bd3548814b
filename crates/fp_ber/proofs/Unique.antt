-- No spelling begins another, and each spells one element.
use Rattle.std.proofs.Common.{◌≡◌, ℕ, zero, suc, ◌-◌, ◌<◌, Bool, true, false, List, [], ◌∷◌, ◌++◌, length, ◌⊎◌, inl, inr, refl, sym, ◌∙◌, ap, ap₂, ◌≢◌, subst, append_assoc, arith}
use Rattle.std.specs.Prelude.{⊤}
use Rattle.fp_ber.specs.declared.element.Class.{Class}
use Rattle.fp_ber.specs.declared.element.Class.TheVariants.{Universal, Application, Context, Private}
use Rattle.fp_ber.specs.Tree.{Tree, Trees, primitive, constructed, none, more, class_code}
use Rattle.fp_ber.specs.Spelling.{first_octet, IsTag, IsLength, IsDefinite, IsIndefinite, Spells, SpellsAll}
use Rattle.fp_ber.specs.Laws.{NoneBeginsAnother}

-- Octets

-- two fronts of one text that are as long are the same
pub same_front : (a b x y : List ℕ) → length a ≡ length b → a ++ x ≡ b ++ y → (a ≡ b) × (x ≡ y)
same_front [] [] x y l e = (refl, e)
same_front [] (d ∷ b) x y l e = absurd (omega arith)
same_front (c ∷ a) [] x y l e = absurd (omega arith)
same_front (c ∷ a) (d ∷ b) x y l e =
    let r = same_front a b x y (omega arith) (cc) in
    (cc, r.1)

-- two texts, each of two parts, that begin one text: so do their first parts
pub split_front : (a a' b b' p q x y : List ℕ) → a ≡ p ++ a' → b ≡ q ++ b' → a ++ x ≡ b ++ y → p ++ (a' ++ x) ≡ q ++ (b' ++ y)
split_front a a' b b' p q x y ea eb e =
    sym (append_assoc p a' x) ∙ ap (λ (z : List ℕ). z ++ x) (sym ea) ∙ e ∙ ap (λ (z : List ℕ). z ++ y) eb ∙ append_assoc q b' y

-- Tags

-- the class of a code
class_at : ℕ → Class
class_at zero = Universal
class_at (suc zero) = Application
class_at (suc (suc zero)) = Context
class_at (suc (suc (suc n))) = Private

-- the code of a class says the class
class_at-class_code : (c : Class) → class_at (class_code c) ≡ c
unfolding class_at
class_at-class_code Universal = refl
class_at-class_code Application = refl
class_at-class_code Context = refl
class_at-class_code Private = refl

-- classes of one code are the same
class_same : (c d : Class) → class_code c ≡ class_code d → c ≡ d
class_same c d e = sym (class_at-class_code c) ∙ ap class_at e ∙ class_at-class_code d

-- what two first octets that are equal have in common
record SameFirst (c d : Class) (f g : Bool) (m n : ℕ) : Type 0 where
  class : c ≡ d
  form : f ≡ g
  low : m ≡ n

-- the first octet of a tag says the class, the form and the five bits
first_same : (c d : Class) (f g : Bool) (m n : ℕ) → m < 32 → n < 32 → first_octet c f m ≡ first_octet d g n → SameFirst c d f g m n
first_same c d false false m n hm hn e = record { class = class_same c d (omega arith); form = refl; low = omega arith }
first_same c d false true m n hm hn e = absurd (omega arith)
first_same c d true false m n hm hn e = absurd (omega arith)
first_same c d true true m n hm hn e = record { class = class_same c d (omega arith); form = refl; low = omega arith }

-- what two tags that begin one text have in common
pub record SameTag (p q x y : List ℕ) (c d : Class) (f g : Bool) (m n : ℕ) : Type 0 where
  pub class : c ≡ d
  pub form : f ≡ g
  pub number : m ≡ n
  pub text : p ≡ q
  pub rest : x ≡ y

-- two tags that begin one text are the same
pub tag_same : (p q x y : List ℕ) (c d : Class) (f g : Bool) (m n : ℕ) → IsTag p c f m → IsTag q d g n → p ++ x ≡ q ++ y → SameTag p q x y c d f g m n
tag_same [] q x y c d f g m n h k e = absurd h
tag_same (a ∷ []) [] x y c d f g m n h k e = absurd k
tag_same (a ∷ []) (a' ∷ []) x y c d f g m n h k e =
    let s = first_same c d f g m n (omega arith) (omega arith) (cc) in
    record { class = s.class; form = s.form; number = s.low; text = cc; rest = cc }
tag_same (a ∷ []) (a' ∷ b' ∷ []) x y c d f g m n h k e =
    let s = first_same c d f g m 31 (omega arith) (omega arith) (cc) in
    absurd (omega arith)
tag_same (a ∷ []) (a' ∷ b' ∷ c' ∷ []) x y c d f g m n h k e =
    let s = first_same c d f g m 31 (omega arith) (omega arith) (cc) in
    absurd (omega arith)
tag_same (a ∷ []) (a' ∷ b' ∷ c' ∷ d' ∷ q) x y c d f g m n h k e = absurd k
tag_same (a ∷ b ∷ []) [] x y c d f g m n h k e = absurd k
tag_same (a ∷ b ∷ []) (a' ∷ []) x y c d f g m n h k e =
    let s = first_same c d f g 31 n (omega arith) (omega arith) (cc) in
    absurd (omega arith)
tag_same (a ∷ b ∷ []) (a' ∷ b' ∷ []) x y c d f g m n h k e =
    let s = first_same c d f g 31 31 (omega arith) (omega arith) (cc) in
    record { class = s.class; form = s.form; number = cc; text = cc; rest = cc }
tag_same (a ∷ b ∷ []) (a' ∷ b' ∷ c' ∷ []) x y c d f g m n h k e =
    let s : b ≡ b' = cc in
    absurd (omega arith)
tag_same (a ∷ b ∷ []) (a' ∷ b' ∷ c' ∷ d' ∷ q) x y c d f g m n h k e = absurd k
tag_same (a ∷ b ∷ b₂ ∷ []) [] x y c d f g m n h k e = absurd k
tag_same (a ∷ b ∷ b₂ ∷ []) (a' ∷ []) x y c d f g m n h k e =
    let s = first_same c d f g 31 n (omega arith) (omega arith) (cc) in
    absurd (omega arith)
tag_same (a ∷ b ∷ b₂ ∷ []) (a' ∷ b' ∷ []) x y c d f g m n h k e =
    let s : b ≡ b' = cc in
    absurd (omega arith)
tag_same (a ∷ b ∷ b₂ ∷ []) (a' ∷ b' ∷ c' ∷ []) x y c d f g m n h k e =
    let s = first_same c d f g 31 31 (omega arith) (omega arith) (cc) in
    let t : b ≡ b' = cc in
    let u : b₂ ≡ c' = cc in
    record { class = s.class; form = s.form; number = omega arith; text = cc; rest = cc }
tag_same (a ∷ b ∷ b₂ ∷ []) (a' ∷ b' ∷ c' ∷ d' ∷ q) x y c d f g m n h k e = absurd k
tag_same (a ∷ b ∷ b₂ ∷ b₃ ∷ p) q x y c d f g m n h k e = absurd h

-- Lengths

-- the first octet of a length says how many follow, and is not that of an indefinite one
pub record HeadOf (size : List ℕ) : Type 0 where
  pub first : ℕ
  pub others : List ℕ
  pub whole : size ≡ first ∷ others
  pub follow : length others ≡ first - 0x80
  pub definite : first ≢ 0x80
  pub form : first < 0x85

pub head_of : (size : List ℕ) (n : ℕ) → IsLength size n → HeadOf size
head_of [] n h = absurd h
head_of (l ∷ []) n h = record { first = l; others = []; whole = refl; follow = omega arith; definite = omega arith; form = omega arith }
head_of (l ∷ a ∷ []) n h = record { first = l; others = a ∷ []; whole = refl; follow = omega arith; definite = omega arith; form = omega arith }
head_of (l ∷ a ∷ b ∷ []) n h = record { first = l; others = a ∷ b ∷ []; whole = refl; follow = omega arith; definite = omega arith; form = omega arith }
head_of (l ∷ a ∷ b ∷ c ∷ []) n h = record { first = l; others = a ∷ b ∷ c ∷ []; whole = refl; follow = omega arith; definite = omega arith; form = omega arith }
head_of (l ∷ a ∷ b ∷ c ∷ d ∷ []) n h = record { first = l; others = a ∷ b ∷ c ∷ d ∷ []; whole = refl; follow = omega arith; definite = omega arith; form = omega arith }
head_of (l ∷ a ∷ b ∷ c ∷ d ∷ e ∷ rest) n h = absurd h

-- a length says one number
length_of : (size : List ℕ) (m n : ℕ) → IsLength size m → IsLength size n → m ≡ n
length_of [] m n h k = absurd h
length_of (l ∷ []) m n h k = omega arith
length_of (l ∷ a ∷ []) m n h k = omega arith
length_of (l ∷ a ∷ b ∷ []) m n h k = omega arith
length_of (l ∷ a ∷ b ∷ c ∷ []) m n h k = omega arith
length_of (l ∷ a ∷ b ∷ c ∷ d ∷ []) m n h k = omega arith
length_of (l ∷ a ∷ b ∷ c ∷ d ∷ e ∷ rest) m n h k = absurd h

-- what two definite lengths that begin one text have in common
pub record SameLength (p q x y : List ℕ) (m n : ℕ) : Type 0 where
  pub number : m ≡ n
  pub text : p ≡ q
  pub rest : x ≡ y

-- two definite lengths that begin one text are the same
pub length_same : (p q x y : List ℕ) (m n : ℕ) → IsLength p m → IsLength q n → p ++ x ≡ q ++ y → SameLength p q x y m n
length_same p q x y m n h k e =
    let u = head_of p m h in
    let v = head_of q n k in
    let eu : p ++ x ≡ u.first ∷ (u.others ++ x) = ap (λ (z : List ℕ). z ++ x) u.whole in
    let ev : q ++ y ≡ v.first ∷ (v.others ++ y) = ap (λ (z : List ℕ). z ++ y) v.whole in
    let s : u.first ≡ v.first = cc in
    let lu : length p ≡ suc (length u.others) = ap length u.whole in
    let lv : length q ≡ suc (length v.others) = ap length v.whole in
    let t = same_front p q x y (omega arith) e in
    let P : List ℕ → Type 0 = λ z. IsLength z n in
    record { number = length_of p m n h (subst P (sym t.0) k); text = t.0; rest = t.1 }

-- Contents

-- what two definite bodies that begin one text have in common
pub record SameBody (a b x y u v : List ℕ) : Type 0 where
  pub contents : u ≡ v
  pub text : a ≡ b
  pub rest : x ≡ y

-- two definite lengths with their contents that begin one text are the same
pub definite_same : (a b x y u v : List ℕ) → IsDefinite a u → IsDefinite b v → a ++ x ≡ b ++ y → SameBody a b x y u v
definite_same a b x y u v h k e =
    let s = length_same h.size k.size (u ++ x) (v ++ y) (length u) (length v) h.is_length k.is_length (split_front a u b v h.size k.size x y h.whole k.whole e) in
    let t = same_front u v x y s.number s.rest in
    let c : u ≡ v = t.0 in
    let z : h.size ≡ k.size = s.text in
    record { contents = c; text = h.whole ∙ ap (λ (w : List ℕ). w ++ u) z ∙ ap (λ (w : List ℕ). k.size ++ w) c ∙ sym k.whole; rest = t.1 }

-- a definite body and an indefinite one begin no text together
definite_not_open : (a b x y u v : List ℕ) → IsDefinite a u → IsIndefinite b v → a ++ x ≡ b ++ y → ⊥
definite_not_open a b x y u v h k e =
    let d = head_of h.size (length u) h.is_length in
    let ea : a ≡ d.first ∷ (d.others ++ u) = h.whole ∙ ap (λ (z : List ℕ). z ++ u) d.whole in
    let fa : a ++ x ≡ d.first ∷ ((d.others ++ u) ++ x) = ap (λ (z : List ℕ). z ++ x) ea in
    let fb : b ++ y ≡ 0x80 ∷ ((v ++ 0 ∷ 0 ∷ []) ++ y) = ap (λ (z : List ℕ). z ++ y) k in
    let s : d.first ≡ 0x80 = cc in
    d.definite s

-- the contents of two indefinite bodies that begin one text, with what follows
open_rest : (a b x y u v : List ℕ) → IsIndefinite a u → IsIndefinite b v → a ++ x ≡ b ++ y → u ++ (0 ∷ 0 ∷ x) ≡ v ++ (0 ∷ 0 ∷ y)
open_rest a b x y u v h k e =
    let fa : a ++ x ≡ 0x80 ∷ ((u ++ 0 ∷ 0 ∷ []) ++ x) = ap (λ (z : List ℕ). z ++ x) h in
    let fb : b ++ y ≡ 0x80 ∷ ((v ++ 0 ∷ 0 ∷ []) ++ y) = ap (λ (z : List ℕ). z ++ y) k in
    let s : (u ++ 0 ∷ 0 ∷ []) ++ x ≡ (v ++ 0 ∷ 0 ∷ []) ++ y = cc in
    sym (append_assoc u (0 ∷ 0 ∷ []) x) ∙ s ∙ append_assoc v (0 ∷ 0 ∷ []) y

-- Elements

-- what no element begins with: nothing, or a 00
abbrev pub IsNoStart : List ℕ → Type 0
IsNoStart [] = ⊤
IsNoStart (a ∷ rest) = a ≡ 0

-- what two spellings that begin one text have in common
pub record SameOne (a b x y : List ℕ) (s t : Tree) : Type 0 where
  pub tree : s ≡ t
  pub text : a ≡ b
  pub rest : x ≡ y

-- the same of elements one after another
pub record SameAll (a b x y : List ℕ) (ss ts : Trees) : Type 0 where
  pub trees : ss ≡ ts
  pub text : a ≡ b
  pub rest : x ≡ y

-- octets that are two at least, the first not 00
pub record Opens (octets : List ℕ) : Type 0 where
  pub first : ℕ
  pub second : ℕ
  pub others : List ℕ
  pub whole : octets ≡ first ∷ second ∷ others
  pub positive : 0 < first

-- a tag, and behind it an octet at least
tag_opens : (text tag body : List ℕ) (class : Class) (form : Bool) (number : ℕ) (second : ℕ) (others : List ℕ) → IsTag tag class form number → body ≡ second ∷ others → text ≡ tag ++ body → Opens text
tag_opens text [] body class form number second others h k e = absurd h
tag_opens text (a ∷ []) body class false number second others h k e =
    record { first = a; second = second; others = others; whole = e ∙ ap (λ (z : List ℕ). a ∷ z) k; positive = omega arith }
tag_opens text (a ∷ []) body class true number second others h k e =
    record { first = a; second = second; others = others; whole = e ∙ ap (λ (z : List ℕ). a ∷ z) k; positive = omega arith }
tag_opens text (a ∷ b ∷ []) body class false number second others h k e =
    record { first = a; second = b; others = body; whole = e; positive = omega arith }
tag_opens text (a ∷ b ∷ []) body class true number second others h k e =
    record { first = a; second = b; others = body; whole = e; positive = omega arith }
tag_opens text (a ∷ b ∷ c ∷ []) body class false number second others h k e =
    record { first = a; second = b; others = c ∷ body; whole = e; positive = omega arith }
tag_opens text (a ∷ b ∷ c ∷ []) body class true number second others h k e =
    record { first = a; second = b; others = c ∷ body; whole = e; positive = omega arith }
tag_opens text (a ∷ b ∷ c ∷ d ∷ tag) body class form number second others h k e = absurd h

-- a spelling has two octets at least, and the first is not 00
pub spelling_opens : (o : List ℕ) (t : Tree) → Spells o t → Opens o
spelling_opens o (primitive class number octets) h =
    let d = head_of h.4.size (length octets) h.4.is_length in
    tag_opens o h.0 h.1 class false number d.first (d.others ++ octets) h.3 (h.4.whole ∙ ap (λ (z : List ℕ). z ++ octets) d.whole) h.2
spelling_opens o (constructed class number children) h = elim h.6 [
  | inl k ↦
      let d = head_of k.size (length h.2) k.is_length in
      tag_opens o h.0 h.1 class true number d.first (d.others ++ h.2) h.4 (k.whole ∙ ap (λ (z : List ℕ). z ++ h.2) d.whole) h.3
  | inr k ↦ tag_opens o h.0 h.1 class true number 0x80 (h.2 ++ 0 ∷ 0 ∷ []) h.4 k h.3
]

-- what is no start begins with no spelling
pub no_start : (x o y : List ℕ) (t : Tree) → IsNoStart x → Spells o t → x ≡ o ++ y → ⊥
no_start [] o y t n h e =
    let s = spelling_opens o t h in
    let f : o ++ y ≡ s.first ∷ ((s.second ∷ s.others) ++ y) = ap (λ (z : List ℕ). z ++ y) s.whole in
    cc
no_start (a ∷ x) o y t n h e =
    let s = spelling_opens o t h in
    let f : o ++ y ≡ s.first ∷ ((s.second ∷ s.others) ++ y) = ap (λ (z : List ℕ). z ++ y) s.whole in
    let g : a ≡ s.first = cc in
    absurd (omega arith)

-- two constructed bodies that begin one text are the same, if their elements are
body_same : (a b x y u v : List ℕ) (ss ts : Trees)
    → ((x' y' : List ℕ) → IsNoStart x' → IsNoStart y' → u ++ x' ≡ v ++ y' → SameAll u v x' y' ss ts)
    → IsDefinite a u ⊎ IsIndefinite a u → IsDefinite b v ⊎ IsIndefinite b v → a ++ x ≡ b ++ y → SameAll a b x y ss ts
body_same a b x y u v ss ts inside (inl h) (inl k) e =
    let s = definite_same a b x y u v h k e in
    let t = inside [] [] tt tt (ap (λ (z : List ℕ). z ++ []) s.contents) in
    record { trees = t.trees; text = s.text; rest = s.rest }
body_same a b x y u v ss ts inside (inl h) (inr k) e = absurd (definite_not_open a b x y u v h k e)
body_same a b x y u v ss ts inside (inr h) (inl k) e = absurd (definite_not_open b a y x v u k h (sym e))
body_same a b x y u v ss ts inside (inr h) (inr k) e =
    let t = inside (0 ∷ 0 ∷ x) (0 ∷ 0 ∷ y) refl refl (open_rest a b x y u v h k e) in
    let c : u ≡ v = t.text in
    record { trees = t.trees; text = h ∙ ap (λ (z : List ℕ). 0x80 ∷ (z ++ 0 ∷ 0 ∷ [])) c ∙ sym k; rest = cc }

mutual
  -- two spellings that begin one text are the same
  pub unique : (s t : Tree) (a b x y : List ℕ) → Spells a s → Spells b t → a ++ x ≡ b ++ y → SameOne a b x y s t
  unique (primitive c m o) (primitive d n p) a b x y h k e =
      let r = tag_same h.0 k.0 (h.1 ++ x) (k.1 ++ y) c d false false m n h.3 k.3 (split_front a h.1 b k.1 h.0 k.0 x y h.2 k.2 e) in
      let s = definite_same h.1 k.1 x y o p h.4 k.4 r.rest in
      record { tree = cc; text = h.2 ∙ ap₂ (λ (z w : List ℕ). z ++ w) r.text s.text ∙ sym k.2; rest = s.rest }
  unique (primitive c m o) (constructed d n ts) a b x y h k e =
      let r = tag_same h.0 k.0 (h.1 ++ x) (k.1 ++ y) c d false true m n h.3 k.4 (split_front a h.1 b k.1 h.0 k.0 x y h.2 k.3 e) in
      let f : false ≡ true = r.form in
      absurd (cc)
  unique (constructed c m ss) (primitive d n p) a b x y h k e =
      let r = tag_same h.0 k.0 (h.1 ++ x) (k.1 ++ y) c d true false m n h.4 k.3 (split_front a h.1 b k.1 h.0 k.0 x y h.3 k.2 e) in
      let f : true ≡ false = r.form in
      absurd (cc)
  unique (constructed c m ss) (constructed d n ts) a b x y h k e =
      let r = tag_same h.0 k.0 (h.1 ++ x) (k.1 ++ y) c d true true m n h.4 k.4 (split_front a h.1 b k.1 h.0 k.0 x y h.3 k.3 e) in
      let s = body_same h.1 k.1 x y h.2 k.2 ss ts (λ x' y' nx ny f. unique_all ss ts h.2 k.2 x' y' h.5 k.5 nx ny f) h.6 k.6 r.rest in
      record { tree = cc; text = h.3 ∙ ap₂ (λ (z w : List ℕ). z ++ w) r.text s.text ∙ sym k.3; rest = s.rest }

  -- two spellings of elements one after another, and then none, over one text are the same
  pub unique_all : (ss ts : Trees) (a b x y : List ℕ) → SpellsAll a ss → SpellsAll b ts → IsNoStart x → IsNoStart y → a ++ x ≡ b ++ y → SameAll a b x y ss ts
  unique_all none none a b x y h k nx ny e =
      record { trees = refl; text = h ∙ sym k; rest = sym (ap (λ (z : List ℕ). z ++ x) h) ∙ e ∙ ap (λ (z : List ℕ). z ++ y) k }
  unique_all none (more t ts) a b x y h k nx ny e =
      absurd (no_start x k.0 (k.1 ++ y) t nx k.3 (split_front a [] b k.1 [] k.0 x y h k.2 e))
  unique_all (more s ss) none a b x y h k nx ny e =
      absurd (no_start y h.0 (h.1 ++ x) s ny h.3 (sym (split_front a h.1 b [] h.0 [] x y h.2 k e)))
  unique_all (more s ss) (more t ts) a b x y h k nx ny e =
      let r = unique s t h.0 k.0 (h.1 ++ x) (k.1 ++ y) h.3 k.3 (split_front a h.1 b k.1 h.0 k.0 x y h.2 k.2 e) in
      let q = unique_all ss ts h.1 k.1 x y h.4 k.4 nx ny r.rest in
      record { trees = cc; text = h.2 ∙ ap₂ (λ (z w : List ℕ). z ++ w) r.text q.text ∙ sym k.2; rest = q.rest }

-- no spelling begins another, and each spells one element
pub no_spelling_begins_another : NoneBeginsAnother
no_spelling_begins_another a b x y s t h k e = let r = unique s t a b x y h k e in (r.text, r.tree)
