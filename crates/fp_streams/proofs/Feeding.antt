-- The lines that were taken of one piece so far.
use Rattle.std.proofs.Common.{◌≡◌, ◌≢◌, ℕ, ◌+◌, ◌<◌, ◌≤◌, Bool, true, List, [], ◌∷◌, ◌++◌, length, refl, sym, ◌∙◌, ap, subst, arith, append_assoc, length-append}
use Rattle.std.proofs.lemmas.List.Elements.{All-append, All-nil}
use Rattle.fp_streams.specs.Feeding.{Feeds}
use Rattle.fp_streams.specs.Following.{Declines, GrowsLong, IsLine, Reaches}
use Rattle.fp_streams.specs.Line.{IsOneLine}
use Rattle.fp_streams.proofs.Taken.{reaches_more, reaches_one}

-- lines were taken, and this is left: what was begun, at its front, and the octets that weren't looked at
pub record Feeding {S : Type 0} (takes : S → Bool → List ℕ → S → Type 0) (most : ℕ) (old new : S) (octets left : List ℕ) (taken now : ℕ) (begun : List ℕ) : Type 0 where
  pub lines : List (List ℕ)
  pub taken_is : now ≡ taken + length lines
  pub reaches : Reaches takes most old new octets lines left
  pub begun_is : IsLine most begun

-- octets without a line feed go to what was begun
pub longer_line : (most : ℕ) (begun front : List ℕ) → IsLine most begun → IsOneLine front → length front + length begun ≤ most → IsLine most (begun ++ front)
longer_line most begun front is one few = record {
  one_line = All-append (λ o. o ≢ 10) begun front is.one_line one;
  short = let n = length-append begun front in omega (arith, n, few);
}

-- what was begun, and the octets after it, by their front
parts : (left begun front behind : List ℕ) → left ≡ begun ++ (front ++ behind) → left ≡ (begun ++ front) ++ behind
parts left begun front behind is = is ∙ sym (append_assoc begun front behind)

-- the next line is too long
pub grows_long : {S : Type 0} (takes : S → Bool → List ℕ → S → Type 0) (most : ℕ) (old new : S) (octets left : List ℕ) (taken now : ℕ) (begun front behind : List ℕ)
    → Feeding takes most old new octets left taken now begun → left ≡ begun ++ (front ++ behind) → IsOneLine front → most < length front + length begun
    → (lines : List (List ℕ)) × (now ≡ taken + length lines) × GrowsLong takes most old new octets lines
grows_long takes most old new octets left taken now begun front behind f is one long = (
  f.lines,
  f.taken_is,
  record {
    begun = begun ++ front;
    rest = behind;
    reaches = subst (Reaches takes most old new octets f.lines) (parts left begun front behind is) f.reaches;
    one_line = All-append (λ o. o ≢ 10) begun front f.begun_is.one_line one;
    long = let n = length-append begun front in omega (arith, n, long);
  },
)

-- no line feed is left
pub fed : {S : Type 0} (takes : S → Bool → List ℕ → S → Type 0) (most : ℕ) (old new : S) (octets left : List ℕ) (taken now : ℕ) (begun front next : List ℕ)
    → Feeding takes most old new octets left taken now begun → left ≡ begun ++ front → IsOneLine front → length front + length begun ≤ most → next ≡ begun ++ front
    → Feeds takes most old new octets taken now next
fed takes most old new octets left taken now begun front next f is one few next_is = record {
  lines = f.lines;
  taken_is = f.taken_is;
  reaches = subst (Reaches takes most old new octets f.lines) (is ∙ sym next_is) f.reaches;
  begun_is = subst (IsLine most) (sym next_is) (longer_line most begun front f.begun_is one few);
}

-- one more line was taken
pub fed_line : {S : Type 0} (takes : S → Bool → List ℕ → S → Type 0) (most : ℕ) (old new later : S) (octets left : List ℕ) (taken now : ℕ) (begun front behind line next : List ℕ)
    → Feeding takes most old new octets left taken now begun → left ≡ begun ++ (front ++ 10 ∷ behind) → IsOneLine front → length front + length begun ≤ most
    → line ≡ begun ++ front → takes new true line later → next ≡ []
    → Feeding takes most old later octets (next ++ behind) taken (now + 1) next
fed_line takes most old new later octets left taken now begun front behind line next f is one few line_is took next_is =
    let whole = subst (IsLine most) (sym line_is) (longer_line most begun front f.begun_is one few) in
    let at : left ≡ line ++ 10 ∷ behind = parts left begun front (10 ∷ behind) is ∙ ap (λ l. l ++ 10 ∷ behind) (sym line_is) in
    let n = f.taken_is in
    let size = length-append f.lines (line ∷ []) in
    record {
      lines = f.lines ++ line ∷ [];
      taken_is = omega (arith, n, size);
      reaches = subst (Reaches takes most old later octets (f.lines ++ line ∷ [])) (ap (λ l. l ++ behind) (sym next_is))
          (reaches_more takes most old new later octets left behind f.lines (line ∷ []) f.reaches
          (subst (λ l. Reaches takes most new later l (line ∷ []) behind) (sym at) (reaches_one takes most new later line behind whole took)));
      begun_is = subst (IsLine most) (sym next_is) (record { one_line = All-nil (λ o. o ≢ 10); short = omega arith });
    }

-- one more line was refused
pub declined : {S F : Type 0} (takes : S → Bool → List ℕ → S → Type 0) (refuses : S → Bool → List ℕ → F → S → Type 0) (most : ℕ) (old new later : S) (octets left : List ℕ) (taken now : ℕ) (begun front behind line : List ℕ) (fault : F)
    → Feeding takes most old new octets left taken now begun → left ≡ begun ++ (front ++ 10 ∷ behind) → IsOneLine front → length front + length begun ≤ most
    → line ≡ begun ++ front → refuses new true line fault later
    → (lines : List (List ℕ)) × (now ≡ taken + length lines)
    × ((declines : Declines takes refuses most old later octets lines fault) × (declines.has_line_feed ≡ true))
declined takes refuses most old new later octets left taken now begun front behind line fault f is one few line_is refused = (
  f.lines,
  f.taken_is,
  (
    record {
      line = line;
      has_line_feed = true;
      rest = behind;
      before_line = new;
      reaches = subst (Reaches takes most old new octets f.lines)
          (parts left begun front (10 ∷ behind) is ∙ ap (λ l. l ++ 10 ∷ behind) (sym line_is)) f.reaches;
      line_is = subst (IsLine most) (sym line_is) (longer_line most begun front f.begun_is one few);
      something = let n = length-append line (10 ∷ behind) in omega (arith, n);
      refused = refused;
    },
    refl,
  ),
)
