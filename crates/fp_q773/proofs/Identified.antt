-- Octets that spell a message tell its kind and its transaction identifiers.
use Rattle.std.proofs.Common.{◌≡◌, ℕ, ◌+◌, ◌<◌, ◌%◌, Bool, true, false, List, [], ◌∷◌, ◌++◌, length, Option, Some, None, inl, inr, refl, sym, ◌∙◌, ap, subst, append_assoc, append-nil, arith}
use Rattle.fp_ber.specs.declared.element.Class.{Class}
use Rattle.fp_ber.specs.declared.element.Class.TheVariants.{Application}
use Rattle.fp_ber.specs.Tree.{Tree, Trees, primitive, constructed, more}
use Rattle.fp_ber.specs.Spelling.{IsTag, first_octet, Spells, SpellsAll}
use Rattle.fp_q773.specs.declared.kind.Kind.{Kind}
use Rattle.fp_q773.specs.declared.kind.Kind.TheVariants.{Unidirectional, Begin, End, Continue, Abort}
use Rattle.fp_q773.specs.Tid.{IsTid}
use Rattle.fp_q773.specs.Value.{unidirectional, begin, end, continuing, abort}
use Rattle.fp_q773.specs.Ids.{Stands, PassesLength, AreIdsIn, AreIds, kind_of}
use Rattle.fp_q773.specs.Laws.{IdentifiersAreThoseOfTheMessage}
use Rattle.fp_q773.proofs.Spellings.{ids_by}

-- a number below 31 has a tag of one octet
tag_one : (text : List ℕ) (class : Class) (form : Bool) (number : ℕ) → IsTag text class form number → number < 31 → text ≡ first_octet class form number ∷ []
tag_one [] class form number h low = absurd h
tag_one (a ∷ []) class form number h low = ap (λ (x : ℕ). x ∷ []) h.0
tag_one (a ∷ b ∷ []) class form number h low = absurd (omega arith)
tag_one (a ∷ b ∷ c ∷ []) class form number h low = absurd (omega arith)
tag_one (a ∷ b ∷ c ∷ d ∷ others) class form number h low = absurd h

-- the parts of octets, and those behind them
parts : (contents first rest tag body size identifier behind : List ℕ) (octet : ℕ) → contents ≡ first ++ rest → first ≡ tag ++ body → tag ≡ octet ∷ []
    → body ≡ size ++ identifier → contents ++ behind ≡ octet ∷ (size ++ (identifier ++ (rest ++ behind)))
parts contents first rest tag body size identifier behind octet a b c d = rw (a, b, c, d) (simp append_assoc)

-- an identifier that stands first, and what stands behind it
record First (octets behind identifier : List ℕ) (number : ℕ) (ts : Trees) : Type 0 where
  rest : List ℕ
  others : SpellsAll rest ts
  stands : Stands (64 + number) (octets ++ behind) identifier (rest ++ behind)

first_of : (octets behind identifier : List ℕ) (number : ℕ) (ts us : Trees) → us ≡ more (primitive Application number identifier) ts → SpellsAll octets us
    → number < 31 → IsTid identifier → First octets behind identifier number ts
first_of octets behind identifier number ts us is h low tid =
    let k = subst (λ z. SpellsAll octets z) is h in
    let spelled = k.3 in
    let definite = spelled.4 in
    let one : spelled.0 ≡ (64 + number) ∷ [] = tag_one spelled.0 Application false number spelled.3 low in record {
      rest = k.1;
      others = k.4;
      stands = (
        definite.size ++ (identifier ++ (k.1 ++ behind)),
        parts octets k.0 k.1 spelled.0 spelled.1 definite.size identifier behind (64 + number) k.2 spelled.2 one definite.whole,
        record { text = definite.size; is_length = definite.is_length; whole = refl },
        tid,
      );
    }

-- the contents of a message, and the end of them, if their length is indefinite
record Opened (octets : List ℕ) (number : ℕ) (ts : Trees) : Type 0 where
  body : List ℕ
  contents : List ℕ
  behind : List ℕ
  whole : octets ≡ (96 + number) ∷ body
  spelled : SpellsAll contents ts
  passes : PassesLength body (contents ++ behind)

opened_by : (octets : List ℕ) (number : ℕ) (ts : Trees) → Spells octets (constructed Application number ts) → number < 31 → Opened octets number ts
opened_by octets number ts (tag, body, contents, whole, is_tag, spelled, inl definite) low = record {
  body = body;
  contents = contents;
  behind = [];
  whole = whole ∙ ap (λ (z : List ℕ). z ++ body) (tag_one tag Application true number is_tag low);
  spelled = spelled;
  passes = inl (
    length contents,
    record {
      text = definite.size;
      is_length = definite.is_length;
      whole = definite.whole ∙ ap (λ (z : List ℕ). definite.size ++ z) (sym (append-nil contents));
    },
  );
}
opened_by octets number ts (tag, body, contents, whole, is_tag, spelled, inr indefinite) low = record {
  body = body;
  contents = contents;
  behind = 0 ∷ 0 ∷ [];
  whole = whole ∙ ap (λ (z : List ℕ). z ++ body) (tag_one tag Application true number is_tag low);
  spelled = spelled;
  passes = inr indefinite;
}

opened : (octets : List ℕ) (number : ℕ) (t : Tree) (ts : Trees) → Spells octets t → t ≡ constructed Application number ts → number < 31 → Opened octets number ts
opened octets number t ts h is low = opened_by octets number ts (subst (λ z. Spells octets z) is h) low

-- what is known of octets by the contents behind their length
known : (octets body contents : List ℕ) (first : ℕ) (kind : Kind) (originating destination : Option (List ℕ)) → octets ≡ first ∷ body → kind ≡ kind_of first
    → first % 32 < 31 → PassesLength body contents → AreIdsIn kind contents originating destination → AreIds octets kind originating destination
known octets body contents first kind originating destination whole is low passes found =
    ids_by octets body first kind originating destination whole (is, inl (contents, low, passes, found))

pub identified : IdentifiersAreThoseOfTheMessage
identified octets t unidirectional h is =
    let o = opened octets 1 t is.0 h is.1 (omega arith) in
    known octets o.body (o.contents ++ o.behind) 0x61 Unidirectional None None o.whole refl (omega arith) o.passes (refl, refl)
identified octets t (begin originating dialogue components) h is =
    let o = opened octets 2 t is.0 h is.1 (omega arith) in
    let at = is.2.1 in
    let one = first_of o.contents o.behind originating 8 is.2.0 is.0 at.0 o.spelled (omega arith) at.1 in
    known octets o.body (o.contents ++ o.behind) 0x62 Begin (Some originating) None o.whole refl (omega arith) o.passes ((one.rest ++ o.behind, one.stands), refl)
identified octets t (end destination dialogue components) h is =
    let o = opened octets 4 t is.0 h is.1 (omega arith) in
    let at = is.2.1 in
    let one = first_of o.contents o.behind destination 9 is.2.0 is.0 at.0 o.spelled (omega arith) at.1 in
    known octets o.body (o.contents ++ o.behind) 0x64 End None (Some destination) o.whole refl (omega arith) o.passes (refl, (one.rest ++ o.behind, one.stands))
identified octets t (continuing originating destination dialogue components) h is =
    let o = opened octets 5 t is.0 h is.1 (omega arith) in
    let at = is.2.1 in
    let behind = is.2.2 in
    let one = first_of o.contents o.behind originating 8 is.2.0 is.0 at.0 o.spelled (omega arith) at.1 in
    let two = first_of one.rest o.behind destination 9 behind.0 is.2.0 behind.1.0 one.others (omega arith) behind.1.1 in
    known octets o.body (o.contents ++ o.behind) 0x65 Continue (Some originating) (Some destination) o.whole refl (omega arith) o.passes
    (one.rest ++ o.behind, one.stands, (two.rest ++ o.behind, two.stands))
identified octets t (abort destination reason) h is =
    let o = opened octets 7 t is.0 h is.1 (omega arith) in
    let at = is.2.1 in
    let one = first_of o.contents o.behind destination 9 is.2.0 is.0 at.0 o.spelled (omega arith) at.1 in
    known octets o.body (o.contents ++ o.behind) 0x67 Abort None (Some destination) o.whole refl (omega arith) o.passes (refl, (one.rest ++ o.behind, one.stands))
