-- A list of names, cut at its commas.
use Rattle.std.proofs.Common.{◌≡◌, ℕ, ◌+◌, ◌<◌, ◌≤◌, ◌==◌, true, false, List, [], ◌∷◌, ◌++◌, length, map, take, get_or, Bor, inl, inr, refl, sym, ◌∙◌, ap, arith}
use Rattle.std.specs.Prelude.{All, IfOk, MatchOption, Ok, Option, Some, None, Result, Err, option_map}
use Rattle.std.specs.List.{AllZip, join_with_byte, slice_split}
use Rattle.std.proofs.lemmas.Bool.{cases_eq}
use Rattle.std.proofs.lemmas.List.{length-map, get_or-map}
use Rattle.std.proofs.lemmas.List.Elements.{AllZip-get_or, All-weaker, all_zip_more, length_all_zip}
use Rattle.std.proofs.lemmas.List.Splits.{join_with_byte-slice_split, length-slice_split, slice_split_at, slice_split_none}
use Rattle.hex.specs.Hex.{is_hex_digit}
use Rattle.hex.proofs.HexLemmas.{decode_of-ok}
use Rattle.scp.specs.Contexts.{FindsContexts, IsContexts, IsNameText}

-- a digit is no comma
not_comma : (c : ℕ) → is_hex_digit c ≡ true → (c == 44) ≡ false
not_comma c h = elim (cases_eq c 44) [
  | inl is ↦ let e : is_hex_digit 44 ≡ true = rw is at h in cc
  | inr apart ↦ grind arith
]

-- the text of a name has no comma
no_comma : (text name : List ℕ) → IsNameText text name → All (λ c. (c == 44) ≡ false) text
no_comma text name h =
    All-weaker (λ c. is_hex_digit c ≡ true) (λ c. (c == 44) ≡ false) not_comma text (decode_of-ok text name h.0).1

-- texts of names, joined by commas and cut at commas
cut_joined : (texts names : List (List ℕ)) → AllZip IsNameText texts names → 1 ≤ length names
    → slice_split (λ c. c == 44) (join_with_byte 44 texts) ≡ texts
cut_joined [] [] h least = absurd (omega arith)
cut_joined [] (name ∷ names) h least = absurd h
cut_joined (text ∷ texts) [] h least = absurd h
cut_joined (text ∷ []) (name ∷ names) h least = slice_split_none (λ c. c == 44) text (no_comma text name h.0)
cut_joined (text ∷ next ∷ texts) (name ∷ []) h least = absurd h.1
cut_joined (text ∷ next ∷ texts) (name ∷ second ∷ names) h least =
    slice_split_at (λ c. c == 44) text 44 (join_with_byte 44 (next ∷ texts)) (no_comma text name h.0) refl
    ∙ ap (λ l. text ∷ l) (cut_joined (next ∷ texts) (second ∷ names) h.1 (omega arith))

-- what stands between the commas of a list are the texts of its names
pub pieces_are : (text : List ℕ) (names : List (List ℕ)) → (h : IsContexts text names)
    → slice_split (λ c. c == 44) text ≡ h.texts
pieces_are text names h = ap (slice_split (λ c. c == 44)) h.joined ∙ cut_joined h.texts names h.each h.least

-- the pieces of a list are texts of its names, as many
pub all_pieces : (text : List ℕ) (names : List (List ℕ)) → IsContexts text names
    → AllZip IsNameText (slice_split (λ c. c == 44) text) names
all_pieces text names h = rw (pieces_are text names h) h.each

pub few_pieces : (text : List ℕ) (names : List (List ℕ)) → IsContexts text names
    → length (slice_split (λ c. c == 44) text) ≤ 16
few_pieces text names h =
    let same = length_all_zip IsNameText (slice_split (λ c. c == 44) text) names (all_pieces text names h) in
    let most = h.most in
    omega (arith, same, most)

-- pieces that are texts of names make a list of them
pub from_pieces : (text : List ℕ) (names : List (List ℕ)) → AllZip IsNameText (slice_split (λ c. c == 44) text) names
    → length (slice_split (λ c. c == 44) text) ≤ 16 → IsContexts text names
from_pieces text names each few =
    let same = length_all_zip IsNameText (slice_split (λ c. c == 44) text) names each in
    let count = length-slice_split (λ c. c == 44) text in
    record {
      texts = slice_split (λ c. c == 44) text;
      joined = sym (join_with_byte-slice_split 44 text);
      each = each;
      least = omega (arith, same, count);
      most = omega (arith, same, few);
    }

-- one of the texts is that of no name
pub none_at : (texts : List (Bor (List ℕ))) (i : ℕ) (d : Bor (List ℕ)) → i < length texts
    → ((name : List ℕ) → IsNameText (get_or texts i d).now name → ⊥)
    → (names : List (List ℕ)) → AllZip IsNameText (map (λ text. text.now) texts) names → ⊥
none_at texts i d within none names each =
    let same = length-map texts (λ (text : Bor (List ℕ)). text.now) in
    let text = get_or-map (λ (text : Bor (List ℕ)). text.now) texts i d [] within in
    let found = AllZip-get_or IsNameText (map (λ text. text.now) texts) names i [] [] each (omega (arith, same)) in
    none (get_or names i []) (rw text at found)

-- the next text is that of a name
pub one_more : (texts : List (Bor (List ℕ))) (names : List (List ℕ)) (i : ℕ) (d : Bor (List ℕ)) (name : List ℕ)
    → i < length texts → AllZip IsNameText (take i (map (λ text. text.now) texts)) names → IsNameText (get_or texts i d).now name
    → AllZip IsNameText (take (i + 1) (map (λ text. text.now) texts)) (names ++ name ∷ [])
one_more texts names i d name within each next =
    let same = length-map texts (λ (text : Bor (List ℕ)). text.now) in
    let text = get_or-map (λ (text : Bor (List ℕ)). text.now) texts i d (get_or texts i d).now within in
    all_zip_more IsNameText (map (λ text. text.now) texts) names i (get_or texts i d).now name (omega (arith, same)) (sym text) each next

-- what was found among the pieces is what the list has
pub finds : {V : Type 0} (names : Option V) (items : V → List (List ℕ)) (text : List ℕ) (pieces : List (List ℕ))
    → pieces ≡ slice_split (λ c. c == 44) text → length pieces ≤ 16
    → MatchOption names ((list : List (List ℕ)) → AllZip IsNameText pieces list → ⊥)
    (λ v. AllZip IsNameText pieces (items v))
    → FindsContexts text (option_map items names)
finds (Some v) items text pieces is few h = from_pieces text (items v) (rw is at h) (rw is at few)
finds None items text pieces is few h = λ names list. h names (rw is (all_pieces text names list))

-- a fact that follows
pub ok_weaker : {A E : Type 0} (r : Result A E) (P Q : A → Type 0) → ((x : A) → P x → Q x) → IfOk r P → IfOk r Q
ok_weaker (Ok x) P Q step h = step x h
ok_weaker (Err e) P Q step h = tt
