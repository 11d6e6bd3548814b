-- Octets in front of a place, and others in front of those.
use Rattle.std.proofs.Common.{◌≡◌, ℕ, ◌+◌, ◌-◌, ◌≤◌, true, List, ◌++◌, length, take, drop, length-append, length-take-le, append_assoc, refl, sym, ◌∙◌, ap, subst, arith}
use Rattle.std.proofs.lemmas.List.{drop-drop, take-append-le, take-take}
use Rattle.std.proofs.Math.Seq.{drop-append_seam}
use Rattle.fp_ber.specs.declared.element.Class.{Class}
use Rattle.fp_ber.specs.Tree.{Trees, constructed}
use Rattle.fp_ber.specs.Canon.{Puts, tag_octets, length_octets, canon, canon_of_all}

-- octets in front of a place, and then others in front of those, are both in front of that place
pub puts_both : (xs ys old mid new : List ℕ) (start middle end : ℕ) → Puts xs old mid middle end → Puts ys mid new start middle → end ≤ length old
    → Puts (ys ++ xs) old new start end
puts_both xs ys old mid new start middle end p q h =
    let front : take start mid ≡ take start old =
    ap (take start) p.whole ∙ (take-append-le start (take middle old) (xs ++ drop end old) (omega (arith, p.starts, q.starts, length-take-le middle old (omega (arith, p.starts))))
    ∙ take-take start middle old (omega (arith, q.starts))) in
    let place : length (take middle old) ≡ middle = length-take-le middle old (omega (arith, p.starts)) in
    let behind : drop middle mid ≡ xs ++ drop end old =
    ap (drop middle) p.whole ∙ (ap (λ (n : ℕ). drop n (take middle old ++ (xs ++ drop end old))) (sym place) ∙ drop-append_seam (take middle old) (xs ++ drop end old)) in
    record {
      starts = omega (arith, length-append ys xs, p.starts, q.starts);
      whole = rw (q.whole, front, behind, append_assoc ys xs (drop end old)) refl;
    }

-- elements in front of a place, and a tag and their length in front of them, are a constructed element
pub constructed_put : (class : Class) (number : ℕ) (ts : Trees) (old mid new : List ℕ) (start middle end : ℕ)
    → Puts (canon_of_all ts) old mid middle end → Puts (tag_octets class true number ++ length_octets (end - middle)) mid new start middle
    → end ≤ length old → Puts (canon (constructed class number ts)) old new start end
constructed_put class number ts old mid new start middle end p q h =
    let size : end - middle ≡ length (canon_of_all ts) = omega (arith, p.starts) in
    let P : ℕ → Type 0 = λ n. Puts (tag_octets class true number ++ length_octets n) mid new start middle in
    let Q : List ℕ → Type 0 = λ text. Puts text old new start end in
    subst Q (append_assoc (tag_octets class true number) (length_octets (length (canon_of_all ts))) (canon_of_all ts))
    (puts_both (canon_of_all ts) (tag_octets class true number ++ length_octets (length (canon_of_all ts))) old mid new start middle end p (subst P size q) h)

-- of octets at the end of room the last ones are the last ones of the room
pub kept_behind : (room front rest : List ℕ) (start : ℕ) → drop start room ≡ front ++ rest → drop (start + (length (front ++ rest) - length rest)) room ≡ rest
kept_behind room front rest start is =
    let place : length (front ++ rest) - length rest ≡ length front = omega (arith, length-append front rest) in
    rw place (sym (drop-drop (length front) start room) ∙ (ap (drop (length front)) is ∙ drop-append_seam front rest))
