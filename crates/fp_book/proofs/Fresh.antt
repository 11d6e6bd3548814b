-- A book on which nothing came yet keeps what a book keeps.
use Rattle.fp_book.proofs.Names.{AllAreSerials, IsKept, None, Option, Row, Some, Sound, [], accepted_by, all_entries, all_serials, ap, arith, deadline_at, empty_shelf, false, kept_of, last_tag, length, nat_cmp, no_totals, nothing, of_row, ready_count, refl, sent_by, sent_of, served_by, subst, sum_of, sym, turns_of, ℕ, ◌++◌, ◌<◌, ◌∙◌, ◌≡◌, ◌≤◌}
use Rattle.std.specs.FinMap as map
use Rattle.fp_book.proofs.Changes.{admitted, ready}
use Rattle.fp_book.proofs.Kept.{leaves}
use Rattle.fp_book.proofs.Sums.{sum-none}

-- no dialogue is there
no_row : (q : ℕ) → map.get {X = Row} (map.empty {R = nat_cmp}) q ≡ None
no_row q = map.get-empty nat_cmp q

pub sum-empty : (f : Row → ℕ) → sum_of f map.empty ≡ 0
sum-empty f = sum-none f map.empty no_row

no_own : (o : Option Row) (row : Row) → o ≡ None → o ≡ Some row → ⊥
no_own o row none some = let clash : None ≡ Some row = sym none ∙ some in cc

pub Sound-empty : AllAreSerials → (link tag : ℕ) → link < 8 → tag ≤ last_tag → Sound (empty_shelf link tag)
Sound-empty law link tag lt most = record {
  links = lt;
  tags = most;
  serials = law.0;
  serial_count = λ _. omega (arith, law.1, map.len-empty nat_cmp Row);
  births = omega arith;
  births_apart = λ local other row held was there same. absurd (no_own (map.get map.empty local) row (no_row local) was);
  entries = omega (arith, sum-empty admitted);
  own = λ local row was. absurd (no_own (map.get map.empty local) row (no_row local) was);
  held = omega (arith, map.len-empty nat_cmp Row);
  frames = λ local. ap (λ o. of_row sent_of o ++ []) (no_row local) ∙ sym (ap (of_row kept_of) (no_row local));
  ready = λ local. sym (ap ready_count (no_row local));
  ready_length = sym (sum-empty ready);
  places = omega (arith, sum-empty turns_of);
  aborts = omega arith;
  quiet = λ e. (refl, refl);
  accepted = omega (arith, sum-empty accepted_by);
  served = omega (arith, sum-empty served_by);
  sent = omega (arith, sum-empty sent_by);
  all_entries = omega (arith, sum-empty (λ row. length row.accepted));
  few_accepted = omega arith;
  gone_sent = omega arith;
}

-- a book whose parts are empty is such a one
pub kept-empty : AllAreSerials → (link tag : ℕ) → link < 8 → tag ≤ last_tag → IsKept (record {
  link = link;
  tag = tag;
  ids = record { link = link; tag = tag; queue = all_serials };
  births = 0;
  entries = 0;
  rows = map.empty;
  deadlines = map.empty;
  ready = [];
  outbox = nothing;
  turns = 0;
  totals = no_totals;
  log = [];
  is_down = false;
})
kept-empty law link tag lt most =
    (leaves _ no_totals (λ s. s ≡ empty_shelf link tag) (λ s e. subst Sound (sym e) (Sound-empty law link tag lt most)) refl refl (sym (sum-empty turns_of))
    (λ local. map.get-empty nat_cmp local ∙ sym (ap deadline_at (no_row local)))).kept
