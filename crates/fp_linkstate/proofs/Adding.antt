-- Messages that come after others.
use Rattle.std.proofs.Common.{List, [], ◌∷◌, ◌++◌, sym, ◌∙◌, ap, append_assoc, append-nil}
use Rattle.std.proofs.lemmas.List.Elements.{All-append, All-cons, All-nil}
use Rattle.fp_entry.specs.declared.prepared.Prepared.{Prepared}
use Rattle.fp_linkstate.specs.Arrivals.{Adds}

-- none comes
pub adds_none : (Is : Prepared → Type 0) (old : List Prepared) → Adds Is old old
adds_none Is old = record { added = []; after_old = sym (append-nil old); each = All-nil Is }

-- one more comes
pub adds_one : (Is : Prepared → Type 0) (old new : List Prepared) (message : Prepared) → Adds Is old new → Is message
    → Adds Is old (new ++ message ∷ [])
adds_one Is old new message a is = record {
  added = a.added ++ message ∷ [];
  after_old = ap (λ (l : List Prepared). l ++ message ∷ []) a.after_old ∙ append_assoc old a.added (message ∷ []);
  each = All-append Is a.added (message ∷ []) a.each (All-cons Is message [] is (All-nil Is));
}
