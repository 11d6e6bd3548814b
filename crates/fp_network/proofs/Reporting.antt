-- Each connection that a loop through all places closes is reported, in the order of the places.
use Rattle.std.proofs.Common.{◌≡◌, ◌≤◌, ◌<◌, ℕ, ◌+◌, zero, suc, Bool, true, false, List, Some, [], ◌∷◌, ◌++◌, append-nil, append_assoc, arith, inl, inr, length, refl, sym, subst, ap, ◌∙◌}
use Rattle.std.proofs.lemmas.Bool.{cases_Bool}
use Rattle.std.specs.List.{flat_map, range_with_len}
use Rattle.std.specs.Option.{option_map}
use Rattle.fp_network.specs.declared.connection.Connection.{Connection}
use Rattle.fp_network.specs.declared.event.Closing.{Closing}
use Rattle.fp_network.specs.declared.event.NetworkEvent.{NetworkEvent}
use Rattle.fp_network.specs.declared.event.NetworkEvent.TheVariants.{Gone}
use Rattle.fp_network.specs.declared.node.Node.{Node}
use Rattle.fp_network.specs.Changes.{closing}
use Rattle.fp_network.specs.Counting.{Notes, ReportsEach, gone_at, gone_below, gone_if, number_of}
use Rattle.fp_network.specs.Node.{LeavesOthers, connection_in, is_over_at, is_over_of}
use Rattle.fp_network.proofs.Changing.{Changing}
use Rattle.fp_network.proofs.News.{notes_none, notes_then}
use Rattle.fp_network.proofs.Tallied.{gone_is, gone_none}

-- one connection may be closed
pub notes_one : (why : Closing) (place : ℕ) (old new : Node) → connection_in new place ≡ option_map (closing why) (connection_in old place)
    → (is_over_at old place ≡ true → new.news ≡ old.news)
    → (is_over_at old place ≡ false → (number : ℕ) × (number_of (connection_in old place) ≡ Some number) × Notes (Gone number why ∷ []) old new)
    → Notes (gone_at old new place) old new
notes_one why place old new here silent reports = elim (cases_Bool (is_over_at old place)) [
  | inl over ↦ subst (λ (over : Bool). Notes (gone_if over (connection_in new place)) old new) (sym over) (notes_none old new (silent over))
  | inr lives ↦
      let report = reports lives in
      let is : gone_at old new place ≡ Gone report.0 why ∷ []
      = (λ i. gone_if (lives i) (here i)) ∙ gone_is why (connection_in old place) report.0 lives report.1 in
      subst (λ (events : List NetworkEvent). Notes events old new) (sym is) report.2
]

-- or none is
pub notes_kept : (place : ℕ) (node : Node) → Notes (gone_at node node place) node node
notes_kept place node =
    subst (λ (events : List NetworkEvent). Notes events node node) (sym (gone_none (is_over_at node place) (connection_in node place) refl))
    (notes_none node node refl)

-- the events of one more place follow those of the places before it
each_more : (f : ℕ → List NetworkEvent) (first count : ℕ)
    → flat_map f (range_with_len first (suc count)) ≡ flat_map f (range_with_len first count) ++ f (first + count)
each_more f first zero = append-nil (f first) ∙ ap f (let is : first ≡ first + 0 = omega arith in is)
each_more f first (suc count) =
    ap (λ events. f first ++ events) (each_more f (first + 1) count)
    ∙ sym (append_assoc (f first) (flat_map f (range_with_len (first + 1) count)) (f (first + 1 + count)))
    ∙ ap (λ (place : ℕ). (f first ++ flat_map f (range_with_len (first + 1) count)) ++ f place)
    (let is : first + 1 + count ≡ first + suc count = omega arith in is)

gone_more : (upto : ℕ) (old new : Node) → gone_below (suc upto) old new ≡ gone_below upto old new ++ gone_at old new upto
gone_more upto old new =
    each_more (gone_at old new) 0 upto
    ∙ ap (λ (place : ℕ). gone_below upto old new ++ gone_at old new place) (let is : 0 + upto ≡ upto = omega arith in is)

-- which connections are closed depends on the places alone
below_same : (upto : ℕ) (old mid new : Node) → ((place : ℕ) → place < upto → connection_in new place ≡ connection_in mid place)
    → gone_below upto old mid ≡ gone_below upto old new
below_same zero old mid new same = refl
below_same (suc upto) old mid new same =
    gone_more upto old mid
    ∙ (λ i.
    below_same upto old mid new (λ place below. same place (omega (arith, below))) i ++ gone_if (is_over_at old upto) (sym (same upto (omega arith)) i))
    ∙ sym (gone_more upto old new)

-- those in the places so far are reported
pub record Reported (upto : ℕ) (old new : Node) : Type 0 where
  pub most : upto ≤ length old.places.items
  pub notes : Notes (gone_below upto old new) old new

pub reported_none : (node : Node) → Reported 0 node node
reported_none node = record { most = omega arith; notes = notes_none node node refl }

pub reported_more : (change : Connection → Connection) (upto : ℕ) (old mid new : Node) → Reported upto old mid → Changing change upto old mid
    → upto < length old.places.items → LeavesOthers upto mid new → Notes (gone_at mid new upto) mid new → Reported (upto + 1) old new
reported_more change upto old mid new so changing below others notes = record {
  most = omega (arith, below);
  notes = subst (λ (events : List NetworkEvent). Notes events old new) is (notes_then _ _ old mid new so.notes notes);
}
  where
    next : suc upto ≡ upto + 1
    next = omega arith

    is : gone_below upto old mid ++ gone_at mid new upto ≡ gone_below (upto + 1) old new
    is = (λ i.
        below_same upto old mid new (λ place less. others place (λ same. absurd (omega (arith, same, less)))) i
        ++ gone_if (is_over_of (changing.left upto (omega arith) i)) (connection_in new upto))
        ∙ sym (gone_more upto old new) ∙ ap (λ (count : ℕ). gone_below count old new) next

pub reported_all : (upto : ℕ) (old new : Node) → length old.places.items ≤ upto → Reported upto old new → ReportsEach old new
reported_all upto old new past so =
    let most = so.most in
    let same : upto ≡ length old.places.items = omega (arith, past, most) in
    subst (λ (count : ℕ). Notes (gone_below count old new) old new) same so.notes
