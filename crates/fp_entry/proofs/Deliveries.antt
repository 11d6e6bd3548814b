-- The entries of the components so far, and of those that are left.
use Rattle.std.proofs.Common.{◌≡◌, ℕ, suc, ◌+◌, ◌<◌, true, false, List, [], ◌∷◌, ◌++◌, length, get_or, map, drop, refl, sym, ◌∙◌, ap, subst, append_assoc, append-nil, add-one, drop-cons}
use Rattle.fp_q773.specs.declared.component.Component.{Component}
use Rattle.fp_q773.specs.Value.{ComponentValue, is_faulty}
use Rattle.fp_q773.specs.View.{component_of}
use Rattle.fp_records.specs.Table.{Contents}
use Rattle.fp_entry.specs.declared.entry.Entry.{Entry}
use Rattle.fp_entry.specs.declared.entry.EntryKind.{EntryKind}
use Rattle.fp_entry.specs.Component.{IsKind}
use Rattle.fp_entry.specs.Delivered.{delivered}
use Rattle.fp_entry.specs.Entries.{AreGiven, Delivers, entry_at}

-- whatever the components that are left give, behind the entries so far stands all that is delivered
abbrev pub Continues : Contents → ℕ → List Component → ℕ → List Entry → List Entry → Type 0
Continues contents moment components index before so_far =
    (rest : List Entry) → AreGiven contents moment (delivered (map component_of (drop index components))) rest
    → Delivers contents moment (map component_of components) before (so_far ++ rest)

-- the components from this one on
from_here : (components : List Component) (index : ℕ) (component : Component) → index < length components → component ≡ get_or components index component
    → drop index components ≡ component ∷ drop (index + 1) components
from_here components index component within is =
    rw add-one (drop-cons components index component within ∙ ap (λ x. x ∷ drop (suc index) components) (sym is))

-- one more entry, of a component that isn't faulty
one_given : (contents : Contents) (moment : ℕ) (component : ComponentValue) (others : List ComponentValue) (kind : EntryKind) (rest : List Entry)
    → is_faulty component ≡ false → IsKind contents component kind → AreGiven contents moment (delivered others) rest
    → AreGiven contents moment (delivered (component ∷ others)) (entry_at moment kind ∷ rest)
one_given contents moment component others kind rest sound is given = rw sound (refl, is, given)

-- the last entry, of a faulty component
last_given : (contents : Contents) (moment : ℕ) (component : ComponentValue) (others : List ComponentValue) (kind : EntryKind)
    → is_faulty component ≡ true → IsKind contents component kind
    → AreGiven contents moment (delivered (component ∷ others)) (entry_at moment kind ∷ [])
last_given contents moment component others kind faulty is = rw faulty (refl, is, tt)

pub Continues-more : (contents : Contents) (moment : ℕ) (components : List Component) (index : ℕ) (component : Component) (kind : EntryKind) (before so_far : List Entry)
    → index < length components → component ≡ get_or components index component → is_faulty (component_of component) ≡ false
    → IsKind contents (component_of component) kind → Continues contents moment components index before so_far
    → Continues contents moment components (index + 1) before (so_far ++ entry_at moment kind ∷ [])
Continues-more contents moment components index component kind before so_far within is sound gives continues = λ rest given.
    let here = ap (map component_of) (from_here components index component within is) in
    let P : List ComponentValue → Type 0 = λ cs. AreGiven contents moment (delivered cs) (entry_at moment kind ∷ rest) in
    let all = subst P (sym here) (one_given contents moment (component_of component) (map component_of (drop (index + 1) components)) kind rest sound gives given) in
    rw append_assoc (continues (entry_at moment kind ∷ rest) all)

pub Delivers-faulty : (contents : Contents) (moment : ℕ) (components : List Component) (index : ℕ) (component : Component) (kind : EntryKind) (before so_far : List Entry)
    → index < length components → component ≡ get_or components index component → is_faulty (component_of component) ≡ true
    → IsKind contents (component_of component) kind → Continues contents moment components index before so_far
    → Delivers contents moment (map component_of components) before (so_far ++ entry_at moment kind ∷ [])
Delivers-faulty contents moment components index component kind before so_far within is faulty gives continues =
    let here = ap (map component_of) (from_here components index component within is) in
    let P : List ComponentValue → Type 0 = λ cs. AreGiven contents moment (delivered cs) (entry_at moment kind ∷ []) in
    let all = subst P (sym here) (last_given contents moment (component_of component) (map component_of (drop (index + 1) components)) kind faulty gives) in
    continues (entry_at moment kind ∷ []) all

pub Delivers-all : (contents : Contents) (moment : ℕ) (components : List Component) (index : ℕ) (before so_far : List Entry)
    → drop index components ≡ [] → Continues contents moment components index before so_far
    → Delivers contents moment (map component_of components) before so_far
Delivers-all contents moment components index before so_far none continues =
    let P : List Component → Type 0 = λ cs. AreGiven contents moment (delivered (map component_of cs)) [] in
    rw append-nil at (continues [] (subst P (sym none) tt))
