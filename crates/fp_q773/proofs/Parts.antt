-- The parts of a message from those of its elements.
use Rattle.std.proofs.Common.{◌≡◌, false, ℕ, zero, suc, List, [], ◌∷◌, ◌++◌, length, ◌<◌, ◌≤◌, get_or, map, Option, Some, None, IfSome, IfNone, inl, inr, refl, sym, ◌∙◌, ap, subst, append_assoc, arith}
use Rattle.fp_ber.specs.declared.element_ref.ElementRef.{ElementRef}
use Rattle.fp_ber.specs.Tree.{Tree, Trees, none, more, are_none}
use Rattle.fp_ber.specs.Lent.{lent_tree}
use Rattle.fp_q773.specs.declared.component.Component.{Component}
use Rattle.fp_q773.specs.Copied.{ComponentHasTags, ComponentsHaveTags}
use Rattle.fp_q773.specs.Room.{component_room, components_room}
use Rattle.fp_q773.specs.Value.{ComponentValue}
use Rattle.fp_q773.specs.View.{component_of}
use Rattle.fp_q773.specs.Writable.{IsWritable, AllWritable}
use Rattle.fp_q773.specs.Grammar.{AreComponents, IsPortion, IsDialogue, ArePortions}
use Rattle.fp_q773.specs.declared.fault.MessageFault.{MessageFault}
use Rattle.fp_q773.specs.Fault.{Refused}
use Rattle.fp_q773.proofs.Faults.{refused_by}
use Rattle.fp_q773.proofs.Forests.{some_trees}

-- what one more component says
pub values-behind : (components : List Component) (c : Component) → map component_of (components ++ c ∷ []) ≡ map component_of components ++ component_of c ∷ []
values-behind [] c = refl
values-behind (first ∷ components) c = ap (λ (vs : List ComponentValue). component_of first ∷ vs) (values-behind components c)

-- where the others are components, so are all, with those so far and one
pub one_more_component : (ts : Trees) (so_far : List Component) (c : Component) (rest : List ComponentValue)
    → AreComponents ts (map component_of so_far ++ component_of c ∷ rest) → AreComponents ts (map component_of (so_far ++ c ∷ []) ++ rest)
one_more_component ts so_far c rest all =
    subst (λ values. AreComponents ts values)
    (sym (append_assoc (map component_of so_far) (component_of c ∷ []) rest) ∙ ap (λ values. values ++ rest) (sym (values-behind so_far c))) all

-- the component at a place can be written
pub writable_at : (components : List Component) (i : ℕ) (c : Component) → i < length components → AllWritable (map component_of components)
    → IsWritable (component_of (get_or components i c))
writable_at [] i c h all = absurd (omega arith)
writable_at (first ∷ components) zero c h all = all.0
writable_at (first ∷ components) (suc i) c h all = writable_at components i c (omega arith) all.1

-- what is copied into it has tags that elements may have
pub tags_at : (components : List Component) (i : ℕ) (c : Component) → i < length components → ComponentsHaveTags (map component_of components)
    → ComponentHasTags (component_of (get_or components i c))
tags_at [] i c h all = absurd (omega arith)
tags_at (first ∷ components) zero c h all = all.0
tags_at (first ∷ components) (suc i) c h all = tags_at components i c (omega arith) all.1

-- and its room is part of that of all
pub room_at : (components : List Component) (i : ℕ) (c : Component) → i < length components
    → component_room (component_of (get_or components i c)) ≤ components_room (map component_of components)
room_at [] i c h = absurd (omega arith)
room_at (first ∷ components) zero c h = omega arith
room_at (first ∷ components) (suc i) c h =
    let less = room_at components i c (omega arith) in omega arith

-- two elements are no component portion
pub two_are_no_portion : (ts : Trees) (a : Tree) (others : Trees) → ts ≡ more a others → are_none others ≡ false → (values : List ComponentValue)
    → IsPortion ts values → ⊥
two_are_no_portion ts a others is some values (inl h) =
    let empty = h.0 in cc
two_are_no_portion ts a others is some values (inr h) =
    let whole = h.1 in
    let empty : others ≡ none = cc in some_trees others some empty

-- a component portion is no dialogue portion
pub portion_no_dialogue : (before after : Trees) (d : Tree) → before ≡ more d after → IsDialogue d → (values : List ComponentValue) → IsPortion before values → ⊥
portion_no_dialogue before after d is dialogue values (inl h) =
    let empty = h.0 in cc
portion_no_dialogue before after d is dialogue values (inr h) =
    let whole = h.1 in
    let tag = dialogue.1 in cc

-- what stands behind a dialogue portion, if one was taken off, is a component portion, or none
pub portion_behind : (taken : Option ElementRef) (before after : Trees)
    → IfSome taken (λ dialogue. (before ≡ more (lent_tree dialogue) after) × IsDialogue (lent_tree dialogue))
    → IfNone taken ((after ≡ before) × ((first : Tree) (rest : Trees) → before ≡ more first rest → IsDialogue first → ⊥))
    → (dialogue : Option Tree) (values : List ComponentValue) → ArePortions before dialogue values → IsPortion after values
portion_behind None before after s n None values h = subst (λ ts. IsPortion ts values) (sym n.0) h
portion_behind None before after s n (Some dialogue) values h = absurd (n.1 dialogue h.0 h.1 h.2)
portion_behind (Some taken) before after s n None values h = absurd (portion_no_dialogue before after (lent_tree taken) s.0 s.1 values h)
portion_behind (Some taken) before after s n (Some dialogue) values h =
    let same : h.0 ≡ after = cc (s.0, h.1) in subst (λ ts. IsPortion ts values) same h.3

-- where no component portion stands behind it, no portions stand there
pub no_portions : (fault : MessageFault) (taken : Option ElementRef) (before after : Trees)
    → IfSome taken (λ dialogue. (before ≡ more (lent_tree dialogue) after) × IsDialogue (lent_tree dialogue))
    → IfNone taken ((after ≡ before) × ((first : Tree) (rest : Trees) → before ≡ more first rest → IsDialogue first → ⊥))
    → Refused fault ((values : List ComponentValue) → IsPortion after values → ⊥)
    → Refused fault ((dialogue : Option Tree) (values : List ComponentValue) → ArePortions before dialogue values → ⊥)
no_portions fault taken before after s n h =
    refused_by fault ((values : List ComponentValue) → IsPortion after values → ⊥)
    ((dialogue : Option Tree) (values : List ComponentValue) → ArePortions before dialogue values → ⊥)
    (λ isnt dialogue values k. isnt values (portion_behind taken before after s n dialogue values k)) h
