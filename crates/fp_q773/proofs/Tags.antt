-- The tags in messages are tags that elements may have.
use Rattle.std.proofs.Common.{◌≡◌, ℕ, ℤ, List, [], ◌∷◌, Option, Some, None, inl, inr, refl, arith}
use Rattle.fp_ber.specs.declared.element.Class.TheVariants.{Universal, Application}
use Rattle.fp_ber.specs.Tree.{Tree, Trees, primitive, constructed, none, more, HasTags, AllHaveTags}
use Rattle.fp_q773.specs.Value.{CodeValue, ProblemValue, ResultValue, ComponentValue, ReasonValue, MessageValue, local, global, tagged, returned, invoke, return_result_last, return_error, reject, return_result_not_last, faulty, provider, user, unidirectional, begin, end, continuing, abort}
use Rattle.fp_q773.specs.Copied.{CopyHasTags, ResultHasTags, ComponentHasTags, ComponentsHaveTags, ReasonHasTags, CopiesHaveTags}
use Rattle.fp_q773.specs.Laws.{WrittenHasTags}
use Rattle.fp_q773.specs.Writable.{IsWritable, AllWritable, IsWritableMessage}
use Rattle.fp_q773.specs.Written.{written}
use Rattle.fp_q773.specs.Grammar.{IsIdentifier, IsLinked, IsCode, IsParameter, IsCoded, IsAsked, IsReturned, IsRejected, IsProblem, IsComponent, AreComponents, IsPortion, ArePortions, IsReason, IsEnd, IsMessage}

-- the first element and those behind it
more_tags : (ts : Trees) (t : Tree) (rest : Trees) → ts ≡ more t rest → HasTags t → AllHaveTags rest → AllHaveTags ts
more_tags ts t rest is first others = rw is (first, others)

identifier_tags : (t : Tree) (identifier : ℤ) → IsIdentifier t identifier → HasTags t
identifier_tags t identifier h = rw h.1 (omega arith, omega arith)

linked_tags : (t : Tree) (identifier : ℤ) → IsLinked t identifier → HasTags t
linked_tags t identifier h = rw h.1 (omega arith, omega arith)

code_tags : (t : Tree) (code : CodeValue) → IsCode t code → HasTags t
code_tags t (local number) h = rw h.1 (omega arith, omega arith)
code_tags t (global octets) h = rw h (omega arith, omega arith)

parameter_tags : (ts : Trees) (parameter : Option Tree) → IsParameter ts parameter → CopyHasTags parameter → AllHaveTags ts
parameter_tags ts None h w = rw h tt
parameter_tags ts (Some t) h w = more_tags ts t none h w tt

coded_tags : (ts : Trees) (code : CodeValue) (parameter : Option Tree) → IsCoded ts code parameter → CopyHasTags parameter → AllHaveTags ts
coded_tags ts code parameter h w = more_tags ts h.0 h.1 h.2 (code_tags h.0 code h.3) (parameter_tags h.1 parameter h.4 w)

asked_tags : (ts : Trees) (linked : Option ℤ) (code : CodeValue) (parameter : Option Tree) → IsAsked ts linked code parameter
    → CopyHasTags parameter → AllHaveTags ts
asked_tags ts None code parameter h w = coded_tags ts code parameter h w
asked_tags ts (Some linked) code parameter h w = more_tags ts h.0 h.1 h.2 (linked_tags h.0 linked h.3) (coded_tags h.1 code parameter h.4 w)

returned_tags : (ts : Trees) (result : Option ResultValue) → IsReturned ts result → ResultHasTags result → AllHaveTags ts
returned_tags ts None h w = rw h tt
returned_tags ts (Some (returned code parameter)) h w =
    more_tags ts (constructed Universal 16 h.0) none h.1 ((omega arith, omega arith), coded_tags h.0 code parameter h.2 w) tt

rejected_tags : (t : Tree) (identifier : Option ℤ) → IsRejected t identifier → HasTags t
rejected_tags t None h = rw h (omega arith, omega arith)
rejected_tags t (Some identifier) h = identifier_tags t identifier h

problem_tags : (t : Tree) (problem : ProblemValue) → IsProblem t problem → HasTags t
problem_tags t (tagged group code) h =
    let group_is = h.1 in rw h.0 (omega arith, omega arith)

component_tags : (t : Tree) (value : ComponentValue) → IsComponent t value → IsWritable value → ComponentHasTags value → HasTags t
component_tags t (invoke identifier linked code parameter) h sound w =
    let it = h.2 in
    rw h.1 ((omega arith, omega arith), more_tags h.0 it.0 it.1 it.2 (identifier_tags it.0 identifier it.3) (asked_tags it.1 linked code parameter it.4 w))
component_tags t (return_result_last identifier result) h sound w =
    let it = h.2 in
    rw h.1 ((omega arith, omega arith), more_tags h.0 it.0 it.1 it.2 (identifier_tags it.0 identifier it.3) (returned_tags it.1 result it.4 w))
component_tags t (return_error identifier code parameter) h sound w =
    let it = h.2 in
    rw h.1 ((omega arith, omega arith), more_tags h.0 it.0 it.1 it.2 (identifier_tags it.0 identifier it.3) (coded_tags it.1 code parameter it.4 w))
component_tags t (reject identifier problem) h sound w =
    let it = h.2 in
    rw h.1 ((omega arith, omega arith), more_tags h.0 it.0 (more it.1 none) it.2 (rejected_tags it.0 identifier it.3) (problem_tags it.1 problem it.4, tt))
component_tags t (return_result_not_last identifier result) h sound w =
    let it = h.2 in
    rw h.1 ((omega arith, omega arith), more_tags h.0 it.0 it.1 it.2 (identifier_tags it.0 identifier it.3) (returned_tags it.1 result it.4 w))
component_tags t (faulty identifier problem) h sound w = absurd sound

components_tags : (ts : Trees) (values : List ComponentValue) → AreComponents ts values → AllWritable values → ComponentsHaveTags values → AllHaveTags ts
components_tags none [] h sound w = tt
components_tags none (v ∷ vs) h sound w = absurd h
components_tags (more t ts) [] h sound w = absurd h
components_tags (more t ts) (v ∷ vs) h sound w = (component_tags t v h.0 sound.0 w.0, components_tags ts vs h.1 sound.1 w.1)

portion_tags : (ts : Trees) (values : List ComponentValue) → IsPortion ts values → AllWritable values → ComponentsHaveTags values → AllHaveTags ts
portion_tags ts values (inl h) sound w = rw h.0 tt
portion_tags ts values (inr h) sound w =
    more_tags ts (constructed Application 12 h.0) none h.1 ((omega arith, omega arith), components_tags h.0 values h.2 sound w) tt

portions_tags : (ts : Trees) (dialogue : Option Tree) (values : List ComponentValue) → ArePortions ts dialogue values → CopyHasTags dialogue
    → AllWritable values → ComponentsHaveTags values → AllHaveTags ts
portions_tags ts None values h d sound w = portion_tags ts values h sound w
portions_tags ts (Some dialogue) values h d sound w = more_tags ts dialogue h.0 h.1 d (portion_tags h.0 values h.3 sound w)

end_tags : (ts : Trees) (destination : List ℕ) (dialogue : Option Tree) (values : List ComponentValue) → IsEnd ts destination dialogue values
    → CopyHasTags dialogue → AllWritable values → ComponentsHaveTags values → AllHaveTags ts
end_tags ts destination dialogue values h d sound w =
    more_tags ts (primitive Application 9 destination) h.0 h.1.0 (omega arith, omega arith) (portions_tags h.0 dialogue values h.2 d sound w)

reason_tags : (ts : Trees) (reason : Option ReasonValue) → IsReason ts reason → ReasonHasTags reason → AllHaveTags ts
reason_tags ts None h w = rw h tt
reason_tags ts (Some (provider cause)) h w = rw h ((omega arith, omega arith), tt)
reason_tags ts (Some (user dialogue)) h w = more_tags ts dialogue none h.0 w tt

-- what is written for a message has tags that elements may have, if what is copied into it has
message_tags : (t : Tree) (value : MessageValue) → t ≡ written value → IsWritableMessage value → IsMessage t value → CopiesHaveTags value → HasTags t
message_tags t unidirectional is sound h w = rw is ((omega arith, omega arith), tt)
message_tags t (begin originating dialogue values) is sound h w =
    let it = h.2 in
    rw h.1 ((omega arith, omega arith), more_tags h.0 (primitive Application 8 originating) it.0 it.1.0 (omega arith, omega arith) (portions_tags it.0 dialogue values it.2 w.0 sound.1 w.1))
message_tags t (end destination dialogue values) is sound h w = rw h.1 ((omega arith, omega arith), end_tags h.0 destination dialogue values h.2 w.0 sound.1 w.1)
message_tags t (continuing originating destination dialogue values) is sound h w =
    let it = h.2 in
    rw h.1 ((omega arith, omega arith), more_tags h.0 (primitive Application 8 originating) it.0 it.1.0 (omega arith, omega arith) (end_tags it.0 destination dialogue values it.2 w.0 sound.1 w.1))
message_tags t (abort destination reason) is sound h w =
    let it = h.2 in
    rw h.1 ((omega arith, omega arith), more_tags h.0 (primitive Application 9 destination) it.0 it.1.0 (omega arith, omega arith) (reason_tags it.0 reason it.2 w))

pub written_tags : WrittenHasTags
written_tags value w h tags = message_tags (written value) value refl w h tags
