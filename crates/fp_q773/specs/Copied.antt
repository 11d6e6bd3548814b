-- The elements that are copied into a message, a dialogue portion and parameters, have tags that elements may have.
use Rattle.std.specs.Prelude.{List, [], ◌∷◌, Option, Some, None, ⊤}
use Rattle.fp_ber.specs.Tree.{Tree, HasTags}
use Rattle.fp_q773.specs.Value.{ResultValue, ComponentValue, ReasonValue, MessageValue, returned, invoke, return_result_last, return_error, reject, return_result_not_last, faulty, provider, user, unidirectional, begin, end, continuing, abort}

-- a dialogue portion, or a parameter, if it is there
abbrev pub CopyHasTags : Option Tree → Type 0
CopyHasTags None = ⊤
CopyHasTags (Some t) = HasTags t

abbrev pub ResultHasTags : Option ResultValue → Type 0
ResultHasTags None = ⊤
ResultHasTags (Some (returned code parameter)) = CopyHasTags parameter

abbrev pub ComponentHasTags : ComponentValue → Type 0
ComponentHasTags (invoke identifier linked code parameter) = CopyHasTags parameter
ComponentHasTags (return_result_last identifier result) = ResultHasTags result
ComponentHasTags (return_error identifier code parameter) = CopyHasTags parameter
ComponentHasTags (reject identifier problem) = ⊤
ComponentHasTags (return_result_not_last identifier result) = ResultHasTags result
ComponentHasTags (faulty identifier problem) = ⊤

abbrev pub ComponentsHaveTags : List ComponentValue → Type 0
ComponentsHaveTags [] = ⊤
ComponentsHaveTags (component ∷ others) = ComponentHasTags component × ComponentsHaveTags others

abbrev pub ReasonHasTags : Option ReasonValue → Type 0
ReasonHasTags None = ⊤
ReasonHasTags (Some (provider cause)) = ⊤
ReasonHasTags (Some (user dialogue)) = HasTags dialogue

-- all that are copied into a message
abbrev pub CopiesHaveTags : MessageValue → Type 0
CopiesHaveTags unidirectional = ⊤
CopiesHaveTags (begin originating dialogue components) = CopyHasTags dialogue × ComponentsHaveTags components
CopiesHaveTags (end destination dialogue components) = CopyHasTags dialogue × ComponentsHaveTags components
CopiesHaveTags (continuing originating destination dialogue components) = CopyHasTags dialogue × ComponentsHaveTags components
CopiesHaveTags (abort destination reason) = ReasonHasTags reason
