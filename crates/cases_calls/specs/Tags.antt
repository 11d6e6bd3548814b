-- That the tags of an element are in range has one proof.
use Rattle.std.specs.Prelude.{Option, Some, None}
use Rattle.std.specs.Coded.{×_prop, Unit-prop, le_prop}
use Rattle.fp_ber.specs.Tree.{Tree, Trees, HasTags, AllHaveTags, primitive, constructed, none, more}
use Rattle.fp_q773.specs.Copied.{CopyHasTags}

mutual
  pub HasTags-prop : (t : Tree) → IsProp (HasTags t)
  HasTags-prop (primitive class number octets) = ×_prop le_prop le_prop
  HasTags-prop (constructed class number children) = ×_prop (×_prop le_prop le_prop) (AllHaveTags-prop children)

  pub AllHaveTags-prop : (ts : Trees) → IsProp (AllHaveTags ts)
  AllHaveTags-prop none = Unit-prop
  AllHaveTags-prop (more t ts) = ×_prop (HasTags-prop t) (AllHaveTags-prop ts)

-- the same of an element that may be absent
pub CopyHasTags-prop : (t : Option Tree) → IsProp (CopyHasTags t)
CopyHasTags-prop None = Unit-prop
CopyHasTags-prop (Some t) = HasTags-prop t
