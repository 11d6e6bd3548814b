-- An element without where it lies in memory.
use Rattle.std.specs.Prelude.{ℕ, ◌+◌, max, ◌≤◌, ◌<◌, Bool, true, false, List, ⊤}
use Rattle.fp_ber.specs.declared.element.Class.{Class}
use Rattle.fp_ber.specs.declared.element.Class.TheVariants.{Universal, Application, Context, Private}

mutual
  -- a class, a number, and octets or elements
  pub data Tree : Type 0 where
    primitive : Class → ℕ → List ℕ → Tree
    constructed : Class → ℕ → Trees → Tree

  pub data Trees : Type 0 where
    none : Trees
    more : Tree → Trees → Trees

-- the class of an element's tag
abbrev pub class_of : Tree → Class
class_of (primitive class number octets) = class
class_of (constructed class number children) = class

-- the number of an element's tag
abbrev pub number_of : Tree → ℕ
number_of (primitive class number octets) = number
number_of (constructed class number children) = number

-- whether there is no element
abbrev pub are_none : Trees → Bool
are_none none = true
are_none (more t ts) = false

-- how many elements there are, those in them not counted
abbrev pub how_many : Trees → ℕ
how_many none = 0
how_many (more t ts) = 1 + how_many ts

-- ts with t behind them
abbrev pub trees_with : Trees → Tree → Trees
trees_with none t = more t none
trees_with (more first ts) t = more first (trees_with ts t)

abbrev pub class_code : Class → ℕ
class_code Universal = 0
class_code Application = 1
class_code Context = 2
class_code Private = 3

-- how many elements lie inside each other, the outermost counted
abbrev mutual
  pub nesting : Tree → ℕ
  nesting (primitive class number octets) = 1
  nesting (constructed class number children) = 1 + nesting_of_all children

  pub nesting_of_all : Trees → ℕ
  nesting_of_all none = 0
  nesting_of_all (more t ts) = max (nesting t) (nesting_of_all ts)

-- a tag that an element may have: number 0 of the universal class is the mark of an end
abbrev pub IsTagNumber : Class → ℕ → Type 0
IsTagNumber class number = (0 < class_code class + number) × (number ≤ 16383)

abbrev mutual
  pub HasTags : Tree → Type 0
  HasTags (primitive class number octets) = IsTagNumber class number
  HasTags (constructed class number children) = IsTagNumber class number × AllHaveTags children

  pub AllHaveTags : Trees → Type 0
  AllHaveTags none = ⊤
  AllHaveTags (more t ts) = HasTags t × AllHaveTags ts

-- an element in range: at most sixteen inside each other, and tags that elements have
pub record InRange (t : Tree) : Type 0 where
  pub nested : nesting t ≤ 16
  pub tags : HasTags t
