-- The members of an InitialDP that are read, by their numbers: serviceKey, 0, calledPartyNumber, 2, callingPartyNumber, 3,
-- callingPartysCategory, 5, and eventTypeBCSM, 28 (ITU-T Q.1218).
use Rattle.std.specs.Prelude.{◌≡◌, ◌+◌, ◌++◌, ◌≤◌, length}
use Rattle.fp_ber.specs.Tree.{Tree, Trees, none, more}
use Rattle.fp_inap.specs.declared.initial_dp_parts.Parts.{Parts}
use Rattle.fp_inap.specs.Members.{with_number}
use Rattle.fp_inap.specs.View.{found_in}

-- each part is all members that have its number
pub record AreParts (members : Trees) (parts : Parts) : Type 0 where
  pub key : with_number 0 members ≡ found_in parts.key
  pub called : with_number 2 members ≡ found_in parts.called
  pub calling : with_number 3 members ≡ found_in parts.calling
  pub category : with_number 5 members ≡ found_in parts.category
  pub event : with_number 28 members ≡ found_in parts.event

-- no number that is read is that of two members
pub record IsOneEach (members : Trees) : Type 0 where
  pub key : length (with_number 0 members) ≤ 1
  pub called : length (with_number 2 members) ≤ 1
  pub calling : length (with_number 3 members) ≤ 1
  pub category : length (with_number 5 members) ≤ 1
  pub event : length (with_number 28 members) ≤ 1

-- a member is added to the part that has its number, if one has
pub record Adds (old : Parts) (member : Tree) (new : Parts) : Type 0 where
  pub key : found_in new.key ≡ found_in old.key ++ with_number 0 (more member none)
  pub called : found_in new.called ≡ found_in old.called ++ with_number 2 (more member none)
  pub calling : found_in new.calling ≡ found_in old.calling ++ with_number 3 (more member none)
  pub category : found_in new.category ≡ found_in old.category ++ with_number 5 (more member none)
  pub event : found_in new.event ≡ found_in old.event ++ with_number 28 (more member none)

-- the part that has the number of a member, if one has, is absent
pub record HasRoom (parts : Parts) (member : Tree) : Type 0 where
  pub key : length (found_in parts.key) + length (with_number 0 (more member none)) ≤ 1
  pub called : length (found_in parts.called) + length (with_number 2 (more member none)) ≤ 1
  pub calling : length (found_in parts.calling) + length (with_number 3 (more member none)) ≤ 1
  pub category : length (found_in parts.category) + length (with_number 5 (more member none)) ≤ 1
  pub event : length (found_in parts.event) + length (with_number 28 (more member none)) ≤ 1
