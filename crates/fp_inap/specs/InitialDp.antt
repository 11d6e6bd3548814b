-- The argument of InitialDP, after ITU-T Q.1218: a sequence with serviceKey, tag 80, calledPartyNumber, 82,
-- callingPartyNumber, 83, callingPartysCategory, 85, and eventTypeBCSM, 9C, each at most once, in any order. Members
-- with other context tags are skipped.
use Rattle.std.specs.Prelude.{◌≡◌, ℕ, pos, List, Option, Some, None, option_map, ⊤}
use Rattle.fp_ber.specs.Integer.{integer}
use Rattle.fp_ber.specs.Tree.{Tree, Trees}
use Rattle.fp_digits.specs.declared.number.Number.{Number}
use Rattle.fp_digits.specs.Number as numbers
use Rattle.fp_inap.specs.declared.initial_dp.InitialDp.{InitialDp}
use Rattle.fp_inap.specs.Event.{event_of}
use Rattle.fp_inap.specs.Members.{IsSequence, HoldsOctets, IsOctet}

-- an integer that isn't negative, if anything is there
abbrev pub IsKey : Option (List ℕ) → Option ℕ → Type 0
IsKey None None = ⊤
IsKey None (Some key) = ⊥
IsKey (Some octets) None = ⊥
IsKey (Some octets) (Some key) = integer octets ≡ Some (pos key)

-- the number in octets, if they are there and hold one
abbrev pub number_in : Option (List ℕ) → Option Number
number_in None = None
number_in (Some octets) = numbers.number_of octets

-- the element is the argument of InitialDP with these contents; a number whose octets hold none is absent
pub record IsInitialDp (t : Tree) (dp : InitialDp) : Type 0 where
  pub members : Trees
  pub key : Option (List ℕ)
  pub called : Option (List ℕ)
  pub calling : Option (List ℕ)
  pub category : Option (List ℕ)
  pub event : Option (List ℕ)
  pub event_octet : Option ℕ
  pub is_sequence : IsSequence t members
  pub has_key : HoldsOctets members 0 key
  pub has_called : HoldsOctets members 2 called
  pub has_calling : HoldsOctets members 3 calling
  pub has_category : HoldsOctets members 5 category
  pub has_event : HoldsOctets members 28 event
  pub is_key : IsKey key dp.key
  pub is_called : dp.called ≡ number_in called
  pub is_calling : dp.calling ≡ number_in calling
  pub is_category : IsOctet category dp.category
  pub is_octet : IsOctet event event_octet
  pub is_event : dp.event ≡ option_map event_of event_octet
