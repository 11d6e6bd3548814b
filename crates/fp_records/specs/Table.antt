-- A table of records, and when it is that of a file.
use Rattle.std.specs.Prelude.{◌≡◌, ℕ, ℤ, List, [], ◌∷◌, Option, Some, None, Result, Ok, Err, bytes_eq, length, true, ◌≤◌}
use Rattle.std.specs.List.{list_all}
use Rattle.std.specs.List.Sorted.{IsStrictlySortedBy}
use Rattle.std.specs.Cmp.Lexicographic.{slice_cmp}
use Rattle.std.specs.Ordering.{nat_cmp}
use Rattle.std.specs.Map.{keys_of, lookup}
use Rattle.fp_records.specs.Choice.{Rules}
use Rattle.fp_records.specs.Digits.{is_decimal}
use Rattle.fp_records.specs.Closed.{closed_days}
use Rattle.fp_records.specs.File.{File, FirstFault, IsFile, rules_of}
use Rattle.fp_records.specs.Items.{all_closed, all_rules}
use Rattle.fp_records.specs.declared.fault.RecordsFault.{RecordsFault}
use Rattle.fp_records.specs.declared.fault.RecordsFault.TheVariants.{Record, Memory}
use Rattle.fp_records.specs.declared.rule.Rule.{Rule}

-- the index among the tables of a run, the service key, how many rules and closed days there are, and each number with
-- its record
pub record Contents : Type 0 where
  pub index : ℕ
  pub key : ℕ
  pub rule_count : ℕ
  pub closed_count : ℕ
  pub records : List (List ℕ × Rules)

-- what the records of a table keep: there are at most 100,000, each number is one of decimal digits, and each is there
-- once, in rising order
pub record IsKept (records : List (List ℕ × Rules)) : Type 0 where
  pub most : length records ≤ 100000
  pub decimal : list_all (λ entry. is_decimal entry.0) records ≡ true
  pub once : IsStrictlySortedBy (slice_cmp nat_cmp) (keys_of records)

-- the record of a number, by its digits alone
abbrev pub record_at : Contents → List ℕ → Option Rules
record_at contents digits = lookup (bytes_eq digits) contents.records

-- the record with these rules, none where there are none, whatever days are closed
abbrev pub record_with : ℤ → List ℤ → List Rule → Option Rules
record_with offset closed [] = None
record_with offset closed (rule ∷ rules) = Some (record { offset = offset; rules = rule ∷ rules; closed = closed })

-- a table is that of a file, whatever its index: the record of any digits is that of the rules and the closed days of
-- that number, and each number is there once, in rising order
pub record IsTable (file : File) (contents : Contents) : Type 0 where
  pub key : contents.key ≡ file.key
  pub rule_count : contents.rule_count ≡ length (all_rules file.items)
  pub closed_count : contents.closed_count ≡ length (all_closed file.items)
  pub each : (digits : List ℕ) → record_at contents digits ≡ record_with file.offset (closed_days digits (all_closed file.items)) (rules_of digits (all_rules file.items))
  pub once : IsStrictlySortedBy (slice_cmp nat_cmp) (keys_of contents.records)

-- an answer is what the records of a text are: the table of the file, as the first one of a run, or their first fault;
-- or memory ran out
abbrev pub Reads : Result Contents RecordsFault → List (List (List ℕ)) → Type 0
Reads (Ok contents) rows = (file : File) × IsFile rows file × IsTable file contents × (contents.index ≡ 0)
Reads (Err (Record at reason)) rows = FirstFault rows at reason
Reads (Err Memory) rows = Unit {0}
