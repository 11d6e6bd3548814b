-- A number is closed exactly on the days of its own closed days.
use Rattle.std.proofs.Common.{◌≡◌, ℕ, ℤ, List, [], ◌∷◌, Bool, true, false, ◌&&◌, ◌||◌, filter, fold, map, refl, ◌∙◌, if◌then◌else◌}
use Rattle.std.specs.Prelude.{bytes_eq}
use Rattle.std.specs.BTreeSet.{insert_key}
use Rattle.std.specs.List.{list_any}
use Rattle.std.specs.Ordering.{int_cmp, int_eq, match_ordering}
use Rattle.std.specs.declared.cmp.Ordering.{Ordering}
use Rattle.std.specs.declared.cmp.Ordering.TheVariants.{Less, Equal, Greater}
use Rattle.std.proofs.lemmas.Map.Lookups.{exact_signed}
use Rattle.fp_records.specs.Choice.{is_closed_on}
use Rattle.fp_records.specs.Closed.{closed_days}
use Rattle.fp_records.specs.declared.closed.ClosedDay.{ClosedDay}

-- tests in another order, and one twice
once : (a b : Bool) → (a || b) ≡ (a || (a || b))
once true b = refl
once false b = refl

swap : (a b c : Bool) → (a || (b || c)) ≡ (b || (a || c))
swap true true c = refl
swap true false c = refl
swap false b c = refl

later : (a b c : Bool) → ((a || b) || c) ≡ (b || (a || c))
later true true c = refl
later true false c = refl
later false b c = refl

none_after : (a : Bool) → a ≡ (a || false)
none_after true = refl
none_after false = refl

-- a day that is put among others is there, and so are these
any-insert_key : (day new : ℤ) (days : List ℤ) → list_any (int_eq day) (insert_key int_cmp days new) ≡ (int_eq day new || list_any (int_eq day) days)
any-insert_key day new [] = refl
any-insert_key day new (first ∷ days) = by (int_cmp new first) refl (any-insert_key day new days)
  where
    by : (order : Ordering) → int_cmp new first ≡ order → list_any (int_eq day) (insert_key int_cmp days new) ≡ (int_eq day new || list_any (int_eq day) days)
        → list_any (int_eq day) (match_ordering order (new ∷ first ∷ days) (first ∷ days) (first ∷ insert_key int_cmp days new))
        ≡ (int_eq day new || (int_eq day first || list_any (int_eq day) days))
    by Less is more = refl
    by Equal is more = rw (exact_signed new first is) (once (int_eq day first) (list_any (int_eq day) days))
    by Greater is more = rw more (swap (int_eq day first) (int_eq day new) (list_any (int_eq day) days))

any-all : (day : ℤ) (before days : List ℤ) → list_any (int_eq day) (fold (insert_key int_cmp) before days) ≡ (list_any (int_eq day) before || list_any (int_eq day) days)
any-all day before [] = none_after (list_any (int_eq day) before)
any-all day before (first ∷ days) =
    rw (any-all day (insert_key int_cmp before first) days, any-insert_key day first before)
    (later (int_eq day first) (list_any (int_eq day) before) (list_any (int_eq day) days))

any-own : (digits : List ℕ) (day : ℤ) (closed : List ClosedDay)
    → list_any (int_eq day) (map (λ c. c.day) (filter (λ c. bytes_eq digits c.number) closed)) ≡ list_any (λ c. bytes_eq digits c.number && int_eq day c.day) closed
any-own digits day [] = refl
any-own digits day (first ∷ closed) = by (bytes_eq digits first.number) (any-own digits day closed)
  where
    by : (own : Bool) → list_any (int_eq day) (map (λ c. c.day) (filter (λ c. bytes_eq digits c.number) closed)) ≡ list_any (λ c. bytes_eq digits c.number && int_eq day c.day) closed
        → list_any (int_eq day) (map (λ c. c.day) (if own then first ∷ filter (λ c. bytes_eq digits c.number) closed else filter (λ c. bytes_eq digits c.number) closed))
        ≡ ((own && int_eq day first.day) || list_any (λ c. bytes_eq digits c.number && int_eq day c.day) closed)
    by true more = rw more refl
    by false more = more

pub closed-exactly : (digits : List ℕ) (day : ℤ) (closed : List ClosedDay)
    → is_closed_on day (closed_days digits closed) ≡ list_any (λ c. bytes_eq digits c.number && int_eq day c.day) closed
closed-exactly digits day closed = any-all day [] (map (λ c. c.day) (filter (λ c. bytes_eq digits c.number) closed)) ∙ any-own digits day closed
