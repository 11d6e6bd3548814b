-- The letter of a step says which step it is, so what holds of the fields after it holds of the step.
use Rattle.std.proofs.Common.{◌≡◌, ◌^◌, ◌<◌, ◌≤◌, ℕ, List, [], ◌∷◌, decimal, drop, get_or, ap, arith}
use Rattle.std.specs.List.{join_with_byte}
use Rattle.hex.specs.Hex.{encode_upper}
use Rattle.fp_book.specs.declared.answers.Given.{Given}
use Rattle.fp_book.specs.declared.answers.Posted.{Posted}
use Rattle.fp_book.specs.declared.line.LoggedStep.{LoggedStep}
use Rattle.fp_book.specs.declared.line.LoggedStep.TheVariants as steps
use Rattle.fp_digits.specs.declared.moment.TheConstants.Moment.{END}
use Rattle.fp_steps.specs.Places.{greatest_place}
use Rattle.fp_replay.specs.proof_only.Fields.{IsField}
use Rattle.fp_replay.specs.Format.{IsCounted, IsPosting, IsStep, given_text, posted_text}
use Rattle.fp_replay.specs.proof_only.Reading.{parcel_fields, step_text, turn_fields}
use Rattle.fp_replay.proofs.Cutting.{decimal_is_field, octets_are_field}

-- the first octet of a text
abbrev pub first : List ℕ → ℕ
first text = get_or text 0 0

module _ (fields : List ℕ) (T : LoggedStep → Type 0) where
  -- after `P`, by what is known of its four fields
  pub post_only : {P : List ℕ → List ℕ → List ℕ → List ℕ → Type 0}
      → ((a b c d : List ℕ) → IsField a → IsField b → IsField c → fields ≡ 32 ∷ join_with_byte 32 (a ∷ b ∷ c ∷ d ∷ []) → P a b c d)
      → ((table moment : ℕ) (message : List ℕ) (answer : Posted) → table ≤ greatest_place → IsPosting moment message answer
      → P (decimal moment) (decimal table) (encode_upper message) (posted_text answer) → T (steps.Post table moment message answer))
      → (step : LoggedStep) → IsStep step → 80 ∷ fields ≡ step_text step → T step
  post_only cut told (steps.Post table moment message answer) fits e =
      told table moment message answer fits.0 fits.1
      (cut (decimal moment) (decimal table) (encode_upper message) (posted_text answer) (decimal_is_field moment (omega (arith, fits.1.in_time))) (decimal_is_field table (omega (arith, fits.0))) (octets_are_field message) (ap (drop 1) e))
  post_only cut told _ fits e = absurd (omega (arith, ap first e))

  -- after `L`, by its three fields
  pub lost_only : {P : List ℕ → List ℕ → List ℕ → Type 0}
      → ((a b c : List ℕ) → IsField a → IsField b → fields ≡ 32 ∷ join_with_byte 32 (a ∷ b ∷ c ∷ []) → P a b c)
      → ((moment : ℕ) (message : List ℕ) (answer : Posted) → IsPosting moment message answer
      → P (decimal moment) (encode_upper message) (posted_text answer) → T (steps.Lost moment message answer))
      → (step : LoggedStep) → IsStep step → 76 ∷ fields ≡ step_text step → T step
  lost_only cut told (steps.Lost moment message answer) fits e =
      told moment message answer fits
      (cut (decimal moment) (encode_upper message) (posted_text answer) (decimal_is_field moment (omega (arith, fits.in_time))) (octets_are_field message) (ap (drop 1) e))
  lost_only cut told _ fits e = absurd (omega (arith, ap first e))

  -- after `B`
  pub put_back_only : ((birth position : ℕ) → birth < 2 ^ 64 → position < 2 ^ 64 → fields ≡ turn_fields birth position → T (steps.PutBack birth position)) → (step : LoggedStep) → IsStep step → 66 ∷ fields ≡ step_text step → T step
  put_back_only told (steps.PutBack birth position) fits e = told birth position fits.0 fits.1 (ap (drop 1) e)
  put_back_only told _ fits e = absurd (omega (arith, ap first e))

  -- after `Q`
  pub pick_only : ((birth : ℕ) → birth < 2 ^ 64 → fields ≡ parcel_fields birth → T (steps.Pick birth)) → (step : LoggedStep) → IsStep step → 81 ∷ fields ≡ step_text step → T step
  pick_only told (steps.Pick birth) fits e = told birth fits (ap (drop 1) e)
  pick_only told _ fits e = absurd (omega (arith, ap first e))

  -- after `Y`
  pub sent_only : ((birth : ℕ) → birth < 2 ^ 64 → fields ≡ parcel_fields birth → T (steps.Sent birth)) → (step : LoggedStep) → IsStep step → 89 ∷ fields ≡ step_text step → T step
  sent_only told (steps.Sent birth) fits e = told birth fits (ap (drop 1) e)
  sent_only told _ fits e = absurd (omega (arith, ap first e))

  -- after `U`
  pub unsent_only : ((birth : ℕ) → birth < 2 ^ 64 → fields ≡ parcel_fields birth → T (steps.Unsent birth)) → (step : LoggedStep) → IsStep step → 85 ∷ fields ≡ step_text step → T step
  unsent_only told (steps.Unsent birth) fits e = told birth fits (ap (drop 1) e)
  unsent_only told _ fits e = absurd (omega (arith, ap first e))

  -- after `K`, by its three fields
  pub tick_only : {P : List ℕ → List ℕ → List ℕ → Type 0}
      → ((a b c : List ℕ) → IsField a → IsField b → fields ≡ 32 ∷ join_with_byte 32 (a ∷ b ∷ c ∷ []) → P a b c)
      → ((moment added wanting : ℕ) → moment < END → added < 2 ^ 32 → wanting < 2 ^ 32 → P (decimal moment) (decimal added) (decimal wanting) → T (steps.Tick moment added wanting))
      → (step : LoggedStep) → IsStep step → 75 ∷ fields ≡ step_text step → T step
  tick_only cut told (steps.Tick moment added wanting) fits e =
      told moment added wanting fits.0 fits.1 fits.2
      (cut (decimal moment) (decimal added) (decimal wanting) (decimal_is_field moment (omega (arith, fits.0))) (decimal_is_field added (omega (arith, fits.1))) (ap (drop 1) e))
  tick_only cut told _ fits e = absurd (omega (arith, ap first e))

  -- after `T`, the same
  pub take_only : {P : List ℕ → List ℕ → List ℕ → Type 0}
      → ((a b c : List ℕ) → IsField a → IsField b → fields ≡ 32 ∷ join_with_byte 32 (a ∷ b ∷ c ∷ []) → P a b c)
      → ((birth position count : ℕ) → birth < 2 ^ 64 → position < 2 ^ 64 → count < 2 ^ 32 → P (decimal birth) (decimal position) (decimal count) → T (steps.Take birth position count))
      → (step : LoggedStep) → IsStep step → 84 ∷ fields ≡ step_text step → T step
  take_only cut told (steps.Take birth position count) fits e =
      told birth position count fits.0 fits.1 fits.2
      (cut (decimal birth) (decimal position) (decimal count) (decimal_is_field birth fits.0) (decimal_is_field position fits.1) (ap (drop 1) e))
  take_only cut told _ fits e = absurd (omega (arith, ap first e))

  -- after `G`, by its four fields
  pub give_only : {P : List ℕ → List ℕ → List ℕ → List ℕ → Type 0}
      → ((a b c d : List ℕ) → IsField a → IsField b → IsField c → fields ≡ 32 ∷ join_with_byte 32 (a ∷ b ∷ c ∷ d ∷ []) → P a b c d)
      → ((birth position served : ℕ) (given : Given) → birth < 2 ^ 64 → position < 2 ^ 64 → served < 2 ^ 32 → IsCounted given
      → P (decimal birth) (decimal position) (decimal served) (given_text given) → T (steps.Give birth position served given))
      → (step : LoggedStep) → IsStep step → 71 ∷ fields ≡ step_text step → T step
  give_only cut told (steps.Give birth position served given) fits e =
      told birth position served given fits.0 fits.1 fits.2 fits.3
      (cut (decimal birth) (decimal position) (decimal served) (given_text given) (decimal_is_field birth fits.0) (decimal_is_field position fits.1) (decimal_is_field served (omega (arith, fits.2))) (ap (drop 1) e))
  give_only cut told _ fits e = absurd (omega (arith, ap first e))
