-- Records of other numbers of fields.
use Rattle.std.proofs.Common.{◌≡◌, ◌≢◌, ℕ, List, [], ◌∷◌, false, length, refl}
use Rattle.fp_records.specs.declared.fault.Reason.TheVariants.{BadClosed, BadHead}
use Rattle.fp_lint.specs.Faults.{closed_faults, head_faults, unless_good, version_part}
use Rattle.fp_lint.specs.declared.fault.Part.TheVariants.{Whole}

-- one that has not three is no head
pub head_faults_others : (at : ℕ) (fields : List (List ℕ)) → length fields ≢ 3 → head_faults at fields ≡ unless_good false at Whole BadHead
head_faults_others at [] other = refl
head_faults_others at (a ∷ []) other = refl
head_faults_others at (a ∷ b ∷ []) other = refl
head_faults_others at (a ∷ b ∷ c ∷ []) other = absurd (other refl)
head_faults_others at (a ∷ b ∷ c ∷ d ∷ rest) other = refl

-- nor a closed day
pub closed_faults_others : (at : ℕ) (fields : List (List ℕ)) → length fields ≢ 3 → closed_faults at fields ≡ unless_good false at Whole BadClosed
closed_faults_others at [] other = refl
closed_faults_others at (a ∷ []) other = refl
closed_faults_others at (a ∷ b ∷ []) other = refl
closed_faults_others at (a ∷ b ∷ c ∷ []) other = absurd (other refl)
closed_faults_others at (a ∷ b ∷ c ∷ d ∷ rest) other = refl

-- and one that has not two is no line of a version
pub version_part_others : (fields : List (List ℕ)) → length fields ≢ 2 → version_part fields ≡ Whole
version_part_others [] other = refl
version_part_others (a ∷ []) other = refl
version_part_others (a ∷ b ∷ []) other = absurd (other refl)
version_part_others (a ∷ b ∷ c ∷ rest) other = refl
