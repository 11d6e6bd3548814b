-- How many octets the dialogue portion around an AARE takes.
use Rattle.std.proofs.Common.{◌≡◌, ℕ, ◌+◌, List, length, ◌∙◌, arith}
use Rattle.fp_ber.specs.Canon.{canon, HasLengths}
use Rattle.fp_apdu.specs.declared.verdict.Verdict.{Verdict}
use Rattle.fp_apdu.specs.declared.verdict.Verdict.TheVariants.{Accepted, NoName, NoVersion}
use Rattle.fp_apdu.specs.Name.{IsName}
use Rattle.fp_apdu.specs.Aare.{aare}
use Rattle.fp_apdu.specs.DialoguePortion.{dialogue_portion}
use Rattle.fp_apdu.proofs.Sizes.{IsShort, length-canon, short_fits}

-- each of its elements is short
aare_short : (name : List ℕ) (verdict : Verdict) → IsName name → IsShort (dialogue_portion (aare name verdict))
aare_short name Accepted is = omega arith
aare_short name NoName is = omega arith
aare_short name NoVersion is = omega arith

pub aare_lengths : (name : List ℕ) (verdict : Verdict) → IsName name → HasLengths (dialogue_portion (aare name verdict))
aare_lengths name verdict is = short_fits (dialogue_portion (aare name verdict)) (aare_short name verdict is)

pub aare_size : (name : List ℕ) (verdict : Verdict) → IsName name → length (canon (dialogue_portion (aare name verdict))) ≡ 37 + length name
aare_size name verdict is = length-canon (dialogue_portion (aare name verdict)) (aare_short name verdict is) ∙ omega arith
