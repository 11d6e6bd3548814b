-- The result, its source and its diagnostic by which an AARE tells a verdict (Q.773, 4.2.3).
use Rattle.std.specs.Prelude.{ℕ}
use Rattle.fp_apdu.specs.declared.verdict.Verdict.{Verdict}
use Rattle.fp_apdu.specs.declared.verdict.Verdict.TheVariants.{Accepted, NoName, NoVersion}

-- the result: 0 is accepted, 1 is reject-permanent
abbrev pub associate_result : Verdict → ℕ
associate_result Accepted = 0
associate_result NoName = 1
associate_result NoVersion = 1

-- where the result comes from: 1 is the dialogue service user, 2 its provider
abbrev pub source : Verdict → ℕ
source Accepted = 1
source NoName = 1
source NoVersion = 2

-- the diagnostic: 0 is null; of the user 2 is application-context-name-not-supported, of the provider 2 is
-- no-common-dialogue-portion
abbrev pub diagnostic : Verdict → ℕ
diagnostic Accepted = 0
diagnostic NoName = 2
diagnostic NoVersion = 2
