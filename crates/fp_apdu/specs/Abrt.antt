-- The abort of a dialogue, ABRT (Q.773, 4.2.3): tag 64, and in it the source, tag 80.
use Rattle.std.specs.Prelude.{ℕ, [], ◌∷◌}
use Rattle.fp_ber.specs.declared.element.Class.TheVariants.{Application, Context}
use Rattle.fp_ber.specs.Tree.{Tree, primitive, constructed, none, more}

-- the source dialogue-service-user
abbrev pub service_user : ℕ
service_user = 0

abbrev pub abrt : Tree
abrt = constructed Application 4 (more (primitive Context 0 (service_user ∷ [])) none)
