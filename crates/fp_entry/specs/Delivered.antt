-- Which components of a message are delivered.
use Rattle.std.specs.Prelude.{List, [], ◌∷◌, if◌then◌else◌}
use Rattle.fp_q773.specs.Value.{ComponentValue, is_faulty}

-- those up to the first faulty one, which is the last
abbrev pub delivered : List ComponentValue → List ComponentValue
delivered [] = []
delivered (component ∷ others) = if is_faulty component then component ∷ [] else component ∷ delivered others
