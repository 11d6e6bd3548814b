-- A text as HTML has it, between tags and in the value of an attribute in quotation marks (HTML Standard, 13.1.2.3 and 13.1.4):
-- each octet that could mark something there is a reference.
use Rattle.std.specs.Prelude.{ℕ, List, [], ◌∷◌, Bool, ◌==◌, ◌||◌, codes, flat_map, if◌then◌else◌}

-- `&`, `<`, `>`, `"` and `'` are references, and any other octet is itself
abbrev pub escaped_octet : ℕ → List ℕ
escaped_octet octet =
    if octet == 38 then codes "&amp;"
    else if octet == 60 then codes "&lt;"
    else if octet == 62 then codes "&gt;"
    else if octet == 34 then codes "&quot;"
    else if octet == 39 then codes "&#39;"
    else octet ∷ []

abbrev pub escaped : List ℕ → List ℕ
escaped text = flat_map escaped_octet text

-- what begins or ends a tag or a value
abbrev pub is_mark : ℕ → Bool
is_mark octet = octet == 60 || (octet == 62 || (octet == 34 || octet == 39))
