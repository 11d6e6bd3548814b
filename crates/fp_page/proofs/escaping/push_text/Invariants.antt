use Rattle.std.proofs.Common.{◌≡◌, ◌++◌, string_bytes}
use Rattle.std.specs.Str.Iter.{chars_rest}
use Rattle.fp_page.specs.Escaped.{escaped}
use Rattle.fp_page.proofs.escaping.push_text.Given as goal

-- with the characters that are left, the text is that with all of them
abbrev pub invariant-loop-character : goal.invariant-loop-character
invariant-loop-character l =
    string_bytes l.out ++ escaped (chars_rest l.character-iterator) ≡ string_bytes l.fn.out ++ escaped l.fn.text
