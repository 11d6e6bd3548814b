-- The text of a page: its pieces, one after the other. A text of the program is as it is, one from outside is escaped.
use Rattle.std.specs.Prelude.{ℕ, List, flat_map}
use Rattle.fp_page.specs.Escaped.{escaped}
use Rattle.fp_page.specs.Numbers.{grouped, tenths_text}
use Rattle.fp_page.specs.declared.html.Piece.{Piece}
use Rattle.fp_page.specs.declared.html.Piece.TheVariants as pieces

abbrev pub piece_text : Piece → List ℕ
piece_text (pieces.Fixed text) = text.now
piece_text (pieces.Text text) = escaped text.now
piece_text (pieces.Number number) = grouped number
piece_text (pieces.Tenths tenths) = tenths_text tenths

abbrev pub pieces_text : List Piece → List ℕ
pieces_text pieces = flat_map piece_text pieces
