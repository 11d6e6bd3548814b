use Rattle.std.proofs.Common.{◌≡◌, ◌++◌, string_bytes}
use Rattle.std.proofs.Math.ListN.{drop}
use Rattle.fp_page.specs.Pieces.{pieces_text}
use Rattle.fp_page.proofs.html.Html.add.Given as goal

-- with the pieces that are left, the text is that with all of them
abbrev pub invariant-loop-piece : goal.invariant-loop-piece
invariant-loop-piece l =
    string_bytes l.self.text ++ pieces_text (drop l.piece-index l.pieces) ≡ string_bytes l.fn.self.text ++ pieces_text l.pieces
