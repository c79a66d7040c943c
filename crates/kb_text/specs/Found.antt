-- What the scan finds at the start of a text.
use Rattle.std.specs.Prelude.{ℕ, List, Bool}
use Rattle.kb_text.specs.declared.piece.Found.{Found}
use Rattle.kb_text.specs.declared.piece.Found.TheVariants as found
use Rattle.kb_text.specs.Pieces.{Piece, IsGap, IsLongest}
use Rattle.kb_text.specs.Tokens.{IsTokenAt, NoTokenAt}

abbrev pub FoundAt : Bool → List ℕ → Found → Type 0
FoundAt in_braces bytes (found.Gap n) = (x : Piece) × IsGap x × IsLongest bytes x n
FoundAt in_braces bytes (found.Token k n) = IsTokenAt in_braces bytes k n
FoundAt in_braces bytes (found.Nothing c) = NoTokenAt in_braces bytes c
