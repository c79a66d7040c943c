-- A text is split into spaces, comments, words, integers and signs, each the longest at its place.
use Rattle.std.specs.Prelude.{◌≡◌, ℕ, ◌≤◌, List, [], ◌∷◌, length, take, true, MatchBool, ◌==◌, if◌then◌else◌}
use Rattle.std.specs.List.{list_all}
use Rattle.kb_text.specs.declared.bytes.Class.{Class}
use Rattle.kb_text.specs.declared.bytes.Class.TheVariants.{Space, Letter, Digit, Mark, Slash, Refused}
use Rattle.kb_text.specs.declared.fault.K.{K}
use Rattle.kb_text.specs.declared.fault.K.TheVariants.{Syntax, Unsupported}
use Rattle.kb_text.specs.Bytes.{class_of, is_word_byte, is_digit_byte, is_line_byte, is_pair, is_triple}
use Rattle.kb_text.specs.Ends.{is_end}

-- what a text is split into
pub data Piece : Type 0 where
  Blank : Piece
  LineComment : Piece
  BlockComment : Piece
  WordText : Piece
  IntText : Piece
  SignText : Piece

-- spaces and comments are dropped
abbrev pub IsGap : Piece → Type 0
IsGap Blank = Unit {0}
IsGap LineComment = Unit {0}
IsGap BlockComment = Unit {0}
IsGap WordText = ⊥
IsGap IntText = ⊥
IsGap SignText = ⊥

-- what may follow the first byte of a sign
abbrev pub IsSignTail : ℕ → List ℕ → Type 0
IsSignTail a [] = Unit {0}
IsSignTail a (b ∷ []) = is_pair a b ≡ true
IsSignTail a (b ∷ c ∷ []) = is_triple a b c ≡ true
IsSignTail a (b ∷ c ∷ d ∷ ds) = ⊥

-- this pair stands at the end and nowhere before
abbrev pub IsUpTo : ℕ → ℕ → List ℕ → Type 0
IsUpTo first second [] = ⊥
IsUpTo first second (a ∷ []) = ⊥
IsUpTo first second (a ∷ b ∷ bs) = MatchBool (is_end first second a b) (bs ≡ []) (IsUpTo first second (b ∷ bs))

-- after the first slash: another slash, and the rest of the line
abbrev pub IsLineTail : List ℕ → Type 0
IsLineTail [] = ⊥
IsLineTail (b ∷ bs) = (b ≡ 47) × (list_all is_line_byte bs ≡ true)

-- after the first slash: a star, and all up to the first star with a slash
abbrev pub IsBlockTail : List ℕ → Type 0
IsBlockTail [] = ⊥
IsBlockTail (b ∷ bs) = (b ≡ 42) × IsUpTo 42 47 bs

abbrev pub IsPiece : Piece → List ℕ → Type 0
IsPiece piece [] = ⊥
IsPiece Blank (b ∷ bs) = (class_of b ≡ Space) × (bs ≡ [])
IsPiece LineComment (b ∷ bs) = (class_of b ≡ Slash) × IsLineTail bs
IsPiece BlockComment (b ∷ bs) = (class_of b ≡ Slash) × IsBlockTail bs
IsPiece WordText (b ∷ bs) = (class_of b ≡ Letter) × (list_all is_word_byte bs ≡ true)
IsPiece IntText (b ∷ bs) = (class_of b ≡ Digit) × (list_all is_digit_byte bs ≡ true)
IsPiece SignText (b ∷ bs) = (class_of b ≡ Mark) × IsSignTail b bs

-- the first n bytes are this piece, and no longer prefix is a piece
pub record IsLongest (bytes : List ℕ) (x : Piece) (n : ℕ) : Type 0 where
  pub within : n ≤ length bytes
  pub piece : IsPiece x (take n bytes)
  pub longest : (r : Piece) (m : ℕ) → m ≤ length bytes → IsPiece r (take m bytes) → m ≤ n

-- no piece begins here
abbrev pub NothingBegins : List ℕ → Type 0
NothingBegins bytes = (r : Piece) (m : ℕ) → m ≤ length bytes → IsPiece r (take m bytes) → ⊥

-- why nothing begins: a slash with a star (42) is a comment that is not closed
abbrev pub cause_of : Class → List ℕ → K
cause_of Refused bs = Unsupported
cause_of Slash [] = Unsupported
cause_of Slash (b ∷ bs) = if b == 42 then Syntax else Unsupported
cause_of _ bs = Syntax

abbrev pub cause_at : List ℕ → K
cause_at [] = Syntax
cause_at (b ∷ bs) = cause_of (class_of b) bs

-- the first byte is of this class
abbrev pub OpensWith : Class → List ℕ → Type 0
OpensWith c [] = ⊥
OpensWith c (b ∷ bs) = class_of b ≡ c
