-- Tokens as the grammar sees them.
use Rattle.std.specs.Prelude.{ℕ, List, [], ◌∷◌, map}
use Rattle.grammar.specs.declared.terminal.Item.{Item}
use Rattle.grammar.specs.declared.terminal.Terminal.{Terminal}
use Rattle.grammar.specs.declared.terminal.Terminal.TheVariants.{Word}

-- a sign, an integer or a reserved word, or another word
pub data Symbol : Type 0 where
  mark : Terminal → Symbol
  word : List ℕ → Symbol

-- a token and its place
pub data Tok : Type 0 where
  tok_at : Symbol → ℕ → Tok

abbrev pub sign : Terminal → ℕ → Tok
sign t p = tok_at (mark t) p

abbrev pub symbol_of : Terminal → List ℕ → Symbol
symbol_of Word text = word text
symbol_of t text = mark t

abbrev pub tok : Item → Tok
tok i = tok_at (symbol_of i.terminal i.text.now) i.place

abbrev pub toks : List Item → List Tok
toks items = map tok items

-- the place of the next token, or of the text's end
abbrev pub place_of : List Tok → ℕ → ℕ
place_of [] len = len
place_of (tok_at s p ∷ ts) len = p
