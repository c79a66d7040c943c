-- Which terminal of the grammar each token of a text is.
use Rattle.std.specs.Prelude.{◌≡◌, ℕ, List, [], ◌∷◌, map, true, false, ◌==◌, if◌then◌else◌, Result, Ok, Err, codes}
use Rattle.std.specs.Global.{Vec}
use Rattle.std.specs.Str.{bytes_eq}
use Rattle.kb_text.specs.declared.token.Kind.{Kind}
use Rattle.kb_text.specs.declared.token.Kind.TheVariants.{Word, Int, Sign, Procedure}
use Rattle.kb_text.specs.Depth.{outermost}
use Rattle.kb_text.specs.Tokens.{Lexeme, TokensFrom, decimal}
use Rattle.grammar.specs.declared.error.KbError.{KbError}
use Rattle.grammar.specs.declared.error.KbError.TheVariants as errors
use Rattle.grammar.specs.declared.terminal.Item.{Item}
use Rattle.grammar.specs.declared.terminal.Terminal.{Terminal}
use Rattle.grammar.specs.declared.terminal.Terminal.TheVariants as t
use Rattle.grammar.specs.declared.terminal.Outer.TheVariants as outer
use Rattle.grammar.specs.declared.terminal.Aggregation.TheVariants as fold
use Rattle.grammar.specs.declared.terminal.Adding.TheVariants.{Plus, Minus}
use Rattle.grammar.specs.declared.terminal.Arrow.TheVariants.{Implies, ImpliedBy, Equivalent}
use Rattle.grammar.specs.declared.terminal.Comparison.TheVariants.{Equal, NotEqual, Less, Greater, AtMost, AtLeast}
use Rattle.grammar.specs.Terminals.{Tok, tok_at, symbol_of, toks}

-- the reserved words are terminals of their own; each other word, as `from`, is a word
abbrev pub word_terminal : List ℕ → Terminal
word_terminal text =
    if bytes_eq text (codes "vocabulary") then t.Outer outer.Vocabulary
    else (if bytes_eq text (codes "theory") then t.Outer outer.Theory
    else (if bytes_eq text (codes "structure") then t.Outer outer.Structure
    else (if bytes_eq text (codes "term") then t.Outer outer.Term
    else (if bytes_eq text (codes "procedure") then t.Outer outer.Procedure
    else (if bytes_eq text (codes "type") then t.Outer outer.Type
    else (if bytes_eq text (codes "isa") then t.Outer outer.Isa
    else (if bytes_eq text (codes "constructed") then t.Outer outer.Constructed
    else (if bytes_eq text (codes "true") then t.Truth true
    else (if bytes_eq text (codes "false") then t.Truth false
    else (if bytes_eq text (codes "sum") then t.Aggregate fold.Sum
    else (if bytes_eq text (codes "min") then t.Aggregate fold.Min
    else (if bytes_eq text (codes "max") then t.Aggregate fold.Max
    else t.Word))))))))))))

-- the signs of one byte, in the order { } ( ) [ ] : ; , . ! ? ~ & | = < > + - * #
unfoldable pub single_terminal : ℕ → Terminal
single_terminal b =
    if b == 123 then t.OpenBrace else (if b == 125 then t.CloseBrace
    else (if b == 40 then t.Open else (if b == 41 then t.Close
    else (if b == 91 then t.OpenSquare else (if b == 93 then t.CloseSquare
    else (if b == 58 then t.Colon else (if b == 59 then t.Outer outer.Semicolon
    else (if b == 44 then t.Comma else (if b == 46 then t.Outer outer.Dot
    else (if b == 33 then t.Every else (if b == 63 then t.Some
    else (if b == 126 then t.Not else (if b == 38 then t.And
    else (if b == 124 then t.Or else (if b == 61 then t.Compare Equal
    else (if b == 60 then t.Compare Less else (if b == 62 then t.Compare Greater
    else (if b == 43 then t.Add Plus else (if b == 45 then t.Add Minus
    else (if b == 42 then t.Times else t.Count))))))))))))))))))))

-- those of more; the last is <=>
abbrev pub longer_terminal : List ℕ → Terminal
longer_terminal text =
    if bytes_eq text (codes "=>") then t.Arrow Implies
    else (if bytes_eq text (codes "<=") then t.Arrow ImpliedBy
    else (if bytes_eq text (codes "=<") then t.Compare AtMost
    else (if bytes_eq text (codes ">=") then t.Compare AtLeast
    else (if bytes_eq text (codes "~=") then t.Compare NotEqual
    else (if bytes_eq text (codes "<-") then t.Outer outer.If
    else (if bytes_eq text (codes "->") then t.Outer outer.To
    else (if bytes_eq text (codes "..") then t.Outer outer.Range
    else t.Arrow Equivalent)))))))

abbrev pub sign_terminal : List ℕ → Terminal
sign_terminal (b ∷ []) = single_terminal b
sign_terminal text = longer_terminal text

abbrev pub terminal_of : Kind → List ℕ → Terminal
terminal_of Word text = word_terminal text
terminal_of Int text = t.Integer (decimal text)
terminal_of Sign text = sign_terminal text
terminal_of Procedure text = t.Outer outer.Procedure

-- a token of the text as a token of the grammar
abbrev pub tok_of : Lexeme → Tok
tok_of l = tok_at (symbol_of (terminal_of l.kind l.text) l.text) l.start

-- The tokens of the grammar that the text consists of.
pub record IsTokens (src : List ℕ) (ts : List Tok) : Type 0 where
  pub lexemes : List Lexeme
  pub scanned : TokensFrom outermost 0 src (Ok lexemes)
  pub same : ts ≡ map tok_of lexemes

-- they are these, or the text is refused before the grammar is asked
abbrev pub ItemsOf : List ℕ → Result (Vec Item) KbError → Type 0
ItemsOf src (Ok v) = IsTokens src (toks v.items)
ItemsOf src (Err errors.Memory) = Unit {0}
ItemsOf src (Err (errors.Refused f)) = TokensFrom outermost 0 src (Err f)
