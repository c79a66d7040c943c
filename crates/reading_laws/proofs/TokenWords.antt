-- Each word among the tokens of a text is one that is read and not reserved.
use Rattle.std.proofs.Common.{◌≡◌, ◌≢◌, ◌==◌, ℕ, Bool, true, false, List, [], ◌∷◌, map, take, drop, if◌then◌else◌}
use Rattle.std.proofs.Common.{Option, None, Some, IfOk, refl, sym, subst, codes}
use Rattle.std.specs.Prelude.{⊤}
use Rattle.std.specs.List.{AllByRecursion}
use Rattle.std.specs.Str.{bytes_eq}
use Rattle.std.proofs.lemmas.Bool.{true≢false}
use Rattle.kb_text.specs.declared.fault.K.{K}
use Rattle.kb_text.specs.declared.fault.K.TheVariants.{Unsupported}
use Rattle.kb_text.specs.declared.token.Kind.{Kind}
use Rattle.kb_text.specs.declared.token.Kind.TheVariants.{Word, Int, Sign, Procedure}
use Rattle.kb_text.specs.Pieces.{WordText, IsPiece}
use Rattle.kb_text.specs.Depth.{Around}
use Rattle.kb_text.specs.Tokens.{IsTokenAt, Lexeme, Outcome, TokensFrom, nothing, gap, token, token_before, refused}
use Rattle.kb_text.specs.Tokens.{stuck, unsupported_words, is_word_of, is_unsupported, own_refusal_of, first_refusal}
use Rattle.kb_text.specs.Tokens.{refusal_of}
use Rattle.kb_text.proofs.Spans.{token_spells}
use Rattle.grammar.specs.declared.terminal.Terminal.{Terminal}
use Rattle.grammar.specs.declared.terminal.Terminal.TheVariants as t
use Rattle.grammar.specs.Items.{single_terminal, longer_terminal, sign_terminal, terminal_of, tok_of, IsTokens}
use Rattle.grammar.specs.Terminals.{Tok, tok_at, mark, word, symbol_of}
use Rattle.reading_laws.specs.Words.{IsFreeWord}

-- ---- tokens of the text

abbrev IsWordText : Kind → List ℕ → Type 0
IsWordText Word text = IsPiece WordText text × (is_word_of unsupported_words text ≡ false)
IsWordText Int text = ⊤
IsWordText Sign text = ⊤
IsWordText Procedure text = ⊤

abbrev IsLexemeRead : Lexeme → Type 0
IsLexemeRead l = IsWordText l.kind l.text

own_is_none : (own later : Option K) → first_refusal own later ≡ None → own ≡ None
own_is_none None later e = refl
own_is_none (Some c) later e = absurd (cc)

unless_refused : (b : Bool) → (if b then Some Unsupported else None) ≡ None → b ≡ false
unless_refused true e = absurd (cc)
unless_refused false e = refl

first_false : (b c : Bool) → (if b then true else c) ≡ false → b ≡ false
first_false true c e = absurd (true≢false e)
first_false false c e = refl

supported : (text behind : List ℕ) → own_refusal_of Word text behind ≡ None → is_word_of unsupported_words text ≡ false
supported text behind e = first_false (is_word_of unsupported_words text) _
    (unless_refused (is_unsupported text behind) e)

word_read : (s : Around) (in_braces : Bool) (k : Kind) (bytes : List ℕ) (n : ℕ) → IsTokenAt in_braces bytes k n
    → refusal_of s k (take n bytes) (drop n bytes) ≡ None → IsWordText k (take n bytes)
word_read s in_braces Word bytes n at fits = (
  token_spells in_braces bytes Word n at,
  supported (take n bytes) (drop n bytes)
      (own_is_none (own_refusal_of Word (take n bytes) (drop n bytes)) _ fits),
)
word_read s in_braces Int bytes n at fits = tt
word_read s in_braces Sign bytes n at fits = tt
word_read s in_braces Procedure bytes n at fits = tt

lexemes_read : {s : Around} {p : ℕ} {bytes : List ℕ} {r : Outcome} → TokensFrom s p bytes r
    → IfOk r (AllByRecursion IsLexemeRead)
lexemes_read nothing = tt
lexemes_read (gap g l rest) = lexemes_read rest
lexemes_read (token {s = s} {bytes = bytes} n k at fits rest) =
    (word_read s s.layer.in_braces k bytes n at fits, lexemes_read rest)
lexemes_read (token_before n k at fits rest) = tt
lexemes_read (refused n k at why) = tt
lexemes_read (stuck none) = tt

-- ---- tokens of the grammar

abbrev pub IsTokenRead : Tok → Type 0
IsTokenRead (tok_at (mark s) p) = ⊤
IsTokenRead (tok_at (word n) p) = IsFreeWord n

abbrev pub AreRead : List Tok → Type 0
AreRead ts = AllByRecursion IsTokenRead ts

-- no sign is a word
no_word_if : (b : Bool) (x y : Terminal) → x ≢ t.Word → y ≢ t.Word → (if b then x else y) ≢ t.Word
no_word_if true x y h k = h
no_word_if false x y h k = k

longer_no_word : (text : List ℕ) → longer_terminal text ≡ t.Word → ⊥
longer_no_word text =
    no_word_if (bytes_eq text (codes "=>")) _ _ (λ e. cc) (no_word_if (bytes_eq text (codes "<=")) _ _ (λ e. cc)
    (no_word_if (bytes_eq text (codes "=<")) _ _ (λ e. cc) (no_word_if (bytes_eq text (codes ">=")) _ _ (λ e. cc)
    (no_word_if (bytes_eq text (codes "~=")) _ _ (λ e. cc) (no_word_if (bytes_eq text (codes "<-")) _ _ (λ e. cc)
    (no_word_if (bytes_eq text (codes "->")) _ _ (λ e. cc) (no_word_if (bytes_eq text (codes "..")) _ _ (λ e. cc)
    (λ e. cc))))))))

single_no_word : (b : ℕ) → single_terminal b ≡ t.Word → ⊥
unfolding single_terminal
single_no_word b =
    no_word_if (b == 123) _ _ (λ e. cc) (no_word_if (b == 125) _ _ (λ e. cc)
    (no_word_if (b == 40) _ _ (λ e. cc) (no_word_if (b == 41) _ _ (λ e. cc)
    (no_word_if (b == 91) _ _ (λ e. cc) (no_word_if (b == 93) _ _ (λ e. cc)
    (no_word_if (b == 58) _ _ (λ e. cc) (no_word_if (b == 59) _ _ (λ e. cc)
    (no_word_if (b == 44) _ _ (λ e. cc) (no_word_if (b == 46) _ _ (λ e. cc)
    (no_word_if (b == 33) _ _ (λ e. cc) (no_word_if (b == 63) _ _ (λ e. cc)
    (no_word_if (b == 126) _ _ (λ e. cc) (no_word_if (b == 38) _ _ (λ e. cc)
    (no_word_if (b == 124) _ _ (λ e. cc) (no_word_if (b == 61) _ _ (λ e. cc)
    (no_word_if (b == 60) _ _ (λ e. cc) (no_word_if (b == 62) _ _ (λ e. cc)
    (no_word_if (b == 43) _ _ (λ e. cc) (no_word_if (b == 45) _ _ (λ e. cc)
    (no_word_if (b == 42) _ _ (λ e. cc) (λ e. cc)))))))))))))))))))))

sign_no_word : (text : List ℕ) → sign_terminal text ≡ t.Word → ⊥
sign_no_word [] = longer_no_word []
sign_no_word (b ∷ []) = single_no_word b
sign_no_word (b ∷ c ∷ bs) = longer_no_word (b ∷ c ∷ bs)

-- a token is read, where its terminal is a word only if its text is a free one
by_terminal : (s : Terminal) (text : List ℕ) (p : ℕ) → (s ≡ t.Word → IsFreeWord text)
    → IsTokenRead (tok_at (symbol_of s text) p)
by_terminal t.Word text p h = h refl
by_terminal (t.Integer n) text p h = tt
by_terminal (t.Truth b) text p h = tt
by_terminal (t.Compare c) text p h = tt
by_terminal (t.Arrow a) text p h = tt
by_terminal t.And text p h = tt
by_terminal t.Or text p h = tt
by_terminal t.Not text p h = tt
by_terminal (t.Add a) text p h = tt
by_terminal t.Times text p h = tt
by_terminal t.Every text p h = tt
by_terminal t.Some text p h = tt
by_terminal t.Open text p h = tt
by_terminal t.Close text p h = tt
by_terminal t.OpenSquare text p h = tt
by_terminal t.CloseSquare text p h = tt
by_terminal t.OpenBrace text p h = tt
by_terminal t.CloseBrace text p h = tt
by_terminal t.Comma text p h = tt
by_terminal t.Colon text p h = tt
by_terminal t.Count text p h = tt
by_terminal (t.Aggregate a) text p h = tt
by_terminal (t.Outer o) text p h = tt

by_kind : (k : Kind) (text : List ℕ) → IsWordText k text → terminal_of k text ≡ t.Word → IsFreeWord text
by_kind Word text h e = record { spelled = h.0; read = h.1; free = e }
by_kind Int text h e = absurd (cc)
by_kind Sign text h e = absurd (sign_no_word text e)
by_kind Procedure text h e = absurd (cc)

tokens_read : (ls : List Lexeme) → AllByRecursion IsLexemeRead ls → AreRead (map tok_of ls)
tokens_read [] h = tt
tokens_read (l ∷ ls) h = (
  by_terminal (terminal_of l.kind l.text) l.text l.start
      (by_kind l.kind l.text h.0),
  tokens_read ls h.1,
)

pub are_read : (src : List ℕ) (ts : List Tok) → IsTokens src ts → AreRead ts
are_read src ts scanned = subst AreRead (sym scanned.same) (tokens_read scanned.lexemes (lexemes_read scanned.scanned))
