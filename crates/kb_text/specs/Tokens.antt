-- The tokens of a text, or its first refusal.
use Rattle.std.specs.Prelude.{◌≡◌, ℕ, ◌+◌, ◌*◌, ◌-◌, ◌≤◌, ◌<◌, ◌^◌, List, [], ◌∷◌, length, take, drop, map, Bool, true}
use Rattle.std.specs.Prelude.{false, nat_lt, nat_le, nat_eq, if◌then◌else◌, Option, Some, None, Result, Ok, Err, codes}
use Rattle.std.specs.Prelude.{slice_range, ◌⊎◌}
use Rattle.std.specs.Global.{Vec}
use Rattle.std.specs.List.{list_any, fold, starts_with}
use Rattle.std.specs.Str.{bytes_eq}
use Rattle.kb_text.specs.declared.fault.K.{K}
use Rattle.kb_text.specs.declared.fault.K.TheVariants.{Syntax, Unsupported, OutOfRange, TooDeep}
use Rattle.kb_text.specs.declared.fault.KbFault.{KbFault}
use Rattle.kb_text.specs.declared.fault.LexError.{LexError}
use Rattle.kb_text.specs.declared.fault.LexError.TheVariants as errors
use Rattle.kb_text.specs.declared.token.Kind.{Kind}
use Rattle.kb_text.specs.declared.token.Kind.TheVariants.{Word, Int, Sign, Procedure}
use Rattle.kb_text.specs.declared.token.Token.{Token}
use Rattle.kb_text.specs.Pieces.{Piece, WordText, IntText, SignText, IsGap, IsPiece, IsLongest, NothingBegins, cause_at}
use Rattle.kb_text.specs.Procedures.{begins_procedure, word_end, ProcedureEnds}
use Rattle.kb_text.specs.Depth.{Around, outermost, depth_of, after_token}

-- a token as contracts see it
pub record Lexeme : Type 0 where
  pub kind : Kind
  pub text : List ℕ
  pub start : ℕ
  pub stop : ℕ

abbrev pub lexeme_of : Token → Lexeme
lexeme_of t = record { kind = t.kind; text = t.text.now; start = t.start; stop = t.end }

abbrev pub lexemes : List Token → List Lexeme
lexemes ts = map lexeme_of ts

abbrev pub Outcome : Type 0
Outcome = Result (List Lexeme) KbFault

-- the token at the start: the longest piece, but a procedure goes on to its closing brace
abbrev pub IsTokenAt : Bool → List ℕ → Kind → ℕ → Type 0
IsTokenAt in_braces bytes Word n = IsLongest bytes WordText n × (begins_procedure in_braces bytes ≡ false)
IsTokenAt in_braces bytes Int n = IsLongest bytes IntText n
IsTokenAt in_braces bytes Sign n = IsLongest bytes SignText n
IsTokenAt in_braces bytes Procedure n = (begins_procedure in_braces bytes ≡ true)
    × ((m : ℕ) × ProcedureEnds bytes (Some m) × (n ≡ word_end bytes + m))

-- why neither a token nor a gap is at the start
abbrev pub NoTokenAt : Bool → List ℕ → K → Type 0
NoTokenAt in_braces bytes cause = (NothingBegins bytes × (cause ≡ cause_at bytes))
    ⊎ ((begins_procedure in_braces bytes ≡ true) × ProcedureEnds bytes None × (cause ≡ Syntax))

-- words of IDP3 that are not read here
abbrev pub unsupported_words : List (List ℕ)
unsupported_words = codes "partial" ∷ codes "prod" ∷ codes "include" ∷ codes "namespace" ∷ codes "LTCvocabulary" ∷ codes
    "factlist" ∷ codes "aspstructure" ∷ codes "fobdd" ∷ codes "query" ∷ codes "extern" ∷ codes "using" ∷ codes "string"
    ∷ codes "char" ∷ codes "float" ∷ []

-- those that are not read before an opening [
abbrev pub unsupported_chain_words : List (List ℕ)
unsupported_chain_words = codes "MIN" ∷ codes "MAX" ∷ codes "SUCC" ∷ []

-- those that are not read before an opening (
abbrev pub unsupported_call_words : List (List ℕ)
unsupported_call_words = codes "abs" ∷ []

abbrev pub is_word_of : List (List ℕ) → List ℕ → Bool
is_word_of words text = list_any (λ w. bytes_eq w text) words

-- a word that is refused, alone or by the byte after it
abbrev pub is_unsupported : List ℕ → List ℕ → Bool
is_unsupported text behind =
    if is_word_of unsupported_words text then true
    else (if is_word_of unsupported_chain_words text then starts_with nat_eq behind (codes "[")
    else (if is_word_of unsupported_call_words text then starts_with nat_eq behind (codes "(") else false))

-- the value of a list of digits
abbrev pub decimal : List ℕ → ℕ
decimal bs = fold (λ n b. 10 * n + (b - 48)) 0 bs

-- above 9,223,372,036,854,775,807
abbrev pub is_too_large : List ℕ → Bool
is_too_large text = nat_le (2 ^ 63) (decimal text)

-- why a token is refused for its own sake, with the bytes after it
abbrev pub own_refusal_of : Kind → List ℕ → List ℕ → Option K
own_refusal_of Word text behind = if is_unsupported text behind then Some Unsupported else None
own_refusal_of Int text behind = if is_too_large text then Some OutOfRange else None
own_refusal_of Sign text behind = None
own_refusal_of Procedure text behind = None

abbrev pub first_refusal : Option K → Option K → Option K
first_refusal None later = later
first_refusal (Some c) later = Some c

-- that, or else that it lies too deep
abbrev pub refusal_of : Around → Kind → List ℕ → List ℕ → Option K
refusal_of s kind text behind = first_refusal (own_refusal_of kind text behind) (if nat_lt 200 (depth_of s) then
    Some TooDeep else None)

abbrev pub lexeme : List ℕ → ℕ → Kind → ℕ → Lexeme
lexeme bytes p k n = record { kind = k; text = take n bytes; start = p; stop = p + n }

-- the tokens of the bytes that begin at place p, or the first refusal
pub data TokensFrom : Around → ℕ → List ℕ → Outcome → Type 0 where
  nothing : {s : Around} {p : ℕ} → TokensFrom s p [] (Ok [])
  gap : {s : Around} {p n : ℕ} {bytes : List ℕ} {x : Piece} {r : Outcome} → IsGap x → IsLongest bytes x n
      → TokensFrom s (p + n) (drop n bytes) r → TokensFrom s p bytes r
  token : {s : Around} {p : ℕ} {bytes : List ℕ} {ts : List Lexeme} (n : ℕ) (k : Kind)
      → IsTokenAt s.layer.in_braces bytes k n → refusal_of s k (take n bytes) (drop n bytes) ≡ None
      → TokensFrom (after_token s k (take n bytes)) (p + n) (drop n bytes) (Ok ts)
      → TokensFrom s p bytes (Ok (lexeme bytes p k n ∷ ts))
  token_before : {s : Around} {p : ℕ} {bytes : List ℕ} {f : KbFault} (n : ℕ) (k : Kind)
      → IsTokenAt s.layer.in_braces bytes k n → refusal_of s k (take n bytes) (drop n bytes) ≡ None
      → TokensFrom (after_token s k (take n bytes)) (p + n) (drop n bytes) (Err f) → TokensFrom s p bytes (Err f)
  refused : {s : Around} {p : ℕ} {bytes : List ℕ} {c : K} (n : ℕ) (k : Kind) → IsTokenAt s.layer.in_braces bytes k n
      → refusal_of s k (take n bytes) (drop n bytes) ≡ Some c → TokensFrom s p bytes
      (Err (record { cause = c; place = p }))
  stuck : {s : Around} {p b : ℕ} {bs : List ℕ} {c : K} → NoTokenAt s.layer.in_braces (b ∷ bs) c
      → TokensFrom s p (b ∷ bs) (Err (record { cause = c; place = p }))

-- what the call returns, unless memory ran out
abbrev pub Fails : LexError → List ℕ → Type 0
Fails errors.Memory src = Unit {0}
Fails (errors.Refused f) src = TokensFrom outermost 0 src (Err f)

abbrev pub TokensOf : List ℕ → Result (Vec Token) LexError → Type 0
TokensOf src (Ok v) = TokensFrom outermost 0 src (Ok (lexemes v.items))
TokensOf src (Err e) = Fails e src

-- each text is the slice of its span, and each span begins no earlier than the one before ends
abbrev pub SpansRise : ℕ → List ℕ → List Lexeme → Type 0
SpansRise from src [] = Unit {0}
SpansRise from src (t ∷ ts) = (from ≤ t.start) × (t.start < t.stop) × (t.stop ≤ length src)
    × (t.text ≡ slice_range src t.start t.stop) × SpansRise t.stop src ts

-- no token is deeper than 200, where the first stands here
abbrev pub AreShallow : Around → List Lexeme → Type 0
AreShallow s [] = Unit {0}
AreShallow s (t ∷ ts) = (depth_of s ≤ 200) × AreShallow (after_token s t.kind t.text) ts

-- what the text of each kind looks like; that of a procedure is passed over
abbrev pub IsSpellingOf : Kind → List ℕ → Type 0
IsSpellingOf Word text = IsPiece WordText text
IsSpellingOf Int text = IsPiece IntText text
IsSpellingOf Sign text = IsPiece SignText text
IsSpellingOf Procedure text = Unit {0}

-- so it is, and an integer is in range
abbrev pub IsSpelled : Lexeme → Type 0
IsSpelled t = IsSpellingOf t.kind t.text × (t.kind ≡ Int → decimal t.text < 2 ^ 63)
