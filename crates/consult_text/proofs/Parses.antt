-- Lines and the commands that are written in them.
use Rattle.std.proofs.Common.{◌≡◌, ℕ, suc, ◌<◌, ◌^◌, List, [], ◌∷◌, map, length, true, false, Ok, Err, Option}
use Rattle.std.proofs.Common.{Some, None, refl, sym, ap, ◌∙◌, subst, arith}
use Rattle.std.specs.List.{All, AllByRecursion}
use Rattle.kb_text.specs.declared.fault.KbFault.{KbFault}
use Rattle.kb_text.specs.declared.token.Kind.{Kind}
use Rattle.kb_text.specs.declared.token.Kind.TheVariants.{Word, Int, Sign, Procedure}
use Rattle.kb_text.specs.declared.token.Token.{Token}
use Rattle.kb_text.specs.Depth.{outermost}
use Rattle.kb_text.specs.Tokens.{Lexeme, Outcome, TokensFrom, IsSpelled, lexemes, decimal}
use Rattle.consult_text.specs.declared.written.CommandText.{CommandText}
use Rattle.consult_text.specs.Written as written
use Rattle.consult_text.specs.Written.{Tok, word, digits, sign, procedure, WrittenElem, named, integer, WrittenLiteral}
use Rattle.consult_text.specs.Written.{atom, equation, WrittenCommand, put_elem, put_further, put_args, put_literal}
use Rattle.consult_text.specs.Written.{put_command, equals, IsWellFormed}
use Rattle.consult_text.specs.Lines.{tok, tok_of, IsWritten, IsBlank}
use Rattle.consult_text.specs.Parse.{toks, close, dot, ParsesCommand, command_view}
use Rattle.consult_text.specs.Ranges.{IsInRange, HasRange, HasRanges}

-- the line has one outcome of its tokens
pub record HasOneOutcome (line : List ℕ) : Type 0 where
  pub outcome : Outcome
  pub tokens : TokensFrom outermost 0 line outcome
  pub only : (t : Outcome) → TokensFrom outermost 0 line t → t ≡ outcome

pub one_outcome : (line : List ℕ)
    → ((src : List ℕ) → (r : Outcome) × TokensFrom outermost 0 src r × ((t : Outcome) → TokensFrom outermost 0 src t
    → t ≡ r)) → HasOneOutcome line
one_outcome line one = let o = one line in record { outcome = o.0; tokens = o.1; only = o.2 }

pub same_lexemes : {line : List ℕ} (ls ls' : List Lexeme) → HasOneOutcome line → TokensFrom outermost 0 line (Ok ls)
    → TokensFrom outermost 0 line (Ok ls') → ls ≡ ls'
same_lexemes ls ls' one h h' = let e = one.only (Ok ls) h in let e' = one.only (Ok ls') h' in cc

pub refused_tokens : {line : List ℕ} (f : KbFault) → HasOneOutcome line → TokensFrom outermost 0 line (Err f)
    → (w : WrittenCommand) → IsWritten line w → ⊥
refused_tokens f one h w is = let e = one.only (Err f) h in let e' = one.only (Ok is.lexemes) is.tokens in absurd (cc)

pub no_spelling : {line : List ℕ} (ts slice : List Token) (found : Option CommandText) → HasOneOutcome line
    → TokensFrom outermost 0 line (Ok (lexemes ts)) → slice ≡ ts → ParsesCommand (toks slice) found → found ≡ None
    → (w : WrittenCommand) → IsWritten line w → ⊥
no_spelling ts slice found one h same cut is w written =
    let none = subst (ParsesCommand (toks slice)) is cut in
    none w written.formed (ap toks same
    ∙ (ap (map tok_of) (sym (same_lexemes written.lexemes (lexemes ts) one written.tokens h)) ∙ written.spelled))

-- an integer's digits have a value of 63 bits
abbrev FitsTok : Tok → Type 0
FitsTok (word text) = Unit {0}
FitsTok (digits text) = decimal text < 2 ^ 63
FitsTok (sign text) = Unit {0}
FitsTok procedure = Unit {0}

fits_tok : (k : Kind) (text : List ℕ) → (k ≡ Int → decimal text < 2 ^ 63) → FitsTok (tok k text)
fits_tok Word text h = tt
fits_tok Int text h = h refl
fits_tok Sign text h = tt
fits_tok Procedure text h = tt

fits_all : (ls : List Lexeme) → All IsSpelled ls → AllByRecursion FitsTok (map tok_of ls)
fits_all [] h = tt
fits_all (l ∷ ls) h = (
  fits_tok l.kind l.text (h 0 l (omega arith)).1,
  fits_all ls
      (λ k d lt. h (suc k) d (omega arith)),
)

elem_fits : (e : WrittenElem) (ts : List Tok) → AllByRecursion FitsTok (put_elem e ts)
    → IsInRange e × AllByRecursion FitsTok ts
elem_fits (named text) ts h = (tt, h.1)
elem_fits (integer true text) ts h = (h.1.0, h.1.1)
elem_fits (integer false text) ts h = (h.0, h.1)

further_fits : (es : List WrittenElem) (ts : List Tok) → AllByRecursion FitsTok (put_further es ts)
    → AllByRecursion IsInRange es × AllByRecursion FitsTok ts
further_fits [] ts h = (tt, h)
further_fits (e ∷ es) ts h =
    let one = elem_fits e (put_further es ts) h.1 in
    let more = further_fits es ts one.1 in
    ((one.0, more.0), more.1)

args_fit : (es : List WrittenElem) (ts : List Tok) → AllByRecursion FitsTok (put_args es ts)
    → AllByRecursion IsInRange es × AllByRecursion FitsTok ts
args_fit [] ts h = (tt, h)
args_fit (e ∷ es) ts h =
    let one = elem_fits e (put_further es (close ts)) h.1 in
    let more = further_fits es (close ts) one.1 in
    ((one.0, more.0), more.1.1)

literal_fits : (l : WrittenLiteral) → AllByRecursion FitsTok (put_literal l dot) → HasRange l
literal_fits (atom true name args) h = (args_fit args dot h.1).0
literal_fits (atom false name args) h = (args_fit args dot h.1.1).0
literal_fits (equation positive name args value) h =
    let some = args_fit args (sign (equals positive) ∷ put_elem value dot) h.1 in
    (some.0, (elem_fits value dot some.1.1).0)

command_fits : (w : WrittenCommand) → IsWellFormed w → AllByRecursion FitsTok (put_command w) → HasRanges w
command_fits (written.assert l) k h = literal_fits l h.1
command_fits (written.retract l) k h = literal_fits l h.1
command_fits written.reset k h = tt
command_fits written.choices k h = tt
command_fits written.model k h = tt
command_fits (written.models text) k h = k.most
command_fits written.propagate k h = tt
command_fits (written.minimize name) k h = tt
command_fits (written.explain l) k h = literal_fits l h.1
command_fits written.why k h = tt
command_fits (written.budget text) k h = h.1.0
command_fits written.unlimited k h = tt
command_fits written.forget k h = tt

pub is_written : {line : List ℕ} (ts slice : List Token) (found : Option CommandText) (c : CommandText)
    → TokensFrom outermost 0 line (Ok (lexemes ts)) → All IsSpelled (lexemes ts) → slice ≡ ts
    → ParsesCommand (toks slice) found → found ≡ Some c
    → IsWritten line (command_view c) × HasRanges (command_view c)
is_written {line} ts slice found c h spelled same cut some =
    let spell = subst (ParsesCommand (toks slice)) some cut in
    let whole : toks ts ≡ put_command (command_view c) = ap toks (sym same) ∙ spell.0 in (
      record { lexemes = lexemes ts; tokens = h; spelled = whole; formed = spell.1 },
      command_fits (command_view c) spell.1 (subst (AllByRecursion FitsTok) whole (fits_all (lexemes ts) spelled)),
    )

no_tokens : (ts : List Token) → length ts ≡ 0 → lexemes ts ≡ []
no_tokens [] e = refl
no_tokens (t ∷ ts) e = absurd (omega (arith, e))

-- a line without tokens is blank
pub is_blank : {line : List ℕ} (ts : List Token) → TokensFrom outermost 0 line (Ok (lexemes ts)) → length ts ≡ 0
    → IsBlank line
is_blank {line} ts h none = subst (λ (ls : List Lexeme). TokensFrom outermost 0 line (Ok ls)) (no_tokens ts none) h

-- and one with some is not
pub not_blank : {line : List ℕ} (ts : List Token) → HasOneOutcome line → TokensFrom outermost 0 line (Ok (lexemes ts))
    → (length ts ≡ 0 → ⊥) → IsBlank line → ⊥
not_blank [] one h some blank = some refl
not_blank (t ∷ ts) one h some blank = let e = same_lexemes (lexemes (t ∷ ts)) [] one h blank in absurd (cc)

-- nor is one whose tokens are refused
pub refused_blank : {line : List ℕ} (f : KbFault) → HasOneOutcome line → TokensFrom outermost 0 line (Err f)
    → IsBlank line → ⊥
refused_blank f one h blank = let e = one.only (Err f) h in let e' = one.only (Ok []) blank in absurd (cc)
