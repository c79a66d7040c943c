-- Which tree a whole text is, or why it is none.
use Rattle.std.specs.Prelude.{◌≡◌, ℕ, List, length, Result, Ok, Err}
use Rattle.kb_text.specs.declared.fault.K.TheVariants.{Syntax}
use Rattle.kb_text.specs.declared.fault.KbFault.{KbFault}
use Rattle.kb_text.specs.Depth.{outermost}
use Rattle.kb_text.specs.Tokens.{TokensFrom}
use Rattle.grammar.specs.declared.error.KbError.{KbError}
use Rattle.grammar.specs.declared.error.KbError.TheVariants as errors
use Rattle.grammar.specs.declared.stops.ReadError.{ReadError}
use Rattle.grammar.specs.declared.stops.ReadError.TheVariants.{Memory, Stuck}
use Rattle.grammar.specs.Terminals.{Tok, place_of}
use Rattle.grammar.specs.Texts.{ParsesTo, FirstStuck}
use Rattle.grammar.specs.Items.{IsTokens}

-- The tokens are no tree's text: the fault stands at the first with which no such text goes on, or at the text's end.
pub record IsStuck {A : Type 0} (put : A → List Tok → List Tok) (Fine : A → Type 0) (ts : List Tok) (len : ℕ)
    (f : KbFault) : Type 0 where
  pub rest : List Tok
  pub first : FirstStuck put Fine ts rest
  pub cause : f.cause ≡ Syntax
  pub place : f.place ≡ place_of rest len

-- what the text is: a tree's spelling, refused before its tokens are all found, or refused at one of them
pub data Reads {A : Type 0} (put : A → List Tok → List Tok) (Fine : A → Type 0) (src : List ℕ) : Result A KbFault
    → Type 0 where
  parsed : (ts : List Tok) (a : A) → IsTokens src ts → ParsesTo put Fine ts a → Reads put Fine src (Ok a)
  unscanned : (f : KbFault) → TokensFrom outermost 0 src (Err f) → Reads put Fine src (Err f)
  ungrammatical : (ts : List Tok) (f : KbFault) → IsTokens src ts → IsStuck put Fine ts (length src) f
      → Reads put Fine src (Err f)

-- that is what a reader returns, with its own trees; running out of memory is always allowed
abbrev pub Answers : {R A : Type 0} → (R → A) → (A → List Tok → List Tok) → (A → Type 0) → List ℕ
    → Result R KbError → Type 0
Answers view put Fine src (Ok r) = Reads put Fine src (Ok (view r))
Answers view put Fine src (Err errors.Memory) = Unit {0}
Answers view put Fine src (Err (errors.Refused f)) = Reads put Fine src (Err f)

-- the same of a text whose tokens are found
abbrev pub Parses : {R A : Type 0} → (R → A) → (A → List Tok → List Tok) → (A → Type 0) → List Tok → ℕ
    → Result R KbError → Type 0
Parses view put Fine ts len (Ok r) = ParsesTo put Fine ts (view r)
Parses view put Fine ts len (Err errors.Memory) = Unit {0}
Parses view put Fine ts len (Err (errors.Refused f)) = IsStuck put Fine ts len f

-- a reader that stands still refuses the text there
abbrev pub refusal_of : ReadError → KbError
refusal_of Memory = errors.Memory
refusal_of (Stuck place) = errors.Refused (record { cause = Syntax; place = place })
