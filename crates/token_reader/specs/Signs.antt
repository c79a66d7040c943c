-- Which token comes next, and what a reader of one token returns.
use Rattle.std.specs.Prelude.{◌≡◌, ℕ, List, [], ◌∷◌, Option, Some, None, Result, Ok, Err}
use Rattle.std.specs.Borrow.{Bor}
use Rattle.grammar.specs.declared.stops.ReadError.{ReadError}
use Rattle.grammar.specs.declared.stops.ReadError.TheVariants.{Memory, Stuck}
use Rattle.grammar.specs.declared.terminal.Terminal.{Terminal}
use Rattle.grammar.specs.declared.terminal.Terminal.TheVariants as t
use Rattle.grammar.specs.declared.terminal.Item.{Item}
use Rattle.grammar.specs.declared.raw.RawName.{RawName}
use Rattle.grammar.specs.Terminals.{Symbol, Tok, tok_at, mark, word, toks, place_of}
use Rattle.grammar.specs.Spelling.{put_name}
use Rattle.grammar.specs.BlockSpelling.{put_sign}
use Rattle.grammar.specs.View.{name_view}

-- the next token without its place, if one comes
abbrev pub next : List Tok → Option Symbol
next [] = None
next (tok_at s p ∷ ts) = Some s

-- a token without content of its own: no word, integer, truth value or aggregate
abbrev pub IsSign : Terminal → Type 0
IsSign t.Word = ⊥
IsSign (t.Integer n) = ⊥
IsSign (t.Truth b) = ⊥
IsSign (t.Aggregate a) = ⊥
IsSign _ = Unit {0}

-- this sign does not come
abbrev pub No : Terminal → Option Symbol → Type 0
No t s = s ≡ Some (mark t) → ⊥

-- this sign comes
abbrev pub Is : Terminal → Option Symbol → Type 0
Is t s = s ≡ Some (mark t)

-- a word comes that is not reserved
abbrev pub AWord : Option Symbol → Type 0
AWord (Some (word w)) = Unit {0}
AWord _ = ⊥

-- refused, since what comes is not as P says
abbrev pub Absent : (Option Symbol → Type 0) → List Tok → ℕ → ReadError → Type 0
Absent P ts len Memory = Unit {0}
Absent P ts len (Stuck place) = (P (next ts) → ⊥) × (place ≡ place_of ts len)

-- a token that P allows, and those after it; or it is refused
abbrev pub TokenRead : {R A : Type 0} → (R → A) → (A → List Tok → List Tok) → (Option Symbol → Type 0) → List Tok → ℕ
    → Result (R × Bor (List Item)) ReadError → Type 0
TokenRead view put P ts len (Ok p) = ts ≡ put (view p.0) (toks p.1.now)
TokenRead view put P ts len (Err e) = Absent P ts len e

-- a place, or what it stands for
abbrev pub itself : {A : Type 0} → A → A
itself a = a

-- this sign, or it is refused
abbrev pub SignRead : Terminal → List Tok → ℕ → Result (ℕ × Bor (List Item)) ReadError → Type 0
SignRead t = TokenRead itself (put_sign t) (Is t)

-- a word that is not reserved, or it is refused
abbrev pub WordRead : List Tok → ℕ → Result (RawName × Bor (List Item)) ReadError → Type 0
WordRead = TokenRead name_view put_name AWord
