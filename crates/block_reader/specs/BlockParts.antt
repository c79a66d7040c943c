-- What a reader of a part of a block returns.
use Rattle.std.specs.Prelude.{◌≡◌, ℕ, List, ◌++◌, Option, Some, ◌⊎◌, Result, Ok, Err}
use Rattle.std.specs.Borrow.{Bor}
use Rattle.grammar.specs.declared.stops.ReadError.{ReadError}
use Rattle.grammar.specs.declared.stops.ReadError.TheVariants.{Memory, Stuck}
use Rattle.grammar.specs.declared.terminal.Terminal.TheVariants as t
use Rattle.grammar.specs.declared.terminal.Outer.TheVariants as o
use Rattle.grammar.specs.declared.terminal.Item.{Item}
use Rattle.grammar.specs.Terminals.{Symbol, Tok, mark, toks, place_of}
use Rattle.grammar.specs.Texts.{SameHead}
use Rattle.token_reader.specs.Signs.{next, No, Is, AWord, Absent}

-- anything may come
abbrev pub Anything : Option Symbol → Type 0
Anything s = Unit {0}

-- what may follow a declaration: another one, or the closing brace
abbrev pub EndsDeclaration : Option Symbol → Type 0
EndsDeclaration s = Is t.CloseBrace s ⊎ (Is (t.Outer o.Type) s ⊎ AWord s)

-- what may follow the arguments of a symbol: its result, or what follows its declaration
abbrev pub EndsArguments : Option Symbol → Type 0
EndsArguments s = Is t.Colon s ⊎ EndsDeclaration s

-- neither a comma nor a semicolon comes
abbrev pub NoSeparator : Option Symbol → Type 0
NoSeparator s = No t.Comma s × No (t.Outer o.Semicolon) s

-- neither true nor false comes
abbrev pub NoTruth : Option Symbol → Type 0
NoTruth (Some (mark (t.Truth b))) = ⊥
NoTruth _ = Unit {0}

-- what may follow a row: a semicolon or the closing brace
abbrev pub EndsRow : Option Symbol → Type 0
EndsRow s = Is (t.Outer o.Semicolon) s ⊎ Is t.CloseBrace s

-- what may follow the items of a row: a bracket, an arrow, or what follows a row
abbrev pub EndsItems : Option Symbol → Type 0
EndsItems s = Is t.Close s ⊎ (Is (t.Outer o.To) s ⊎ EndsRow s)

-- what may follow an item: a comma, or what follows all
abbrev pub EndsItem : Option Symbol → Type 0
EndsItem s = Is t.Comma s ⊎ EndsItems s

-- what may follow a head: its body, or the end of the rule
abbrev pub EndsHead : Option Symbol → Type 0
EndsHead s = Is (t.Outer o.If) s ⊎ Is (t.Outer o.Dot) s

-- No A is a prefix of another one, if what follows it is as Next says: the longest at a place is the only one there.
abbrev pub OneAtAPlace : {A : Type 0} → (A → List Tok → List Tok) → (A → Type 0) → (Option Symbol → Type 0) → Type 0
OneAtAPlace {A} put Fine Next = (a b : A) (m n : List Tok) → Fine a → Fine b → Next (next m) → Next (next n)
    → put a m ≡ put b n → (a ≡ b) × (m ≡ n)

-- The first of rest is the first token with which no text of an A goes on, if what follows it is as Next says.
pub record StuckIn {A : Type 0} (put : A → List Tok → List Tok) (Fine : A → Type 0) (Next : Option Symbol → Type 0)
    (ts rest : List Tok) : Type 0 where
  pub front : List Tok
  pub split : ts ≡ front ++ rest
  pub dead : (a : A) (more after : List Tok) → SameHead rest more → Fine a → Next (next after)
      → front ++ more ≡ put a after → ⊥
  pub viable : (after : List Tok) → (a : A) × (more : List Tok) × Fine a × (front ++ more ≡ put a after)

abbrev pub StuckAt : {A : Type 0} → (A → List Tok → List Tok) → (A → Type 0) → (Option Symbol → Type 0) → List Tok → ℕ
    → ReadError → Type 0
StuckAt put Fine Next ts len Memory = Unit {0}
StuckAt put Fine Next ts len (Stuck place) = (rest : List Tok) × StuckIn put Fine Next ts rest
    × (place ≡ place_of rest len)

-- an A and the tokens after it, which are as Next says; or where its text is stuck
abbrev pub PartRead : {R A : Type 0} → (R → A) → (A → List Tok → List Tok) → (A → Type 0) → (Option Symbol → Type 0)
    → List Tok → ℕ → Result (R × Bor (List Item)) ReadError → Type 0
PartRead view put Fine Next ts len (Ok p) = (ts ≡ put (view p.0) (toks p.1.now)) × Fine (view p.0)
    × Next (next (toks p.1.now))
PartRead view put Fine Next ts len (Err e) = StuckAt put Fine Next ts len e

-- what comes is as P says, or it is refused
abbrev pub EndsAs : (Option Symbol → Type 0) → List Tok → ℕ → Result (Unit {0}) ReadError → Type 0
EndsAs P ts len (Ok u) = P (next ts)
EndsAs P ts len (Err e) = Absent P ts len e
