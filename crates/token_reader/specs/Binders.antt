-- What the readers of names, variables and numbers return.
use Rattle.std.specs.Prelude.{◌≡◌, ℕ, List, ◌∷◌, Option, Some, None, Result, Ok, Err}
use Rattle.std.specs.Borrow.{Bor}
use Rattle.grammar.specs.declared.stops.ReadError.{ReadError}
use Rattle.grammar.specs.declared.stops.ReadError.TheVariants.{Memory, Stuck}
use Rattle.grammar.specs.declared.terminal.Terminal.TheVariants as t
use Rattle.grammar.specs.declared.terminal.Item.{Item}
use Rattle.grammar.specs.declared.raw.RawVar.{RawVar}
use Rattle.grammar.specs.declared.raw.RawVars.{RawVars}
use Rattle.grammar.specs.declared.raw.RawNumber.{RawNumber}
use Rattle.grammar.specs.Terminals.{Tok, tok_at, mark, word, sign, toks, place_of}
use Rattle.grammar.specs.Trees.{Vars, Number}
use Rattle.grammar.specs.Spelling.{put_var, put_vars, put_number}
use Rattle.grammar.specs.Fine.{FineNumber}
use Rattle.grammar.specs.View.{var_view, vars_view, number_view}
use Rattle.token_reader.specs.Machine.{Frame, vars_first, vars_end, number_first, colon, on, run}
use Rattle.token_reader.specs.Signs.{next, AWord}
use Rattle.token_reader.specs.Parts.{Fails, at_vars, at_number, NoInteger}

-- variables, and the colon after them
pub data Binder : Type 0 where
  binder : Vars → ℕ → Binder

abbrev pub put_binder : Binder → List Tok → List Tok
put_binder (binder vs q) ts = put_vars vs (sign t.Colon q ∷ ts)

abbrev pub Whole : {A : Type 0} → A → Type 0
Whole a = Unit {0}

abbrev pub VarRead : List Tok → ℕ → Result (RawVar × Bor (List Item)) ReadError → Type 0
VarRead ts len (Ok p) = (ts ≡ put_var (var_view p.0) (toks p.1.now))
    × ((σ : List Frame) → run (on (vars_first ∷ colon ∷ σ)) ts ≡ run (on (vars_end ∷ colon ∷ σ)) (toks p.1.now))
VarRead ts len (Err e) = Fails at_vars put_binder Whole ts len e

abbrev pub BinderRead : List Tok → ℕ → Result (RawVars × ℕ × Bor (List Item)) ReadError → Type 0
BinderRead ts len (Ok p) = ts ≡ put_binder (binder (vars_view p.0) p.1) (toks p.2.now)
BinderRead ts len (Err e) = Fails at_vars put_binder Whole ts len e

-- a number of instances before them
pub data Counted : Type 0 where
  counted : Number → Binder → Counted

abbrev pub put_counted : Counted → List Tok → List Tok
put_counted (counted n b) ts = put_number n (put_binder b ts)

abbrev pub FineCounted : Counted → Type 0
FineCounted (counted n b) = FineNumber n

abbrev pub NumberRead : List Tok → ℕ → Result (RawNumber × Bor (List Item)) ReadError → Type 0
NumberRead ts len (Ok p) = (ts ≡ put_number (number_view p.0) (toks p.1.now)) × FineNumber (number_view p.0)
    × ((σ : List Frame) → run (on (number_first ∷ σ)) ts ≡ run (on (vars_first ∷ σ)) (toks p.1.now))
NumberRead ts len (Err e) = Fails at_number put_counted FineCounted ts len e

-- the comma before a variable, if there is one
abbrev pub put_comma : Option ℕ → List Tok → List Tok
put_comma None ts = ts
put_comma (Some p) ts = sign t.Comma p ∷ ts

-- a further variable is ahead, after a comma or not
abbrev pub VarAhead : List Tok → Option ℕ → List Tok → Type 0
VarAhead ts None us = (ts ≡ us) × AWord (next us)
VarAhead ts (Some p) us = ts ≡ sign t.Comma p ∷ us

-- neither a comma nor a word comes
abbrev pub NoVar : List Tok → Type 0
NoVar (tok_at (word w) p ∷ ts) = ⊥
NoVar (tok_at (mark t.Comma) p ∷ ts) = ⊥
NoVar _ = Unit {0}

abbrev pub IntegerRead : List Tok → ℕ → Result (ℕ × ℕ × Bor (List Item)) ReadError → Type 0
IntegerRead ts len (Ok p) = ts ≡ sign (t.Integer p.0) p.1 ∷ toks p.2.now
IntegerRead ts len (Err Memory) = ⊥
IntegerRead ts len (Err (Stuck place)) = NoInteger ts × (place ≡ place_of ts len)
