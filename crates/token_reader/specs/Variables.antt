-- What the reader of the further variables of a list returns.
use Rattle.std.specs.Prelude.{◌≡◌, ℕ, List, [], ◌∷◌, Option, Result, Ok, Err}
use Rattle.std.specs.Borrow.{Bor}
use Rattle.grammar.specs.declared.stops.ReadError.{ReadError}
use Rattle.grammar.specs.declared.terminal.Terminal.TheVariants as t
use Rattle.grammar.specs.declared.terminal.Item.{Item}
use Rattle.grammar.specs.Terminals.{Tok, sign, toks}
use Rattle.grammar.specs.Trees.{Var}
use Rattle.grammar.specs.Spelling.{put_var, put_vars}
use Rattle.grammar.specs.View.{vars_of}
use Rattle.token_reader.specs.Machine.{Frame, vars_first, vars_end, colon, on, run}
use Rattle.token_reader.specs.Parts.{Fails, at_vars}
use Rattle.token_reader.specs.Binders.{put_comma, put_binder, Whole}

-- this variable and these further ones, each with the comma before it, and then these tokens
abbrev pub front_vars : Var → List (Option ℕ × Var) → List Tok → List Tok
front_vars v [] ts = put_var v ts
front_vars v (x ∷ xs) ts = put_var v (put_comma x.0 (front_vars x.1 xs ts))

-- the variables so far, after which a further one or the colon may come
pub record VarsAre (ts : List Tok) (v : Var) (xs : List (Option ℕ × Var)) (rest : List Tok) : Type 0 where
  pub spelled : ts ≡ front_vars v xs rest
  pub runs : (σ : List Frame) → run (on (vars_first ∷ colon ∷ σ)) ts ≡ run (on (vars_end ∷ colon ∷ σ)) rest

-- the rest of variables that begin with this one, and the colon after them, where the further ones came to these
abbrev pub MoreVars : List Tok → Var → List (Option ℕ × Var) → ℕ → Result (ℕ × Bor (List Item)) ReadError → Type 0
MoreVars ts v xs len (Ok p) = ts ≡ put_vars (vars_of v xs) (sign t.Colon p.0 ∷ toks p.1.now)
MoreVars ts v xs len (Err e) = Fails at_vars put_binder Whole ts len e
