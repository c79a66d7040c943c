-- What the readers of formulas and terms return.
use Rattle.std.specs.Prelude.{◌≡◌, ◌<◌, ◌≤◌, ℕ, List, [], ◌∷◌, length, Bool, false, Result, Ok, Err, IfOk}
use Rattle.std.specs.Borrow.{Bor}
use Rattle.std.specs.declared.alloc.Global.{Global}
use Rattle.grammar.specs.declared.stops.ReadError.{ReadError}
use Rattle.grammar.specs.declared.terminal.Item.{Item}
use Rattle.grammar.specs.declared.raw.RawFormula.{RawFormula}
use Rattle.grammar.specs.declared.raw.RawOr.{RawOr}
use Rattle.grammar.specs.declared.raw.RawAnd.{RawAnd}
use Rattle.grammar.specs.declared.raw.RawUnary.{RawUnary}
use Rattle.grammar.specs.declared.raw.RawTermTree.{RawTermTree}
use Rattle.grammar.specs.declared.raw.RawProduct.{RawProduct}
use Rattle.grammar.specs.declared.raw.RawFactor.{RawFactor}
use Rattle.grammar.specs.declared.raw.RawApp.{RawApp}
use Rattle.formula_reader.specs.declared.kinds.Pair.{Pair}
use Rattle.formula_reader.specs.declared.kinds.Operand.{Operand}
use Rattle.formula_reader.specs.declared.kinds.Operand.TheVariants as operand
use Rattle.formula_reader.specs.declared.kinds.Content.{Content}
use Rattle.formula_reader.specs.declared.kinds.Content.TheVariants as content
use Rattle.grammar.specs.declared.terminal.Terminal.TheVariants as t
use Rattle.grammar.specs.declared.raw.RawOpening.{RawOpening}
use Rattle.grammar.specs.declared.terminal.Adding.TheVariants.{Minus}
use Rattle.grammar.specs.Terminals.{Tok, sign, toks}
use Rattle.grammar.specs.Trees.{Formula, alone, Or, one, And, single, Unary, not, prim, Prim, group, atom, Term}
use Rattle.grammar.specs.Trees.{product, Product, factor, Factor, value, brackets, negative, App, constant, empty}
use Rattle.grammar.specs.Trees.{apply, Vars}
use Rattle.grammar.specs.Spelling.{put_formula, put_or, put_and, put_unary, put_prim, put_term, put_product}
use Rattle.grammar.specs.Spelling.{put_factor, put_app, put_vars}
use Rattle.grammar.specs.Fine.{closed_unary, closed_and, closed_or, FineFormula, FineOr, FineAnd, FineUnary, FineTerm}
use Rattle.grammar.specs.Fine.{FineProduct, FineFactor, FineApp}
use Rattle.token_reader.specs.Sorts.{app_formula, app_unary, app_term}
use Rattle.token_reader.specs.Machine.{Chain, fresh, unsettled, in_formula, either, brace, vars_first, colon}
use Rattle.token_reader.specs.Modes.{mode_formula, mode_or, mode_and, mode_unary, sort_formula, sort_or, sort_and}
use Rattle.token_reader.specs.Modes.{sort_unary}
use Rattle.grammar.specs.View.{formula_view, or_view, and_view, unary_view, term_view, product_view, factor_view}
use Rattle.grammar.specs.View.{app_view, vars_view}
use Rattle.token_reader.specs.Parts.{EndsFactor, EndsTerm, EndsPrim, Halts, unaries, ands, ors, Behind, Fails}
use Rattle.token_reader.specs.Parts.{at_sentence, at_bracket, at_entry, at_operand, at_unary, at_factor, at_either, At}
use Rattle.token_reader.specs.Signs.{next, No}
use Rattle.token_reader.specs.Binders.{Whole}

-- an operand in these pairs of brackets, the innermost first
abbrev pub wrap_prim : List Pair → Prim → Prim
wrap_prim [] x = x
wrap_prim (b ∷ bs) x = wrap_prim bs (group b.start (alone (one (single (prim x)))) b.close)

abbrev pub wrap_factor : List Pair → Factor → Factor
wrap_factor [] x = x
wrap_factor (b ∷ bs) x = wrap_factor bs (brackets b.start (product (factor x)) b.close)

-- a unary was read up to here
pub record UnaryIs (ts : List Tok) (u : Unary) (closed : Bool) (rest : List Tok) : Type 0 where
  pub spelled : ts ≡ put_unary u rest
  pub fine : FineUnary u
  pub ends : closed ≡ closed_unary u
  pub behind : Behind unaries closed (λ c. mode_unary c u) (sort_unary u) rest

pub record AndIs (ts : List Tok) (a : And) (closed : Bool) (rest : List Tok) : Type 0 where
  pub spelled : ts ≡ put_and a rest
  pub fine : FineAnd a
  pub ends : closed ≡ closed_and a
  pub behind : Behind ands closed (λ c. mode_and c a) (sort_and a) rest

pub record OrIs (ts : List Tok) (o : Or) (closed : Bool) (rest : List Tok) : Type 0 where
  pub spelled : ts ≡ put_or o rest
  pub fine : FineOr o
  pub ends : closed ≡ closed_or o
  pub behind : Behind ors closed (λ c. mode_or c o) (sort_or o) rest

pub record FormulaIs (ts : List Tok) (c : Chain) (f : Formula) (rest : List Tok) : Type 0 where
  pub spelled : ts ≡ put_formula f rest
  pub fine : FineFormula f
  pub no_args : EndsFactor rest
  pub halts : Halts (mode_formula c f) (sort_formula f) rest

pub record TermIs (ts : List Tok) (x : Term) (rest : List Tok) : Type 0 where
  pub spelled : ts ≡ put_term x rest
  pub fine : FineTerm x
  pub ends : EndsTerm rest

pub record AppIs (ts : List Tok) (a : App) (pairs : List Pair) (rest : List Tok) : Type 0 where
  pub spelled : ts ≡ put_prim (wrap_prim pairs (atom a)) rest
  pub fine : FineApp a
  pub ends : EndsPrim rest

abbrev pub UnaryRead : List Tok → ℕ → Result (RawUnary × Bool × Bor (List Item)) ReadError → Type 0
UnaryRead ts len (Ok p) = UnaryIs ts (unary_view p.0) p.1 (toks p.2.now)
UnaryRead ts len (Err e) = Fails at_unary put_unary FineUnary ts len e

abbrev pub AndRead : List Tok → ℕ → Result (RawAnd × Bool × Bor (List Item)) ReadError → Type 0
AndRead ts len (Ok p) = AndIs ts (and_view p.0) p.1 (toks p.2.now)
AndRead ts len (Err e) = Fails at_operand put_and FineAnd ts len e

abbrev pub OrRead : List Tok → ℕ → Result (RawOr × Bool × Bor (List Item)) ReadError → Type 0
OrRead ts len (Ok p) = OrIs ts (or_view p.0) p.1 (toks p.2.now)
OrRead ts len (Err e) = Fails at_operand put_or FineOr ts len e

abbrev pub FormulaRead : List Tok → ℕ → Result (RawFormula × Bor (List Item)) ReadError → Type 0
FormulaRead ts len (Ok p) = FormulaIs ts fresh (formula_view p.0) (toks p.1.now)
FormulaRead ts len (Err e) = Fails at_sentence put_formula FineFormula ts len e

abbrev pub LinkedRead : List Tok → ℕ → Result (RawFormula × Bor (List Item)) ReadError → Type 0
LinkedRead ts len (Ok p) = FormulaIs ts fresh (formula_view p.0) (toks p.1.now) × FormulaIs ts unsettled
    (formula_view p.0) (toks p.1.now)
LinkedRead ts len (Err e) = Fails at_entry put_formula FineFormula ts len e

abbrev pub TermRead : List Tok → ℕ → Result (RawTermTree × Bor (List Item)) ReadError → Type 0
TermRead ts len (Ok p) = TermIs ts (term_view p.0) (toks p.1.now)
TermRead ts len (Err e) = Fails at_factor put_term FineTerm ts len e

-- a formula's operand, or a term in its place
abbrev pub OperandIs : List Tok → Operand → List Tok → Type 0
OperandIs ts (operand.Formula u closed) rest = UnaryIs ts (unary_view u) closed rest
    × (app_unary (unary_view u) ≡ false)
OperandIs ts (operand.Term x) rest = TermIs ts (term_view x) rest × EndsPrim rest × (app_term (term_view x) ≡ false)
OperandIs ts (operand.Either a pairs) rest = AppIs ts (app_view a) pairs rest

abbrev pub OperandRead : List Tok → ℕ → Result (Operand × Bor (List Item)) ReadError → Type 0
OperandRead ts len (Ok p) = OperandIs ts p.0 (toks p.1.now)
OperandRead ts len (Err e) = Fails at_operand put_unary FineUnary ts len e

-- what stands in brackets in which a term may stand as well
abbrev pub ContentIs : List Tok → Content → List Tok → Type 0
ContentIs ts (content.Formula f) rest = FormulaIs ts unsettled (formula_view f) rest
    × (app_formula (formula_view f) ≡ false)
ContentIs ts (content.Term x) rest = TermIs ts (term_view x) rest × EndsPrim rest × (app_term (term_view x) ≡ false)
ContentIs ts (content.Either a pairs) rest = AppIs ts (app_view a) pairs rest × Halts (in_formula unsettled) either rest

abbrev pub ContentRead : List Tok → ℕ → Result (Content × Bor (List Item)) ReadError → Type 0
ContentRead ts len (Ok p) = ContentIs ts p.0 (toks p.1.now)
ContentRead ts len (Err e) = Fails at_bracket put_formula FineFormula ts len e

-- the same with the closing bracket, wherever the opening one stands
abbrev pub InsideRead : List Tok → ℕ → Result (Content × ℕ × Bor (List Item)) ReadError → Type 0
InsideRead ts len (Ok p) =
    (rest : List Tok) × ContentIs ts p.0 rest × (rest ≡ sign t.Close p.1 ∷ toks p.2.now) × EndsFactor (toks p.2.now)
InsideRead ts len (Err e) = (p : ℕ) → Fails at_operand put_unary FineUnary (sign t.Open p ∷ ts) len e

-- a reader of what is shorter than so many tokens
pub record Nests {R : Type 0} (left : ℕ) (Read : List Tok → ℕ → Result (R × Bor (List Item)) ReadError → Type 0)
    (pre : Global → Bor (List Item) → ℕ → Type 0) (post : Global → Bor (List Item) → ℕ
    → Result (R × Bor (List Item)) ReadError → Type 0) : Type 0 where
  pub callable : (alloc : Global) (items : Bor (List Item)) (len : ℕ) → length items.now < left → pre alloc items len
  pub reads : (alloc : Global) (items : Bor (List Item)) (len : ℕ) (r : Result (R × Bor (List Item)) ReadError)
      → post alloc items len r → Read (toks items.now) len r
  pub shorter : (alloc : Global) (items : Bor (List Item)) (len : ℕ) (r : Result (R × Bor (List Item)) ReadError)
      → post alloc items len r → IfOk r (λ p. length p.1.now ≤ length items.now)

-- the readers of what nests in a text of so many tokens
pub record Readers (left : ℕ)
    (formula_pre : Global → Bor (List Item) → ℕ → Type 0) (formula_post : Global → Bor (List Item) → ℕ
    → Result (RawFormula × Bor (List Item)) ReadError → Type 0)
    (content_pre : Global → Bor (List Item) → ℕ → Type 0) (content_post : Global → Bor (List Item) → ℕ
    → Result (Content × Bor (List Item)) ReadError → Type 0)
    (term_pre : Global → Bor (List Item) → ℕ → Type 0) (term_post : Global → Bor (List Item) → ℕ
    → Result (RawTermTree × Bor (List Item)) ReadError → Type 0) : Type 0 where
  pub formulas : Nests left FormulaRead formula_pre formula_post
  pub contents : Nests left ContentRead content_pre content_post
  pub terms : Nests left TermRead term_pre term_post

-- ---- the parts of terms

-- arguments may not follow a word that has none
abbrev pub Shut : App → List Tok → Type 0
Shut (constant n) ts = EndsFactor ts
Shut (empty n p q) ts = Unit {0}
Shut (apply n p xs q) ts = Unit {0}

abbrev pub ShutFactor : Factor → List Tok → Type 0
ShutFactor (value a) ts = Shut a ts
ShutFactor x ts = Unit {0}

-- no sign stands before it
abbrev pub IsUnsigned : Factor → Type 0
IsUnsigned (negative p x) = ⊥
IsUnsigned x = Unit {0}

pub record FactorIs (ts : List Tok) (x : Factor) (rest : List Tok) : Type 0 where
  pub spelled : ts ≡ put_factor x rest
  pub fine : FineFactor x
  pub ends : EndsFactor rest

pub record UnsignedIs (ts : List Tok) (x : Factor) (rest : List Tok) : Type 0 where
  pub spelled : ts ≡ put_factor x rest
  pub fine : FineFactor x
  pub shut : ShutFactor x rest
  pub unsigned : IsUnsigned x

abbrev pub FactorRead : List Tok → ℕ → Result (RawFactor × Bor (List Item)) ReadError → Type 0
FactorRead ts len (Ok p) = FactorIs ts (factor_view p.0) (toks p.1.now)
FactorRead ts len (Err e) = Fails at_factor put_factor FineFactor ts len e

abbrev pub UnsignedRead : List Tok → ℕ → Result (RawFactor × Bor (List Item)) ReadError → Type 0
UnsignedRead ts len (Ok p) = UnsignedIs ts (factor_view p.0) (toks p.1.now)
UnsignedRead ts len (Err e) = Fails at_factor put_factor FineFactor ts len e

pub record ProductIs (ts : List Tok) (x : Product) (rest : List Tok) : Type 0 where
  pub spelled : ts ≡ put_product x rest
  pub fine : FineProduct x
  pub ends : EndsFactor rest
  pub no_times : No t.Times (next rest)

abbrev pub ProductRead : List Tok → ℕ → Result (RawProduct × Bor (List Item)) ReadError → Type 0
ProductRead ts len (Ok p) = ProductIs ts (product_view p.0) (toks p.1.now)
ProductRead ts len (Err e) = Fails at_either put_product FineProduct ts len e

abbrev pub SumRead : List Tok → ℕ → Result (RawTermTree × Bor (List Item)) ReadError → Type 0
SumRead ts len (Ok p) = TermIs ts (term_view p.0) (toks p.1.now)
SumRead ts len (Err e) = Fails at_either put_term FineTerm ts len e

pub record ArgumentsAre (ts : List Tok) (a : App) (rest : List Tok) : Type 0 where
  pub spelled : ts ≡ put_app a rest
  pub fine : FineApp a
  pub shut : Shut a rest

abbrev pub ArgumentsRead : List Tok → ℕ → Result (RawApp × Bor (List Item)) ReadError → Type 0
ArgumentsRead ts len (Ok p) = ArgumentsAre ts (app_view p.0) (toks p.1.now)
ArgumentsRead ts len (Err e) = Fails at_either put_app FineApp ts len e

-- how an aggregate begins, after its word or #
pub data Opening : Type 0 where
  opening : ℕ → Vars → ℕ → Opening

abbrev pub put_opening : Opening → List Tok → List Tok
put_opening (opening b vs c) ts = sign t.OpenBrace b ∷ put_vars vs (sign t.Colon c ∷ ts)

abbrev pub at_opening : At (Unit {0})
at_opening u σ = brace ∷ vars_first ∷ colon ∷ σ

abbrev pub opening_view : RawOpening → Opening
opening_view o = opening o.brace (vars_view o.vars) o.colon

abbrev pub OpeningRead : ℕ → List Tok → ℕ → Result (RawOpening × Bor (List Item)) ReadError → Type 0
OpeningRead place ts len (Ok p) = (ts ≡ put_opening (opening_view p.0) (toks p.1.now)) × (p.0.place ≡ place)
OpeningRead place ts len (Err e) = Fails at_opening put_opening Whole ts len e

abbrev pub AggregateRead : List Tok → ℕ → Result (RawFactor × Bor (List Item)) ReadError → Type 0
AggregateRead ts len (Ok p) = UnsignedIs ts (factor_view p.0) (toks p.1.now)
AggregateRead ts len (Err e) = Fails at_factor put_factor FineFactor ts len e

-- the colon of an aggregate, its term and its closing brace
abbrev pub WeighedRead : List Tok → List Tok → ℕ → Result (ℕ × RawTermTree × ℕ × Bor (List Item)) ReadError → Type 0
WeighedRead whole ts len (Ok p) =
    (ts ≡ sign t.Colon p.0 ∷ put_term (term_view p.1) (sign t.CloseBrace p.2 ∷ toks p.3.now)) × FineTerm (term_view p.1)
WeighedRead whole ts len (Err e) = Fails at_factor put_factor FineFactor whole len e

-- ---- signs before a factor

abbrev pub negatives : List ℕ → Factor → Factor
negatives [] x = x
negatives (p ∷ ps) x = negative p (negatives ps x)

abbrev pub put_minuses : List ℕ → List Tok → List Tok
put_minuses [] ts = ts
put_minuses (p ∷ ps) ts = sign (t.Add Minus) p ∷ put_minuses ps ts

-- a factor after these signs
abbrev pub BareRead : List ℕ → List Tok → ℕ → Result (RawFactor × Bor (List Item)) ReadError → Type 0
BareRead ps ts len (Ok p) = FactorIs ts (negatives ps (factor_view p.0)) (toks p.1.now)
BareRead ps ts len (Err e) = Fails at_factor put_factor FineFactor ts len e

-- ---- the parts of formulas

-- an operand as that of a connective
abbrev pub SettledRead : List Tok → List Tok → ℕ → Result (RawUnary × Bool) ReadError → Type 0
SettledRead ts rest len (Ok p) = UnaryIs ts (unary_view p.0) p.1 rest
SettledRead ts rest len (Err e) = Fails at_unary put_unary FineUnary ts len e

-- an operand of | or of an arrow, after it
abbrev pub ConjunctionRead : List Tok → ℕ → Result (RawAnd × Bool × Bor (List Item)) ReadError → Type 0
ConjunctionRead ts len (Ok p) = AndIs ts (and_view p.0) p.1 (toks p.2.now)
ConjunctionRead ts len (Err e) = Fails at_unary put_and FineAnd ts len e

abbrev pub DisjunctionRead : List Tok → ℕ → Result (RawOr × Bool × Bor (List Item)) ReadError → Type 0
DisjunctionRead ts len (Ok p) = OrIs ts (or_view p.0) p.1 (toks p.2.now)
DisjunctionRead ts len (Err e) = Fails at_unary put_or FineOr ts len e

abbrev pub nots : List ℕ → Unary → Unary
nots [] u = u
nots (p ∷ ps) u = not p (nots ps u)

abbrev pub put_nots : List ℕ → List Tok → List Tok
put_nots [] ts = ts
put_nots (p ∷ ps) ts = sign t.Not p ∷ put_nots ps ts
