-- Where the bracket stands that closes an open one: the tokens of a tree are passed over.
use Rattle.std.proofs.Common.{◌≡◌, List, [], ◌∷◌, refl, ◌∙◌}
use Rattle.grammar.specs.declared.terminal.Terminal.TheVariants as t
use Rattle.grammar.specs.declared.terminal.Arrow.{Arrow}
use Rattle.grammar.specs.Terminals.{Tok, tok_at, mark, sign}
use Rattle.grammar.specs.Trees.{Name, name, Var, untyped, typed, Vars, var, beside, comma, Number, any, exactly}
use Rattle.grammar.specs.Trees.{compared, Formula, alone, linked, Links, last, link, Or, one, or, And, single, and}
use Rattle.grammar.specs.Trees.{Unary, not, every, some, prim, Prim, group, truth, atom, compare, Term, product, sum}
use Rattle.grammar.specs.Trees.{Product, factor, times, Factor, integer, value, brackets, negative, count, aggregate}
use Rattle.grammar.specs.Trees.{App, constant, empty, apply, Terms, final, then}
use Rattle.grammar.specs.Spelling.{put_name, put_var, put_vars, put_number, put_formula, put_links, put_or, put_and}
use Rattle.grammar.specs.Spelling.{put_unary, put_prim, put_term, put_product, put_factor, put_app, put_terms}

-- how many brackets are open beside the one
pub data Depth : Type 0 where
  outer : Depth
  under : Depth → Depth

-- the tokens after the bracket that closes it
abbrev pub behind_close : Depth → List Tok → List Tok
behind_close d [] = []
behind_close d (tok_at (mark t.Open) p ∷ ts) = behind_close (under d) ts
behind_close outer (tok_at (mark t.Close) p ∷ ts) = ts
behind_close (under d) (tok_at (mark t.Close) p ∷ ts) = behind_close d ts
behind_close d (tok_at s p ∷ ts) = behind_close d ts

pub name-passed : (x : Name) (d : Depth) (ts : List Tok) → behind_close d (put_name x ts) ≡ behind_close d ts
name-passed (name text p) d ts = refl

pub var-passed : (x : Var) (d : Depth) (ts : List Tok) → behind_close d (put_var x ts) ≡ behind_close d ts
var-passed (untyped n) d ts = name-passed n d ts
var-passed (typed n p type q) d ts = name-passed n d (sign t.OpenSquare p ∷ put_name type (sign t.CloseSquare q ∷ ts))
    ∙ name-passed type d (sign t.CloseSquare q ∷ ts)

pub vars-passed : (x : Vars) (d : Depth) (ts : List Tok) → behind_close d (put_vars x ts) ≡ behind_close d ts
vars-passed (var v) d ts = var-passed v d ts
vars-passed (beside v vs) d ts = var-passed v d (put_vars vs ts) ∙ vars-passed vs d ts
vars-passed (comma v p vs) d ts = var-passed v d (sign t.Comma p ∷ put_vars vs ts) ∙ vars-passed vs d ts

pub number-passed : (x : Number) (d : Depth) (ts : List Tok) → behind_close d (put_number x ts) ≡ behind_close d ts
number-passed any d ts = refl
number-passed (exactly n p) d ts = refl
number-passed (compared c p n q) d ts = refl

mutual
  pub formula-passed : (x : Formula) (d : Depth) (ts : List Tok) → behind_close d (put_formula x ts) ≡ behind_close d ts
  formula-passed (alone o) d ts = or-passed o d ts
  formula-passed (linked a o p os) d ts = or-passed o d (sign (t.Arrow a) p ∷ put_links a os ts)
      ∙ links-passed a os d ts

  pub links-passed : (a : Arrow) (x : Links) (d : Depth) (ts : List Tok) → behind_close d (put_links a x ts)
      ≡ behind_close d ts
  links-passed a (last o) d ts = or-passed o d ts
  links-passed a (link o p os) d ts = or-passed o d (sign (t.Arrow a) p ∷ put_links a os ts) ∙ links-passed a os d ts

  pub or-passed : (x : Or) (d : Depth) (ts : List Tok) → behind_close d (put_or x ts) ≡ behind_close d ts
  or-passed (one a) d ts = and-passed a d ts
  or-passed (or a p o) d ts = and-passed a d (sign t.Or p ∷ put_or o ts) ∙ or-passed o d ts

  pub and-passed : (x : And) (d : Depth) (ts : List Tok) → behind_close d (put_and x ts) ≡ behind_close d ts
  and-passed (single u) d ts = unary-passed u d ts
  and-passed (and u p a) d ts = unary-passed u d (sign t.And p ∷ put_and a ts) ∙ and-passed a d ts

  pub unary-passed : (x : Unary) (d : Depth) (ts : List Tok) → behind_close d (put_unary x ts) ≡ behind_close d ts
  unary-passed (not p u) d ts = unary-passed u d ts
  unary-passed (every p vs q f) d ts = vars-passed vs d (sign t.Colon q ∷ put_formula f ts) ∙ formula-passed f d ts
  unary-passed (some p n vs q f) d ts = number-passed n d (put_vars vs (sign t.Colon q ∷ put_formula f ts))
      ∙ vars-passed vs d (sign t.Colon q ∷ put_formula f ts) ∙ formula-passed f d ts
  unary-passed (prim x) d ts = prim-passed x d ts

  pub prim-passed : (x : Prim) (d : Depth) (ts : List Tok) → behind_close d (put_prim x ts) ≡ behind_close d ts
  prim-passed (group p f q) d ts = formula-passed f (under d) (sign t.Close q ∷ ts)
  prim-passed (truth b p) d ts = refl
  prim-passed (atom a) d ts = app-passed a d ts
  prim-passed (compare x c p y) d ts = term-passed x d (sign (t.Compare c) p ∷ put_term y ts) ∙ term-passed y d ts

  pub term-passed : (x : Term) (d : Depth) (ts : List Tok) → behind_close d (put_term x ts) ≡ behind_close d ts
  term-passed (product x) d ts = product-passed x d ts
  term-passed (sum x s p y) d ts = product-passed x d (sign (t.Add s) p ∷ put_term y ts) ∙ term-passed y d ts

  pub product-passed : (x : Product) (d : Depth) (ts : List Tok) → behind_close d (put_product x ts) ≡ behind_close d ts
  product-passed (factor x) d ts = factor-passed x d ts
  product-passed (times x p y) d ts = factor-passed x d (sign t.Times p ∷ put_product y ts) ∙ product-passed y d ts

  pub factor-passed : (x : Factor) (d : Depth) (ts : List Tok) → behind_close d (put_factor x ts) ≡ behind_close d ts
  factor-passed (integer n p) d ts = refl
  factor-passed (value a) d ts = app-passed a d ts
  factor-passed (brackets p x q) d ts = term-passed x (under d) (sign t.Close q ∷ ts)
  factor-passed (negative p x) d ts = factor-passed x d ts
  factor-passed (count p b vs c f d) k ts = vars-passed vs k (sign t.Colon c ∷ put_formula f (sign t.CloseBrace d ∷ ts))
      ∙ formula-passed f k (sign t.CloseBrace d ∷ ts)
  factor-passed (aggregate a p b vs c f d x e1) k ts = vars-passed vs k
      (sign t.Colon c ∷ put_formula f (sign t.Colon d ∷ put_term x (sign t.CloseBrace e1 ∷ ts)))
      ∙ formula-passed f k (sign t.Colon d ∷ put_term x (sign t.CloseBrace e1 ∷ ts))
      ∙ term-passed x k (sign t.CloseBrace e1 ∷ ts)

  pub app-passed : (x : App) (d : Depth) (ts : List Tok) → behind_close d (put_app x ts) ≡ behind_close d ts
  app-passed (constant n) d ts = name-passed n d ts
  app-passed (empty n p q) d ts = name-passed n d (sign t.Open p ∷ sign t.Close q ∷ ts)
  app-passed (apply n p xs q) d ts = name-passed n d (sign t.Open p ∷ put_terms xs (sign t.Close q ∷ ts))
      ∙ terms-passed xs (under d) (sign t.Close q ∷ ts)

  pub terms-passed : (x : Terms) (d : Depth) (ts : List Tok) → behind_close d (put_terms x ts) ≡ behind_close d ts
  terms-passed (final x) d ts = term-passed x d ts
  terms-passed (then x p xs) d ts = term-passed x d (sign t.Comma p ∷ put_terms xs ts) ∙ terms-passed xs d ts
