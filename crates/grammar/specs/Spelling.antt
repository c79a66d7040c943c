-- What each tree is written as: its tokens, and then these.
use Rattle.std.specs.Prelude.{List, ◌∷◌}
use Rattle.grammar.specs.declared.terminal.Terminal.TheVariants as t
use Rattle.grammar.specs.declared.terminal.Arrow.{Arrow}
use Rattle.grammar.specs.declared.terminal.Adding.TheVariants.{Minus}
use Rattle.grammar.specs.Terminals.{Tok, tok_at, word, sign}
use Rattle.grammar.specs.Trees.{Name, name, Var, untyped, typed, Vars, var, beside, comma, Number, any, exactly}
use Rattle.grammar.specs.Trees.{compared, Formula, alone, linked, Links, last, link, Or, one, or, And, single, and}
use Rattle.grammar.specs.Trees.{Unary, not, every, some, prim, Prim, group, truth, atom, compare, Term, product, sum}
use Rattle.grammar.specs.Trees.{Product, factor, times, Factor, integer, value, brackets, negative, count, aggregate}
use Rattle.grammar.specs.Trees.{App, constant, empty, apply, Terms, final, then}

abbrev pub put_name : Name → List Tok → List Tok
put_name (name text p) ts = tok_at (word text) p ∷ ts

abbrev pub put_var : Var → List Tok → List Tok
put_var (untyped n) ts = put_name n ts
put_var (typed n p type q) ts = put_name n (sign t.OpenSquare p ∷ put_name type (sign t.CloseSquare q ∷ ts))

abbrev pub put_vars : Vars → List Tok → List Tok
put_vars (var v) ts = put_var v ts
put_vars (beside v vs) ts = put_var v (put_vars vs ts)
put_vars (comma v p vs) ts = put_var v (sign t.Comma p ∷ put_vars vs ts)

abbrev pub put_number : Number → List Tok → List Tok
put_number any ts = ts
put_number (exactly n p) ts = sign (t.Integer n) p ∷ ts
put_number (compared c p n q) ts = sign (t.Compare c) p ∷ sign (t.Integer n) q ∷ ts

abbrev mutual
  pub put_formula : Formula → List Tok → List Tok
  put_formula (alone o) ts = put_or o ts
  put_formula (linked a o p os) ts = put_or o (sign (t.Arrow a) p ∷ put_links a os ts)

  pub put_links : Arrow → Links → List Tok → List Tok
  put_links a (last o) ts = put_or o ts
  put_links a (link o p os) ts = put_or o (sign (t.Arrow a) p ∷ put_links a os ts)

  pub put_or : Or → List Tok → List Tok
  put_or (one a) ts = put_and a ts
  put_or (or a p o) ts = put_and a (sign t.Or p ∷ put_or o ts)

  pub put_and : And → List Tok → List Tok
  put_and (single u) ts = put_unary u ts
  put_and (and u p a) ts = put_unary u (sign t.And p ∷ put_and a ts)

  pub put_unary : Unary → List Tok → List Tok
  put_unary (not p u) ts = sign t.Not p ∷ put_unary u ts
  put_unary (every p vs q f) ts = sign t.Every p ∷ put_vars vs (sign t.Colon q ∷ put_formula f ts)
  put_unary (some p n vs q f) ts = sign t.Some p ∷ put_number n (put_vars vs (sign t.Colon q ∷ put_formula f ts))
  put_unary (prim x) ts = put_prim x ts

  pub put_prim : Prim → List Tok → List Tok
  put_prim (group p f q) ts = sign t.Open p ∷ put_formula f (sign t.Close q ∷ ts)
  put_prim (truth b p) ts = sign (t.Truth b) p ∷ ts
  put_prim (atom a) ts = put_app a ts
  put_prim (compare x c p y) ts = put_term x (sign (t.Compare c) p ∷ put_term y ts)

  pub put_term : Term → List Tok → List Tok
  put_term (product x) ts = put_product x ts
  put_term (sum x s p y) ts = put_product x (sign (t.Add s) p ∷ put_term y ts)

  pub put_product : Product → List Tok → List Tok
  put_product (factor x) ts = put_factor x ts
  put_product (times x p y) ts = put_factor x (sign t.Times p ∷ put_product y ts)

  pub put_factor : Factor → List Tok → List Tok
  put_factor (integer n p) ts = sign (t.Integer n) p ∷ ts
  put_factor (value a) ts = put_app a ts
  put_factor (brackets p x q) ts = sign t.Open p ∷ put_term x (sign t.Close q ∷ ts)
  put_factor (negative p x) ts = sign (t.Add Minus) p ∷ put_factor x ts
  put_factor (count p b vs c f e) ts = sign t.Count p ∷ sign t.OpenBrace b ∷ put_vars vs
      (sign t.Colon c ∷ put_formula f (sign t.CloseBrace e ∷ ts))
  put_factor (aggregate a p b vs c f d x e) ts = sign (t.Aggregate a) p ∷ sign t.OpenBrace b ∷ put_vars vs
      (sign t.Colon c ∷ put_formula f (sign t.Colon d ∷ put_term x (sign t.CloseBrace e ∷ ts)))

  pub put_app : App → List Tok → List Tok
  put_app (constant n) ts = put_name n ts
  put_app (empty n p q) ts = put_name n (sign t.Open p ∷ sign t.Close q ∷ ts)
  put_app (apply n p xs q) ts = put_name n (sign t.Open p ∷ put_terms xs (sign t.Close q ∷ ts))

  pub put_terms : Terms → List Tok → List Tok
  put_terms (final x) ts = put_term x ts
  put_terms (then x p xs) ts = put_term x (sign t.Comma p ∷ put_terms xs ts)
