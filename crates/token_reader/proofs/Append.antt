-- What is written after a tree is written after its tokens.
use Rattle.std.proofs.Common.{◌≡◌, List, ◌∷◌, ◌++◌, refl, ap, ◌∙◌}
use Rattle.grammar.specs.declared.terminal.Terminal.TheVariants as t
use Rattle.grammar.specs.declared.terminal.Arrow.{Arrow}
use Rattle.grammar.specs.declared.terminal.Adding.TheVariants.{Minus}
use Rattle.grammar.specs.Terminals.{Tok, sign}
use Rattle.grammar.specs.Trees.{Name, name, Var, untyped, typed, Vars, var, beside, comma, Number, any, exactly}
use Rattle.grammar.specs.Trees.{compared, Formula, alone, linked, Links, last, link, Or, one, or, And, single, and}
use Rattle.grammar.specs.Trees.{Unary, not, every, some, prim, Prim, group, truth, atom, compare, Term, product, sum}
use Rattle.grammar.specs.Trees.{Product, factor, times, Factor, integer, value, brackets, negative, count, aggregate}
use Rattle.grammar.specs.Trees.{App, constant, empty, apply, Terms, final, then}
use Rattle.grammar.specs.Spelling.{put_name, put_var, put_vars, put_number, put_formula, put_links, put_or, put_and}
use Rattle.grammar.specs.Spelling.{put_unary, put_prim, put_term, put_product, put_factor, put_app, put_terms}

pub name-append : (x : Name) (ts us : List Tok) → put_name x (ts ++ us) ≡ put_name x ts ++ us
name-append (name text p) ts us = refl

pub var-append : (x : Var) (ts us : List Tok) → put_var x (ts ++ us) ≡ put_var x ts ++ us
var-append (untyped n) ts us = name-append n ts us
var-append (typed n p type q) ts us = ap (λ (x0 : List Tok). put_name n (sign t.OpenSquare p ∷ x0))
    (name-append type (sign t.CloseSquare q ∷ ts) us) ∙ name-append n
    (sign t.OpenSquare p ∷ put_name type (sign t.CloseSquare q ∷ ts)) us

pub vars-append : (x : Vars) (ts us : List Tok) → put_vars x (ts ++ us) ≡ put_vars x ts ++ us
vars-append (var v) ts us = var-append v ts us
vars-append (beside v vs) ts us = ap (λ (x0 : List Tok). put_var v x0) (vars-append vs ts us)
    ∙ var-append v (put_vars vs ts) us
vars-append (comma v p vs) ts us = ap (λ (x0 : List Tok). put_var v (sign t.Comma p ∷ x0)) (vars-append vs ts us)
    ∙ var-append v (sign t.Comma p ∷ put_vars vs ts) us

pub number-append : (x : Number) (ts us : List Tok) → put_number x (ts ++ us) ≡ put_number x ts ++ us
number-append any ts us = refl
number-append (exactly n p) ts us = refl
number-append (compared c p n q) ts us = refl

mutual
  pub formula-append : (x : Formula) (ts us : List Tok) → put_formula x (ts ++ us) ≡ put_formula x ts ++ us
  formula-append (alone o) ts us = or-append o ts us
  formula-append (linked a o p os) ts us = ap (λ (x0 : List Tok). put_or o (sign (t.Arrow a) p ∷ x0))
      (links-append a os ts us) ∙ or-append o (sign (t.Arrow a) p ∷ put_links a os ts) us

  pub links-append : (a : Arrow) (x : Links) (ts us : List Tok) → put_links a x (ts ++ us) ≡ put_links a x ts ++ us
  links-append a (last o) ts us = or-append o ts us
  links-append a (link o p os) ts us = ap (λ (x0 : List Tok). put_or o (sign (t.Arrow a) p ∷ x0))
      (links-append a os ts us) ∙ or-append o (sign (t.Arrow a) p ∷ put_links a os ts) us

  pub or-append : (x : Or) (ts us : List Tok) → put_or x (ts ++ us) ≡ put_or x ts ++ us
  or-append (one a) ts us = and-append a ts us
  or-append (or a p o) ts us = ap (λ (x0 : List Tok). put_and a (sign t.Or p ∷ x0)) (or-append o ts us)
      ∙ and-append a (sign t.Or p ∷ put_or o ts) us

  pub and-append : (x : And) (ts us : List Tok) → put_and x (ts ++ us) ≡ put_and x ts ++ us
  and-append (single u) ts us = unary-append u ts us
  and-append (and u p a) ts us = ap (λ (x0 : List Tok). put_unary u (sign t.And p ∷ x0)) (and-append a ts us)
      ∙ unary-append u (sign t.And p ∷ put_and a ts) us

  pub unary-append : (x : Unary) (ts us : List Tok) → put_unary x (ts ++ us) ≡ put_unary x ts ++ us
  unary-append (not p u) ts us = ap (λ (x0 : List Tok). sign t.Not p ∷ x0) (unary-append u ts us)
  unary-append (every p vs q f) ts us = ap (λ (x0 : List Tok). sign t.Every p ∷ put_vars vs (sign t.Colon q ∷ x0))
      (formula-append f ts us) ∙ ap (λ (x0 : List Tok). sign t.Every p ∷ x0)
      (vars-append vs (sign t.Colon q ∷ put_formula f ts) us)
  unary-append (some p n vs q f) ts us = ap (λ (x0 : List Tok). sign t.Some p ∷ put_number n
      (put_vars vs (sign t.Colon q ∷ x0))) (formula-append f ts us)
      ∙ ap (λ (x0 : List Tok). sign t.Some p ∷ put_number n x0) (vars-append vs (sign t.Colon q ∷ put_formula f ts) us)
      ∙ ap (λ (x0 : List Tok). sign t.Some p ∷ x0) (number-append n
      (put_vars vs (sign t.Colon q ∷ put_formula f ts)) us)
  unary-append (prim x) ts us = prim-append x ts us

  pub prim-append : (x : Prim) (ts us : List Tok) → put_prim x (ts ++ us) ≡ put_prim x ts ++ us
  prim-append (group p f q) ts us = ap (λ (x0 : List Tok). sign t.Open p ∷ x0)
      (formula-append f (sign t.Close q ∷ ts) us)
  prim-append (truth b p) ts us = refl
  prim-append (atom a) ts us = app-append a ts us
  prim-append (compare x c p y) ts us = ap (λ (x0 : List Tok). put_term x (sign (t.Compare c) p ∷ x0))
      (term-append y ts us) ∙ term-append x (sign (t.Compare c) p ∷ put_term y ts) us

  pub term-append : (x : Term) (ts us : List Tok) → put_term x (ts ++ us) ≡ put_term x ts ++ us
  term-append (product x) ts us = product-append x ts us
  term-append (sum x s p y) ts us = ap (λ (x0 : List Tok). put_product x (sign (t.Add s) p ∷ x0)) (term-append y ts us)
      ∙ product-append x (sign (t.Add s) p ∷ put_term y ts) us

  pub product-append : (x : Product) (ts us : List Tok) → put_product x (ts ++ us) ≡ put_product x ts ++ us
  product-append (factor x) ts us = factor-append x ts us
  product-append (times x p y) ts us = ap (λ (x0 : List Tok). put_factor x (sign t.Times p ∷ x0))
      (product-append y ts us) ∙ factor-append x (sign t.Times p ∷ put_product y ts) us

  pub factor-append : (x : Factor) (ts us : List Tok) → put_factor x (ts ++ us) ≡ put_factor x ts ++ us
  factor-append (integer n p) ts us = refl
  factor-append (value a) ts us = app-append a ts us
  factor-append (brackets p x q) ts us = ap (λ (x0 : List Tok). sign t.Open p ∷ x0)
      (term-append x (sign t.Close q ∷ ts) us)
  factor-append (negative p x) ts us = ap (λ (x0 : List Tok). sign (t.Add Minus) p ∷ x0) (factor-append x ts us)
  factor-append (count p b vs c f d) ts us = ap (λ (x0 : List Tok). sign t.Count p ∷ sign t.OpenBrace b ∷ put_vars vs
      (sign t.Colon c ∷ x0)) (formula-append f (sign t.CloseBrace d ∷ ts) us)
      ∙ ap (λ (x0 : List Tok). sign t.Count p ∷ sign t.OpenBrace b ∷ x0)
      (vars-append vs (sign t.Colon c ∷ put_formula f (sign t.CloseBrace d ∷ ts)) us)
  factor-append (aggregate a p b vs c f d x e1) ts us = ap (λ (x0 : List Tok). sign (t.Aggregate a) p ∷ sign t.OpenBrace
      b ∷ put_vars vs (sign t.Colon c ∷ put_formula f (sign t.Colon d ∷ x0)))
      (term-append x (sign t.CloseBrace e1 ∷ ts) us) ∙ ap (λ (x0 : List Tok). sign (t.Aggregate a) p ∷ sign t.OpenBrace
      b ∷ put_vars vs (sign t.Colon c ∷ x0)) (formula-append f (sign t.Colon d ∷ put_term x (sign t.CloseBrace e1 ∷ ts))
      us) ∙ ap (λ (x0 : List Tok). sign (t.Aggregate a) p ∷ sign t.OpenBrace b ∷ x0)
      (vars-append vs (sign t.Colon c ∷ put_formula f (sign t.Colon d ∷ put_term x (sign t.CloseBrace e1 ∷ ts))) us)

  pub app-append : (x : App) (ts us : List Tok) → put_app x (ts ++ us) ≡ put_app x ts ++ us
  app-append (constant n) ts us = name-append n ts us
  app-append (empty n p q) ts us = name-append n (sign t.Open p ∷ sign t.Close q ∷ ts) us
  app-append (apply n p xs q) ts us = ap (λ (x0 : List Tok). put_name n (sign t.Open p ∷ x0))
      (terms-append xs (sign t.Close q ∷ ts) us) ∙ name-append n (sign t.Open p ∷ put_terms xs (sign t.Close q ∷ ts)) us

  pub terms-append : (x : Terms) (ts us : List Tok) → put_terms x (ts ++ us) ≡ put_terms x ts ++ us
  terms-append (final x) ts us = term-append x ts us
  terms-append (then x p xs) ts us = ap (λ (x0 : List Tok). put_term x (sign t.Comma p ∷ x0)) (terms-append xs ts us)
      ∙ term-append x (sign t.Comma p ∷ put_terms xs ts) us
