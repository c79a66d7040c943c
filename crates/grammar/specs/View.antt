-- The raw trees as trees of the grammar.
use Rattle.std.specs.Prelude.{ℕ, List, [], ◌∷◌, map, Option, Some, None}
use Rattle.grammar.specs.declared.terminal.Adding.{Adding}
use Rattle.grammar.specs.declared.terminal.Arrow.{Arrow}
use Rattle.grammar.specs.declared.raw.RawName.{RawName}
use Rattle.grammar.specs.declared.raw.RawVar.{RawVar}
use Rattle.grammar.specs.declared.raw.RawVarType.{RawVarType}
use Rattle.grammar.specs.declared.raw.RawVarTail.{RawVarTail}
use Rattle.grammar.specs.declared.raw.RawVars.{RawVars}
use Rattle.grammar.specs.declared.raw.RawNumber.{RawNumber}
use Rattle.grammar.specs.declared.raw.RawNumber.TheVariants as number
use Rattle.grammar.specs.declared.raw.RawApp.{RawApp, RawApp-F, fold-RawApp}
use Rattle.grammar.specs.declared.raw.RawFactor.{RawFactor, RawFactor-F, fold-RawFactor}
use Rattle.grammar.specs.declared.raw.RawFormula.{RawFormula, RawFormula-F, fold-RawFormula}
use Rattle.grammar.specs.declared.raw.RawPrim.{RawPrim, RawPrim-F, fold-RawPrim}
use Rattle.grammar.specs.declared.raw.RawUnary.{RawUnary, RawUnary-F, fold-RawUnary}
use Rattle.grammar.specs.declared.raw.RawAnd.{RawAnd, RawAnd-F, fold-RawAnd}
use Rattle.grammar.specs.declared.raw.RawAndTail.{RawAndTail, RawAndTail-F, fold-RawAndTail}
use Rattle.grammar.specs.declared.raw.RawLink.{RawLink, RawLink-F, fold-RawLink}
use Rattle.grammar.specs.declared.raw.RawOr.{RawOr, RawOr-F, fold-RawOr}
use Rattle.grammar.specs.declared.raw.RawOrTail.{RawOrTail, RawOrTail-F, fold-RawOrTail}
use Rattle.grammar.specs.declared.raw.RawProduct.{RawProduct, RawProduct-F, fold-RawProduct}
use Rattle.grammar.specs.declared.raw.RawProductTail.{RawProductTail, RawProductTail-F, fold-RawProductTail}
use Rattle.grammar.specs.declared.raw.RawSumTail.{RawSumTail, RawSumTail-F, fold-RawSumTail}
use Rattle.grammar.specs.declared.raw.RawTermTree.{RawTermTree, RawTermTree-F, fold-RawTermTree}
use Rattle.grammar.specs.declared.raw.RawTerms.{RawTerms, RawTerms-F, fold-RawTerms}
use Rattle.grammar.specs.declared.raw.RawTermsTail.{RawTermsTail, RawTermsTail-F, fold-RawTermsTail}
use Rattle.grammar.specs.declared.raw.RawApp.TheOpen as layer
use Rattle.grammar.specs.Trees.{Name, name, Var, untyped, typed, Vars, var, beside, comma, Number, any, exactly}
use Rattle.grammar.specs.Trees.{compared, Formula, alone, linked, Links, last, link, Or, one, or, And, single, and}
use Rattle.grammar.specs.Trees.{Unary, not, every, some, prim, Prim, group, truth, atom, compare, Term, product, sum}
use Rattle.grammar.specs.Trees.{Product, factor, times, Factor, integer, value, brackets, negative, count, aggregate}
use Rattle.grammar.specs.Trees.{App, constant, empty, apply, Terms, final, then}

abbrev pub name_view : RawName → Name
name_view n = name n.text n.place

abbrev pub typed_of : Name → Option RawVarType → Var
typed_of n None = untyped n
typed_of n (Some s) = typed n s.open (name_view s.name) s.close

abbrev pub var_view : RawVar → Var
var_view v = typed_of (name_view v.name) v.of

abbrev pub var_tail_view : RawVarTail → Option ℕ × Var
var_tail_view v = (v.comma, var_view v.var)

abbrev pub vars_more : Var → Option ℕ → Vars → Vars
vars_more v None vs = beside v vs
vars_more v (Some p) vs = comma v p vs

abbrev pub vars_of : Var → List (Option ℕ × Var) → Vars
vars_of v [] = var v
vars_of v (x ∷ xs) = vars_more v x.0 (vars_of x.1 xs)

abbrev pub vars_view : RawVars → Vars
vars_view vs = vars_of (var_view vs.first) (map var_tail_view vs.more)

abbrev pub number_view : RawNumber → Number
number_view number.Any = any
number_view (number.Exactly n) = exactly n.value n.place
number_view (number.Compared c p n) = compared c p n.value n.place

-- ---- chains: an operand, and the further ones with the sign before each

abbrev pub links_of : Or → List (ℕ × Or) → Links
links_of o [] = last o
links_of o (x ∷ xs) = link o x.0 (links_of x.1 xs)

abbrev pub formula_of : Arrow → Or → List (ℕ × Or) → Formula
formula_of a o [] = alone o
formula_of a o (x ∷ xs) = linked a o x.0 (links_of x.1 xs)

abbrev pub or_of : And → List (ℕ × And) → Or
or_of a [] = one a
or_of a (x ∷ xs) = or a x.0 (or_of x.1 xs)

abbrev pub and_of : Unary → List (ℕ × Unary) → And
and_of u [] = single u
and_of u (x ∷ xs) = and u x.0 (and_of x.1 xs)

abbrev pub term_of : Product → List (Adding × ℕ × Product) → Term
term_of p [] = product p
term_of p (x ∷ xs) = sum p x.0 x.1 (term_of x.2 xs)

abbrev pub product_of : Factor → List (ℕ × Factor) → Product
product_of f [] = factor f
product_of f (x ∷ xs) = times f x.0 (product_of x.1 xs)

abbrev pub terms_of : Term → List (ℕ × Term) → Terms
terms_of x [] = final x
terms_of x (y ∷ ys) = then x y.0 (terms_of y.1 ys)

-- ---- one layer of each type

abbrev pub app_step : RawApp-F App Factor Formula Prim Unary And (ℕ × Unary) (ℕ × Or) Or (ℕ × And) Product (ℕ × Factor)
    (Adding × ℕ × Product) Term Terms (ℕ × Term) → App
app_step (layer.Constant n) = constant (name_view n)
app_step (layer.Empty n p q) = empty (name_view n) p q
app_step (layer.Apply n p xs q) = apply (name_view n) p xs q

abbrev pub factor_step : RawFactor-F App Factor Formula Prim Unary And (ℕ × Unary) (ℕ × Or) Or (ℕ × And) Product
    (ℕ × Factor) (Adding × ℕ × Product) Term Terms (ℕ × Term) → Factor
factor_step (layer.Integer n) = integer n.value n.place
factor_step (layer.Value a) = value a
factor_step (layer.Brackets p x q) = brackets p x q
factor_step (layer.Negative p x) = negative p x
factor_step (layer.Count b f q) = count b.place b.brace (vars_view b.vars) b.colon f q
factor_step (layer.Aggregate a b f c x q) = aggregate a b.place b.brace (vars_view b.vars) b.colon f c x q

abbrev pub formula_step : RawFormula-F App Factor Formula Prim Unary And (ℕ × Unary) (ℕ × Or) Or (ℕ × And) Product
    (ℕ × Factor) (Adding × ℕ × Product) Term Terms (ℕ × Term) → Formula
formula_step (layer.Alone o) = alone o
formula_step (layer.Linked a o x xs) = formula_of a o (x ∷ xs)

abbrev pub prim_step : RawPrim-F App Factor Formula Prim Unary And (ℕ × Unary) (ℕ × Or) Or (ℕ × And) Product
    (ℕ × Factor) (Adding × ℕ × Product) Term Terms (ℕ × Term) → Prim
prim_step (layer.Group p f q) = group p f q
prim_step (layer.Truth b p) = truth b p
prim_step (layer.Atom a) = atom a
prim_step (layer.Compare x c p y) = compare x c p y

abbrev pub unary_step : RawUnary-F App Factor Formula Prim Unary And (ℕ × Unary) (ℕ × Or) Or (ℕ × And) Product
    (ℕ × Factor) (Adding × ℕ × Product) Term Terms (ℕ × Term) → Unary
unary_step (layer.Not p u) = not p u
unary_step (layer.Every p vs q f) = every p (vars_view vs) q f
unary_step (layer.Some p n vs q f) = some p (number_view n) (vars_view vs) q f
unary_step (layer.Prim x) = prim x

abbrev pub and_step : RawAnd-F App Factor Formula Prim Unary And (ℕ × Unary) (ℕ × Or) Or (ℕ × And) Product (ℕ × Factor)
    (Adding × ℕ × Product) Term Terms (ℕ × Term) → And
and_step x = and_of x.first x.more

abbrev pub and_tail_step : RawAndTail-F App Factor Formula Prim Unary And (ℕ × Unary) (ℕ × Or) Or (ℕ × And) Product
    (ℕ × Factor) (Adding × ℕ × Product) Term Terms (ℕ × Term) → ℕ × Unary
and_tail_step x = (x.place, x.operand)

abbrev pub link_step : RawLink-F App Factor Formula Prim Unary And (ℕ × Unary) (ℕ × Or) Or (ℕ × And) Product
    (ℕ × Factor) (Adding × ℕ × Product) Term Terms (ℕ × Term) → ℕ × Or
link_step x = (x.place, x.operand)

abbrev pub or_step : RawOr-F App Factor Formula Prim Unary And (ℕ × Unary) (ℕ × Or) Or (ℕ × And) Product (ℕ × Factor)
    (Adding × ℕ × Product) Term Terms (ℕ × Term) → Or
or_step x = or_of x.first x.more

abbrev pub or_tail_step : RawOrTail-F App Factor Formula Prim Unary And (ℕ × Unary) (ℕ × Or) Or (ℕ × And) Product
    (ℕ × Factor) (Adding × ℕ × Product) Term Terms (ℕ × Term) → ℕ × And
or_tail_step x = (x.place, x.operand)

abbrev pub product_step : RawProduct-F App Factor Formula Prim Unary And (ℕ × Unary) (ℕ × Or) Or (ℕ × And) Product
    (ℕ × Factor) (Adding × ℕ × Product) Term Terms (ℕ × Term) → Product
product_step x = product_of x.first x.more

abbrev pub product_tail_step : RawProductTail-F App Factor Formula Prim Unary And (ℕ × Unary) (ℕ × Or) Or
    (ℕ × And) Product (ℕ × Factor) (Adding × ℕ × Product) Term Terms (ℕ × Term) → ℕ × Factor
product_tail_step x = (x.place, x.operand)

abbrev pub sum_tail_step : RawSumTail-F App Factor Formula Prim Unary And (ℕ × Unary) (ℕ × Or) Or (ℕ × And) Product
    (ℕ × Factor) (Adding × ℕ × Product) Term Terms (ℕ × Term) → Adding × ℕ × Product
sum_tail_step x = (x.sign, x.place, x.operand)

abbrev pub term_step : RawTermTree-F App Factor Formula Prim Unary And (ℕ × Unary) (ℕ × Or) Or (ℕ × And) Product
    (ℕ × Factor) (Adding × ℕ × Product) Term Terms (ℕ × Term) → Term
term_step x = term_of x.first x.more

abbrev pub terms_step : RawTerms-F App Factor Formula Prim Unary And (ℕ × Unary) (ℕ × Or) Or (ℕ × And) Product
    (ℕ × Factor) (Adding × ℕ × Product) Term Terms (ℕ × Term) → Terms
terms_step x = terms_of x.first x.more

abbrev pub terms_tail_step : RawTermsTail-F App Factor Formula Prim Unary And (ℕ × Unary) (ℕ × Or) Or (ℕ × And) Product
    (ℕ × Factor) (Adding × ℕ × Product) Term Terms (ℕ × Term) → ℕ × Term
terms_tail_step x = (x.place, x.operand)

-- ---- the trees

abbrev pub app_view : RawApp → App
app_view = fold-RawApp App Factor Formula Prim Unary And (ℕ × Unary) (ℕ × Or) Or (ℕ × And) Product (ℕ × Factor)
    (Adding × ℕ × Product) Term Terms (ℕ × Term) app_step factor_step formula_step prim_step unary_step and_step
    and_tail_step link_step or_step or_tail_step product_step product_tail_step sum_tail_step term_step terms_step
    terms_tail_step

abbrev pub factor_view : RawFactor → Factor
factor_view = fold-RawFactor App Factor Formula Prim Unary And (ℕ × Unary) (ℕ × Or) Or (ℕ × And) Product (ℕ × Factor)
    (Adding × ℕ × Product) Term Terms (ℕ × Term) app_step factor_step formula_step prim_step unary_step and_step
    and_tail_step link_step or_step or_tail_step product_step product_tail_step sum_tail_step term_step terms_step
    terms_tail_step

abbrev pub formula_view : RawFormula → Formula
formula_view = fold-RawFormula App Factor Formula Prim Unary And (ℕ × Unary) (ℕ × Or) Or (ℕ × And) Product (ℕ × Factor)
    (Adding × ℕ × Product) Term Terms (ℕ × Term) app_step factor_step formula_step prim_step unary_step and_step
    and_tail_step link_step or_step or_tail_step product_step product_tail_step sum_tail_step term_step terms_step
    terms_tail_step

abbrev pub prim_view : RawPrim → Prim
prim_view = fold-RawPrim App Factor Formula Prim Unary And (ℕ × Unary) (ℕ × Or) Or (ℕ × And) Product (ℕ × Factor)
    (Adding × ℕ × Product) Term Terms (ℕ × Term) app_step factor_step formula_step prim_step unary_step and_step
    and_tail_step link_step or_step or_tail_step product_step product_tail_step sum_tail_step term_step terms_step
    terms_tail_step

abbrev pub unary_view : RawUnary → Unary
unary_view = fold-RawUnary App Factor Formula Prim Unary And (ℕ × Unary) (ℕ × Or) Or (ℕ × And) Product (ℕ × Factor)
    (Adding × ℕ × Product) Term Terms (ℕ × Term) app_step factor_step formula_step prim_step unary_step and_step
    and_tail_step link_step or_step or_tail_step product_step product_tail_step sum_tail_step term_step terms_step
    terms_tail_step

abbrev pub and_view : RawAnd → And
and_view = fold-RawAnd App Factor Formula Prim Unary And (ℕ × Unary) (ℕ × Or) Or (ℕ × And) Product (ℕ × Factor)
    (Adding × ℕ × Product) Term Terms (ℕ × Term) app_step factor_step formula_step prim_step unary_step and_step
    and_tail_step link_step or_step or_tail_step product_step product_tail_step sum_tail_step term_step terms_step
    terms_tail_step

abbrev pub and_tail_view : RawAndTail → ℕ × Unary
and_tail_view = fold-RawAndTail App Factor Formula Prim Unary And (ℕ × Unary) (ℕ × Or) Or (ℕ × And) Product (ℕ × Factor)
    (Adding × ℕ × Product) Term Terms (ℕ × Term) app_step factor_step formula_step prim_step unary_step and_step
    and_tail_step link_step or_step or_tail_step product_step product_tail_step sum_tail_step term_step terms_step
    terms_tail_step

abbrev pub link_view : RawLink → ℕ × Or
link_view = fold-RawLink App Factor Formula Prim Unary And (ℕ × Unary) (ℕ × Or) Or (ℕ × And) Product (ℕ × Factor)
    (Adding × ℕ × Product) Term Terms (ℕ × Term) app_step factor_step formula_step prim_step unary_step and_step
    and_tail_step link_step or_step or_tail_step product_step product_tail_step sum_tail_step term_step terms_step
    terms_tail_step

abbrev pub or_view : RawOr → Or
or_view = fold-RawOr App Factor Formula Prim Unary And (ℕ × Unary) (ℕ × Or) Or (ℕ × And) Product (ℕ × Factor)
    (Adding × ℕ × Product) Term Terms (ℕ × Term) app_step factor_step formula_step prim_step unary_step and_step
    and_tail_step link_step or_step or_tail_step product_step product_tail_step sum_tail_step term_step terms_step
    terms_tail_step

abbrev pub or_tail_view : RawOrTail → ℕ × And
or_tail_view = fold-RawOrTail App Factor Formula Prim Unary And (ℕ × Unary) (ℕ × Or) Or (ℕ × And) Product (ℕ × Factor)
    (Adding × ℕ × Product) Term Terms (ℕ × Term) app_step factor_step formula_step prim_step unary_step and_step
    and_tail_step link_step or_step or_tail_step product_step product_tail_step sum_tail_step term_step terms_step
    terms_tail_step

abbrev pub product_view : RawProduct → Product
product_view = fold-RawProduct App Factor Formula Prim Unary And (ℕ × Unary) (ℕ × Or) Or (ℕ × And) Product (ℕ × Factor)
    (Adding × ℕ × Product) Term Terms (ℕ × Term) app_step factor_step formula_step prim_step unary_step and_step
    and_tail_step link_step or_step or_tail_step product_step product_tail_step sum_tail_step term_step terms_step
    terms_tail_step

abbrev pub product_tail_view : RawProductTail → ℕ × Factor
product_tail_view = fold-RawProductTail App Factor Formula Prim Unary And (ℕ × Unary) (ℕ × Or) Or (ℕ × And) Product
    (ℕ × Factor) (Adding × ℕ × Product) Term Terms (ℕ × Term) app_step factor_step formula_step prim_step unary_step
    and_step and_tail_step link_step or_step or_tail_step product_step product_tail_step sum_tail_step term_step
    terms_step terms_tail_step

abbrev pub sum_tail_view : RawSumTail → Adding × ℕ × Product
sum_tail_view = fold-RawSumTail App Factor Formula Prim Unary And (ℕ × Unary) (ℕ × Or) Or (ℕ × And) Product (ℕ × Factor)
    (Adding × ℕ × Product) Term Terms (ℕ × Term) app_step factor_step formula_step prim_step unary_step and_step
    and_tail_step link_step or_step or_tail_step product_step product_tail_step sum_tail_step term_step terms_step
    terms_tail_step

abbrev pub term_view : RawTermTree → Term
term_view = fold-RawTermTree App Factor Formula Prim Unary And (ℕ × Unary) (ℕ × Or) Or (ℕ × And) Product (ℕ × Factor)
    (Adding × ℕ × Product) Term Terms (ℕ × Term) app_step factor_step formula_step prim_step unary_step and_step
    and_tail_step link_step or_step or_tail_step product_step product_tail_step sum_tail_step term_step terms_step
    terms_tail_step

abbrev pub terms_view : RawTerms → Terms
terms_view = fold-RawTerms App Factor Formula Prim Unary And (ℕ × Unary) (ℕ × Or) Or (ℕ × And) Product (ℕ × Factor)
    (Adding × ℕ × Product) Term Terms (ℕ × Term) app_step factor_step formula_step prim_step unary_step and_step
    and_tail_step link_step or_step or_tail_step product_step product_tail_step sum_tail_step term_step terms_step
    terms_tail_step

abbrev pub terms_tail_view : RawTermsTail → ℕ × Term
terms_tail_view = fold-RawTermsTail App Factor Formula Prim Unary And (ℕ × Unary) (ℕ × Or) Or (ℕ × And) Product
    (ℕ × Factor) (Adding × ℕ × Product) Term Terms (ℕ × Term) app_step factor_step formula_step prim_step unary_step
    and_step and_tail_step link_step or_step or_tail_step product_step product_tail_step sum_tail_step term_step
    terms_step terms_tail_step
