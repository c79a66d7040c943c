-- Where the machine stands after a tree.
use Rattle.std.specs.Prelude.{Bool, true, false}
use Rattle.grammar.specs.declared.terminal.Arrow.{Arrow}
use Rattle.grammar.specs.Trees.{Formula, alone, linked, Links, last, link, Or, one, or, And, single, and, Unary, not}
use Rattle.grammar.specs.Trees.{every, some, prim, Prim, group, truth, atom, compare}
use Rattle.token_reader.specs.Sorts.{app_formula}
use Rattle.token_reader.specs.Machine.{Chain, fresh, chained, Mode, in_formula, compared, Sort, formula, term, either}
use Rattle.token_reader.specs.Machine.{settled}

abbrev pub term_sort : Bool → Sort
term_sort true = either
term_sort false = term

abbrev pub formula_sort : Bool → Sort
formula_sort true = either
formula_sort false = formula

abbrev pub mode_prim : Chain → Prim → Mode
mode_prim c (compare x r p y) = compared c
mode_prim c x = in_formula c

abbrev pub sort_prim : Prim → Sort
sort_prim (group p f q) = formula_sort (app_formula f)
sort_prim (truth b p) = formula
sort_prim (atom a) = either
sort_prim (compare x c p y) = term

abbrev mutual
  pub mode_formula : Chain → Formula → Mode
  mode_formula c (alone o) = mode_or c o
  mode_formula c (linked a o p os) = mode_links a os

  pub mode_links : Arrow → Links → Mode
  mode_links a (last o) = mode_or (chained a) o
  mode_links a (link o p os) = mode_links a os

  pub mode_or : Chain → Or → Mode
  mode_or c (one a) = mode_and c a
  mode_or c (or a p o) = mode_or (settled c) o

  pub mode_and : Chain → And → Mode
  mode_and c (single u) = mode_unary c u
  mode_and c (and u p a) = mode_and (settled c) a

  pub mode_unary : Chain → Unary → Mode
  mode_unary c (not p u) = mode_unary (settled c) u
  mode_unary c (every p vs q f) = mode_formula fresh f
  mode_unary c (some p n vs q f) = mode_formula fresh f
  mode_unary c (prim x) = mode_prim c x

abbrev mutual
  pub sort_formula : Formula → Sort
  sort_formula (alone o) = sort_or o
  sort_formula (linked a o p os) = sort_links os

  pub sort_links : Links → Sort
  sort_links (last o) = sort_or o
  sort_links (link o p os) = sort_links os

  pub sort_or : Or → Sort
  sort_or (one a) = sort_and a
  sort_or (or a p o) = sort_or o

  pub sort_and : And → Sort
  sort_and (single u) = sort_unary u
  sort_and (and u p a) = sort_and a

  pub sort_unary : Unary → Sort
  sort_unary (not p u) = sort_unary u
  sort_unary (every p vs q f) = sort_formula f
  sort_unary (some p n vs q f) = sort_formula f
  sort_unary (prim x) = sort_prim x
