-- What may follow a tree.
use Rattle.std.proofs.Common.{◌≡◌, Some, Bool, true, false, refl, ap, ◌∙◌}
use Rattle.grammar.specs.declared.terminal.Arrow.{Arrow}
use Rattle.grammar.specs.declared.terminal.Arrow.TheVariants as arrow
use Rattle.grammar.specs.Trees.{Formula, alone, linked, Links, last, link, Or, one, or, And, single, and, Unary, not}
use Rattle.grammar.specs.Trees.{every, some, prim, Prim, group, truth, atom, compare}
use Rattle.grammar.specs.Fine.{closed_unary, closed_and, closed_or}
use Rattle.token_reader.specs.Sorts.{app_formula, app_or, app_and, app_unary, app_prim}
use Rattle.token_reader.specs.Machine.{Chain, unsettled, fresh, chained, in_formula, formula, need, settled, connects}
use Rattle.token_reader.specs.Machine.{links_on, link_on, ended}
use Rattle.token_reader.specs.Modes.{formula_sort, mode_prim, sort_prim, mode_formula, mode_links, mode_or, mode_and}
use Rattle.token_reader.specs.Modes.{mode_unary, sort_formula, sort_links, sort_or, sort_and, sort_unary}

pub settled_twice : (c : Chain) → settled (settled c) ≡ settled c
settled_twice unsettled = refl
settled_twice fresh = refl
settled_twice (chained a) = refl

link_settled : (c : Chain) (a : Arrow) → link_on (settled c) a ≡ link_on c a
link_settled unsettled a = refl
link_settled fresh a = refl
link_settled (chained b) a = refl

pub link_same : (a : Arrow) → link_on (chained a) a ≡ Some (need (chained a))
link_same arrow.Implies = refl
link_same arrow.ImpliedBy = refl
link_same arrow.Equivalent = refl

-- ---- a connective may follow what does not end in a quantified formula

connects_group : (c : Chain) (b : Bool) → connects (in_formula c) (formula_sort b) ≡ Some (need (settled c))
connects_group c true = refl
connects_group c false = refl

connects_prim : (c : Chain) (x : Prim) → connects (mode_prim c x) (sort_prim x) ≡ Some (need (settled c))
connects_prim c (group p f q) = connects_group c (app_formula f)
connects_prim c (truth b p) = refl
connects_prim c (atom a) = refl
connects_prim c (compare x r p y) = refl

pub connects_unary : (c : Chain) (u : Unary) → closed_unary u ≡ true → connects (mode_unary c u) (sort_unary u)
    ≡ Some (need (settled c))
connects_unary c (not p u) h = connects_unary (settled c) u h ∙ ap (λ (x : Chain). Some (need x)) (settled_twice c)
connects_unary c (every p vs q f) h = absurd (cc)
connects_unary c (some p n vs q f) h = absurd (cc)
connects_unary c (prim x) h = connects_prim c x

pub connects_and : (c : Chain) (a : And) → closed_and a ≡ true → connects (mode_and c a) (sort_and a)
    ≡ Some (need (settled c))
connects_and c (single u) h = connects_unary c u h
connects_and c (and u p a) h = connects_and (settled c) a h ∙ ap (λ (x : Chain). Some (need x)) (settled_twice c)

links_group : (a : Arrow) (c : Chain) (b : Bool) → links_on a (in_formula c) (formula_sort b) ≡ link_on c a
links_group a c true = refl
links_group a c false = refl

links_prim : (a : Arrow) (c : Chain) (x : Prim) → links_on a (mode_prim c x) (sort_prim x) ≡ link_on c a
links_prim a c (group p f q) = links_group a c (app_formula f)
links_prim a c (truth b p) = refl
links_prim a c (atom x) = refl
links_prim a c (compare x r p y) = refl

links_unary : (a : Arrow) (c : Chain) (u : Unary) → closed_unary u ≡ true → links_on a (mode_unary c u) (sort_unary u)
    ≡ link_on c a
links_unary a c (not p u) h = links_unary a (settled c) u h ∙ link_settled c a
links_unary a c (every p vs q f) h = absurd (cc)
links_unary a c (some p n vs q f) h = absurd (cc)
links_unary a c (prim x) h = links_prim a c x

links_and : (a : Arrow) (c : Chain) (x : And) → closed_and x ≡ true → links_on a (mode_and c x) (sort_and x)
    ≡ link_on c a
links_and a c (single u) h = links_unary a c u h
links_and a c (and u p x) h = links_and a (settled c) x h ∙ link_settled c a

pub links_or : (a : Arrow) (c : Chain) (o : Or) → closed_or o ≡ true → links_on a (mode_or c o) (sort_or o)
    ≡ link_on c a
links_or a c (one x) h = links_and a c x h
links_or a c (or x p o) h = links_or a (settled c) o h ∙ link_settled c a

-- ---- what a closing bracket finds

-- no term may stand here
abbrev pub Settled : Chain → Type 0
Settled unsettled = ⊥
Settled _ = Unit {0}

pub settled_is : (c : Chain) → Settled (settled c)
settled_is unsettled = tt
settled_is fresh = tt
settled_is (chained a) = tt

ends_group : (c : Chain) → Settled c → (b : Bool) → ended (in_formula c) (formula_sort b) ≡ Some formula
ends_group unsettled h b = elim h [ ]
ends_group fresh h true = refl
ends_group fresh h false = refl
ends_group (chained a) h true = refl
ends_group (chained a) h false = refl

ends_prim : (c : Chain) → Settled c → (x : Prim) → ended (mode_prim c x) (sort_prim x) ≡ Some formula
ends_prim c h (group p f q) = ends_group c h (app_formula f)
ends_prim c h (truth b p) = ends_group c h false
ends_prim c h (atom a) = ends_group c h true
ends_prim c h (compare x r p y) = refl

mutual
  pub ends_formula : (c : Chain) → Settled c → (f : Formula) → ended (mode_formula c f) (sort_formula f) ≡ Some formula
  ends_formula c h (alone o) = ends_or c h o
  ends_formula c h (linked a o p os) = ends_links a os

  ends_links : (a : Arrow) (os : Links) → ended (mode_links a os) (sort_links os) ≡ Some formula
  ends_links a (last o) = ends_or (chained a) tt o
  ends_links a (link o p os) = ends_links a os

  ends_or : (c : Chain) → Settled c → (o : Or) → ended (mode_or c o) (sort_or o) ≡ Some formula
  ends_or c h (one a) = ends_and c h a
  ends_or c h (or a p o) = ends_or (settled c) (settled_is c) o

  ends_and : (c : Chain) → Settled c → (a : And) → ended (mode_and c a) (sort_and a) ≡ Some formula
  ends_and c h (single u) = ends_unary c h u
  ends_and c h (and u p a) = ends_and (settled c) (settled_is c) a

  ends_unary : (c : Chain) → Settled c → (u : Unary) → ended (mode_unary c u) (sort_unary u) ≡ Some formula
  ends_unary c h (not p u) = ends_unary (settled c) (settled_is c) u
  ends_unary c h (every p vs q f) = ends_formula fresh tt f
  ends_unary c h (some p n vs q f) = ends_formula fresh tt f
  ends_unary c h (prim x) = ends_prim c h x

opens_prim : (x : Prim) → ended (mode_prim unsettled x) (sort_prim x) ≡ Some (formula_sort (app_prim x))
opens_prim (group p f q) = refl
opens_prim (truth b p) = refl
opens_prim (atom a) = refl
opens_prim (compare x r p y) = refl

pub opens_unary : (u : Unary) → ended (mode_unary unsettled u) (sort_unary u) ≡ Some (formula_sort (app_unary u))
opens_unary (not p u) = ends_unary fresh tt u
opens_unary (every p vs q f) = ends_formula fresh tt f
opens_unary (some p n vs q f) = ends_formula fresh tt f
opens_unary (prim x) = opens_prim x

opens_and : (a : And) → ended (mode_and unsettled a) (sort_and a) ≡ Some (formula_sort (app_and a))
opens_and (single u) = opens_unary u
opens_and (and u p a) = ends_and fresh tt a

opens_or : (o : Or) → ended (mode_or unsettled o) (sort_or o) ≡ Some (formula_sort (app_or o))
opens_or (one a) = opens_and a
opens_or (or a p o) = ends_or fresh tt o

pub opens_formula : (f : Formula) → ended (mode_formula unsettled f) (sort_formula f)
    ≡ Some (formula_sort (app_formula f))
opens_formula (alone o) = opens_or o
opens_formula (linked a o p os) = ends_links a os
