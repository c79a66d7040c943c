-- Steps over the parts of conjunctions, disjunctions and quantified formulas.
use Rattle.std.proofs.Common.{◌≡◌, ℕ, ◌+◌, ◌<◌, Bool, true, false, List, [], ◌∷◌, ◌++◌, length, drop, fold}
use Rattle.std.proofs.Common.{get_or, if◌then◌else◌, refl, sym, ap, ◌∙◌}
use Rattle.kb_logic.specs.declared.elements.Elem.{Elem}
use Rattle.kb_logic.specs.declared.vocabularies.Bound.{Bound}
use Rattle.kb_logic.specs.Trees.{FormulaTree, universal, existential}
use Rattle.kb_logic.specs.Structures.{choices}
use Rattle.lit_core.specs.declared.literals.Lit.{Lit}
use Rattle.ground_core.specs.Problems.{ProblemState}
use Rattle.term_values.specs.GroundBases.{GroundBase}
use Rattle.def_ground.specs.Answers.{GroundResult}
use Rattle.def_ground.specs.Forms.{Parts, settles, with_answer, close_parts, parts_each, signed_result, form_of}
use Rattle.plain_evaluation.proofs.Folds.{after_front, fold_next, fold_stays}
use Rattle.ground_walk.specs.Steps.{MakesParts, with_part, open_parts, part_step}

-- the parts under each assignment are a fold over them
module _ (G : List Elem → ProblemState → GroundResult) (all : Bool) where
  abbrev step : Parts → List Elem → Parts
  step r a = if r.settled then r else with_part all r.lits (G a r.problem)

  stays : (xs : List (List Elem)) (ls : List Lit) (p : ProblemState)
      → fold step (record { settled = true; lits = ls; problem = p }) xs ≡ record {
        settled = true;
        lits = ls;
        problem = p;
      }
  stays xs ls p = fold_stays step xs (record { settled = true; lits = ls; problem = p }) (λ x. refl)

  one-step : (s : Bool) (ls : List Lit) (q : ProblemState) (xs : List (List Elem))
      → parts_each G all xs ls q ≡ fold step (open_parts ls q) xs
      → (if s then record { settled = true; lits = ls; problem = q } else parts_each G all xs ls q)
      ≡ fold step (record { settled = s; lits = ls; problem = q }) xs
  one-step true ls q xs h = sym (stays xs ls q)
  one-step false ls q xs h = h

  pub each-is-fold : (xs : List (List Elem)) (ls : List Lit) (p : ProblemState)
      → parts_each G all xs ls p ≡ fold step (open_parts ls p) xs
  each-is-fold [] ls p = refl
  each-is-fold (a ∷ xs) ls p =
      let g = G a p in
      one-step (settles all g.answer) (with_answer g.answer ls) g.problem xs
      (each-is-fold xs (with_answer g.answer ls) g.problem)

-- what a quantified formula comes to, as a fold
pub universal-is : (b : GroundBase) (bs : List Bound) (f : FormulaTree) (e : List Elem) (p : ProblemState)
    → close_parts true (fold (λ r x. part_step b true true f r (e ++ x)) (open_parts [] p) (choices b.domains bs))
    ≡ form_of b (universal bs f) e p
universal-is b bs f e p =
    sym (ap (close_parts true) (each-is-fold (λ a q. form_of b f (e ++ a) q) true (choices b.domains bs) [] p))

pub existential-is : (b : GroundBase) (bs : List Bound) (f : FormulaTree) (e : List Elem) (p : ProblemState)
    → close_parts false (fold (λ r x. part_step b false true f r (e ++ x)) (open_parts [] p) (choices b.domains bs))
    ≡ form_of b (existential bs f) e p
existential-is b bs f e p =
    sym (ap (close_parts false) (each-is-fold (λ a q. form_of b f (e ++ a) q) false (choices b.domains bs) [] p))

-- parts, by their fields
pub parts-made : (t : Parts) (s : Bool) (ls : List Lit) (q : ProblemState) → MakesParts t s ls q
    → record { settled = s; lits = ls; problem = q } ≡ t
parts-made t s ls q m =
    let A : Bool → Parts = λ x. record { settled = x; lits = ls; problem = q } in
    let B : List Lit → Parts = λ x. record { settled = t.settled; lits = x; problem = q } in
    let C : ProblemState → Parts = λ x. record { settled = t.settled; lits = t.lits; problem = x } in
    ap A m.0 ∙ ap B m.1 ∙ ap C m.2

pub made-open : (t : Parts) (ls : List Lit) (q : ProblemState) → t ≡ open_parts ls q → MakesParts t false ls q
made-open t ls q e = (
  sym (ap (λ (r : Parts). r.settled) e),
  sym (ap (λ (r : Parts). r.lits) e),
  sym (ap (λ (r : Parts). r.problem) e),
)

pub settled-stays : (b : GroundBase) (all sign : Bool) (f : FormulaTree) (r : Parts) (x : List Elem) → r.settled ≡ true
    → part_step b all sign f r x ≡ r
settled-stays b all sign f r x h =
    ap (λ s. if s then r else with_part all r.lits (signed_result sign (form_of b f x r.problem))) h

-- a loop over assignments that settles the whole at one of them
pub settled-at : (F : Parts → List Elem → Parts) (rest cs : List (List Elem)) (i : ℕ) (s t : Parts) → i < length cs
    → t ≡ after_front F rest s (get_or cs i []) → ((x : List Elem) → F t x ≡ t)
    → fold (after_front F rest) s (drop i cs) ≡ t
settled-at F rest cs i s t h e stay =
    sym (fold_next (after_front F rest) cs i s t h e)
    ∙ fold_stays (after_front F rest) (drop (i + 1) cs) t
    (λ a. fold_stays (λ u x. F u (a ++ x)) rest t (λ x. stay (a ++ x)))
