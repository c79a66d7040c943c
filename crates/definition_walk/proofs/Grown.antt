-- Bodies that grow, one step after another.
use Rattle.std.proofs.Common.{ℕ, refl, ◌∙◌, arith}
use Rattle.ground_core.specs.Problems.{ProblemState}
use Rattle.term_values.specs.GroundBases.{GroundBase}
use Rattle.definition_walk.specs.declared.bodies.Bodies.{Bodies}
use Rattle.definition_walk.specs.Steps.{BodiesGrow, HasLists}

pub grow-none : (a : Bodies) (p : ProblemState) → BodiesGrow a a p p
grow-none a p = record { first = refl; len = refl; vars = omega arith; within = λ w. w }

pub grow-on : (a b c : Bodies) (p q r : ProblemState) → BodiesGrow a b p q → BodiesGrow b c q r → BodiesGrow a c p r
grow-on a b c p q r h k =
    let x = h.vars in
    let y = k.vars in
    record {
      first = k.first ∙ h.first;
      len = k.len ∙ h.len;
      vars = omega (arith, x, y);
      within = λ w. k.within (h.within w);
    }

-- the same variables have lists
pub lists-stay : (g : GroundBase) (s : ℕ) (a b : Bodies) (p q : ProblemState) → BodiesGrow a b p q → HasLists g s a
    → HasLists g s b
lists-stay g s a b p q h k =
    let first = h.first in
    let len = h.len in
    record {
      low = λ d. let x = k.low d in omega (arith, x, first);
      high = λ d. let x = k.high d in omega (arith, x, first, len);
    }
