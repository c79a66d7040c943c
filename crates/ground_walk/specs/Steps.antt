-- The steps of the walk.
use Rattle.std.specs.Prelude.{◌≡◌, ◌≤◌, List, Bool, true, false, if◌then◌else◌}
use Rattle.kb_logic.specs.declared.elements.Elem.{Elem}
use Rattle.kb_logic.specs.declared.vocabularies.Bound.{Bound}
use Rattle.kb_logic.specs.Trees.{FormulaTree, FormulaTrees, conjunction, disjunction, universal, existential}
use Rattle.lit_core.specs.declared.literals.Lit.{Lit}
use Rattle.ground_core.specs.Problems.{ProblemState, AreLitsOf}
use Rattle.term_values.specs.GroundBases.{GroundBase}
use Rattle.def_ground.specs.Answers.{GroundResult}
use Rattle.def_ground.specs.Forms.{Parts, settles, with_answer, signed_result, form_of}
use Rattle.def_ground.specs.CaseSentences.{or_clause}
use Rattle.def_ground.specs.Sentences.{are_few, assert_of}

-- the problem grew, and the literals of the parts are over its variables
pub record PartsGrow (p q : ProblemState) (ls : List Lit) : Type 0 where
  pub vars : p.vars ≤ q.vars
  pub within : AreLitsOf q.vars ls

-- the call came to these parts: whether they are settled, their literals, and the problem
abbrev pub MakesParts : Parts → Bool → List Lit → ProblemState → Type 0
MakesParts r s ls q = (s ≡ r.settled) × (ls ≡ r.lits) × (q ≡ r.problem)

-- the parts so far with one part more
abbrev pub with_part : Bool → List Lit → GroundResult → Parts
with_part all ls g = record {
  settled = settles all g.answer;
  lits = with_answer g.answer ls;
  problem = g.problem;
}

-- the parts so far, none of which settles the whole
abbrev pub open_parts : List Lit → ProblemState → Parts
open_parts ls p = record { settled = false; lits = ls; problem = p }

-- the parts with that of one assignment more, unless they are settled
abbrev pub part_step : GroundBase → Bool → Bool → FormulaTree → Parts → List Elem → Parts
part_step b all sign f r a =
    if r.settled then r else with_part all r.lits (signed_result sign (form_of b f a r.problem))

-- the problem that also asserts the last part of a disjunction under the literals of the others
abbrev pub assert_last : GroundBase → Bool → FormulaTree → List Elem → List Lit → ProblemState → ProblemState
assert_last b sign f e ls p =
    if are_few ls then assert_of b sign f e ls p else or_clause ls (signed_result sign (form_of b f e p))

-- so where the others may settle the whole
abbrev pub assert_under : GroundBase → Bool → FormulaTree → List Elem → List Lit → ProblemState → ProblemState
assert_under b settled f e ls p = if settled then p else assert_last b true f e ls p

-- the problem that also asserts the formula under one assignment more
abbrev pub assert_step : GroundBase → Bool → FormulaTree → List Lit → ProblemState → List Elem → ProblemState
assert_step b sign f ls p a = assert_of b sign f a ls p

-- the conjunction of the formulas where `all`, and else their disjunction
abbrev pub assert_joined : Bool → GroundBase → Bool → FormulaTrees → List Elem → List Lit → ProblemState → ProblemState
assert_joined true b sign fs e ls p = assert_of b sign (conjunction fs) e ls p
assert_joined false b sign fs e ls p = assert_of b sign (disjunction fs) e ls p

-- all instances of the formula where `all`, and else some
abbrev pub assert_quantified : Bool → GroundBase → Bool → List Bound → FormulaTree → List Elem → List Lit → ProblemState
    → ProblemState
assert_quantified true b sign bs f e ls p = assert_of b sign (universal bs f) e ls p
assert_quantified false b sign bs f e ls p = assert_of b sign (existential bs f) e ls p
