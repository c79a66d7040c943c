-- The weights of an aggregate's instances.
use Rattle.std.specs.Prelude.{ℤ, List, [], Option, Some, None, option_map, ⊤}
use Rattle.kb_logic.specs.declared.elements.Elem.{Elem}
use Rattle.kb_logic.specs.declared.syntax.AggKind.{AggKind}
use Rattle.kb_logic.specs.Denotations.{Denotation}
use Rattle.kb_logic.specs.Trees.{FormulaTree, TermTree}
use Rattle.kb_logic.specs.Views.{term_view}
use Rattle.lit_core.specs.declared.literals.Lit.{Lit}
use Rattle.term_values.specs.GroundBases.{GroundBase}
use Rattle.term_values.specs.RowArithmetic.{RowsFit}
use Rattle.term_values.specs.Rows.{rows_of_term}
use Rattle.def_ground.specs.Forms.{form_of}
use Rattle.def_ground.specs.Linear.{Linear, instance_step}
use Rattle.ground_walk.specs.Groundable.{IsGroundable}
use Rattle.ground_walk.specs.declared.weights.Weights.{Weights}

-- the term that is an instance's weight, if there is one
abbrev pub weight_view : Weights → Option TermTree
weight_view w = option_map (λ t. term_view t.now) w.term

-- the rows of a weight, where there is one
abbrev pub weight_rows : GroundBase → Option TermTree → List Elem → List (List Lit × Denotation)
weight_rows b None e = []
weight_rows b (Some t) e = rows_of_term b t e

abbrev pub WeightFits : GroundBase → Option TermTree → List Elem → Type 0
WeightFits b None e = ⊤
WeightFits b (Some t) e = RowsFit b t e

-- the condition of an instance can be grounded, and so can its weight
abbrev pub InstanceFits : GroundBase → FormulaTree → Option TermTree → List Elem → Type 0
InstanceFits b f t e = IsGroundable b f e × WeightFits b t e

-- one instance more, under the assignment
abbrev pub weighed_step : GroundBase → AggKind → ℤ → FormulaTree → Option TermTree → Linear → List Elem → Linear
weighed_step b k z f t st e = instance_step k z (λ a q. form_of b f a q) (λ a. weight_rows b t a) st e
