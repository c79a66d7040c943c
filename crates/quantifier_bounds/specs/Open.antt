-- The assignments under which a formula is open.
use Rattle.std.specs.Prelude.{ℕ, List, [], ◌∷◌, ◌++◌, drop, filter, if◌then◌else◌}
use Rattle.kb_logic.specs.declared.elements.Elem.{Elem}
use Rattle.kb_logic.specs.declared.vocabularies.Bound.{Bound}
use Rattle.kb_logic.specs.Trees.{FormulaTree}
use Rattle.kb_logic.specs.Structures.{choices}
use Rattle.kb_logic.specs.KnownAtoms.{KnownAtoms}
use Rattle.certain_truth.specs.Certainty.{certain_truth}
use Rattle.quantifier_bounds.specs.Steps.{is_unknown}

-- the assignments of the variables, in domain order, under which the formula is not certain
abbrev pub open_choices : KnownAtoms → List Elem → List Bound → FormulaTree → List (List Elem)
open_choices k e bs f = filter (λ a. is_unknown (certain_truth k f (e ++ a))) (choices k.domains bs)

-- with one assignment more, where the formula is open: its elements from the first variable on
abbrev pub with_open : KnownAtoms → FormulaTree → ℕ → List (List Elem) → List Elem → List (List Elem)
with_open k f first rows e = if is_unknown (certain_truth k f e) then rows ++ drop first e ∷ [] else rows
