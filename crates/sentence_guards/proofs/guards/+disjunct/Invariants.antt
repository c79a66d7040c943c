use Rattle.std.proofs.Common.{map, drop}
use Rattle.kb_logic.specs.Trees.{formulas_of}
use Rattle.kb_logic.specs.Views.{formula_view}
use Rattle.term_values.specs.GroundBases.{GroundBase}
use Rattle.sentence_guards.specs.declared.guards.Part.{Part}
use Rattle.sentence_guards.specs.Guards.{AreParts}
use Rattle.sentence_guards.proofs.guards.+disjunct.Given as goal

-- what is found of the parts that are left is found of all
abbrev pub invariant-parts-loop-formula : goal.invariant-parts-loop-formula
invariant-parts-loop-formula l =
    (b : GroundBase) (r : Part)
    → AreParts b l.sign (formulas_of (map formula_view (drop l.formula-index l.formulas))) r
    → AreParts b l.sign (formulas_of (map formula_view l.formulas)) r
