use Rattle.std.proofs.Common.{◌≡◌, ◌++◌, drop, map}
use Rattle.stage_definitions.specs.Demands.{formulas_parts, arguments_parts, factors_parts, summands_parts}
use Rattle.stage_definitions.specs.NamedTrees.{formulas_of, terms_of, summands_of}
use Rattle.stage_definitions.specs.NamedViews.{formula_view, term_view, signed_view}
use Rattle.type_constraints.specs.PartViews.{part_view}
use Rattle.type_constraints.proofs.collect.+list.Given as goal

abbrev pub invariant-formulas-loop-operand : goal.invariant-formulas-loop-operand
invariant-formulas-loop-operand l =
    map part_view l.out.items ++ formulas_parts l.symbols (formulas_of
    (map formula_view (drop l.operand-index l.named)))
    ≡ map part_view l.initial.out.items ++ formulas_parts l.symbols (formulas_of (map formula_view l.named))

abbrev pub invariant-factors-loop-operand : goal.invariant-factors-loop-operand
invariant-factors-loop-operand l =
    map part_view l.out.items ++ factors_parts l.symbols (terms_of (map term_view (drop l.operand-index l.operands)))
    ≡ map part_view l.initial.out.items ++ factors_parts l.symbols (terms_of (map term_view l.operands))

abbrev pub invariant-summands-loop-operand : goal.invariant-summands-loop-operand
invariant-summands-loop-operand l =
    map part_view l.out.items ++ summands_parts l.symbols (summands_of
    (map signed_view (drop l.operand-index l.operands)))
    ≡ map part_view l.initial.out.items ++ summands_parts l.symbols (summands_of (map signed_view l.operands))

abbrev pub invariant-arguments-loop-arg : goal.invariant-arguments-loop-arg
invariant-arguments-loop-arg l =
    map part_view l.out.items ++ arguments_parts l.symbols l.of_function l.types
    (terms_of (map term_view (drop l.arg-index l.args)))
    ≡ map part_view l.initial.out.items ++ arguments_parts l.symbols l.of_function l.initial.types
    (terms_of (map term_view l.args))
