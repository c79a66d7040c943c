use Rattle.std.proofs.Common.{◌≡◌, ◌++◌, drop, map}
use Rattle.kb_logic.specs.Trees.{formulas_of, summands_of, terms_of}
use Rattle.kb_logic.specs.Views.{formula_view, signed_view, term_view}
use Rattle.stage_definitions.specs.IntegerArguments as said
use Rattle.data_refusals.specs.PlacedViews.{placed_views}
use Rattle.data_refusals.proofs.walks.+walk.Given as goal

abbrev pub invariant-terms-loop-i : goal.invariant-terms-loop-i
invariant-terms-loop-i l =
    placed_views l.found.items ++ said.argument_integers l.symbols (drop l.i l.types)
    (terms_of (map term_view (drop l.i l.all)))
    ≡ placed_views l.fn.found.items ++ said.argument_integers l.symbols l.types (terms_of (map term_view l.all))

abbrev pub invariant-summands-loop-part : goal.invariant-summands-loop-part
invariant-summands-loop-part l =
    placed_views l.found.items ++ said.summand_integers l.symbols
    (summands_of (map signed_view (drop l.part-index l.parts)))
    ≡ placed_views l.fn.found.items ++ said.summand_integers l.symbols (summands_of (map signed_view l.parts))

abbrev pub invariant-formulas-loop-one : goal.invariant-formulas-loop-one
invariant-formulas-loop-one l =
    placed_views l.found.items ++ said.all_integers l.symbols (formulas_of (map formula_view (drop l.one-index l.all)))
    ≡ placed_views l.fn.found.items ++ said.all_integers l.symbols (formulas_of (map formula_view l.all))
