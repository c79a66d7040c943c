use Rattle.std.proofs.Common.{◌≡◌, ◌++◌, ◌∷◌, map, take}
use Rattle.kb_logic.specs.Values.{value_view}
use Rattle.kb_logic.specs.Denotations.{Denotation}
use Rattle.lit_core.specs.declared.literals.Lit.{Lit}
use Rattle.std.proofs.Common.{List}
use Rattle.term_values.proofs.row_lists.push_with.Given as goal

abbrev pub invariant-loop-row : goal.invariant-loop-row
invariant-loop-row l = l.out
    ≡ l.fn.out ++ map (λ (y : List Lit × List Denotation). (l.guards ++ y.0, value_view l.value ∷ y.1))
    (take l.row l.others)
