-- Facts that differ in their only argument alone, as the rows of a predicate over one type.
use Rattle.std.specs.Prelude.{ℕ, Bool, List, [], ◌∷◌, ◌++◌, map, None}
use Rattle.kb_logic.specs.declared.elements.Elem.TheVariants.{Named}
use Rattle.stage_definitions.specs.Elements.{Cell, one, span}
use Rattle.stage_definitions.specs.DataFacts.{Fact}
use Rattle.data_domains.specs.Sets.{runs_in, words_in}
use Rattle.data_domains.specs.declared.sets.ElementSet.{ElementSet}

-- the fact that the atoms of a symbol with an argument in the cell are true, or false
abbrev pub fact_over : ℕ → Bool → Cell → Fact
fact_over symbol holds c = record { place = 0; symbol = symbol; holds = holds; args = c ∷ []; value = None }

-- the facts of some cells
abbrev pub facts_over : ℕ → Bool → List Cell → List Fact
facts_over symbol holds cells = map (fact_over symbol holds) cells

-- the same fact, wherever it stands
abbrev pub placeless : Fact → Fact
placeless f = record f { place = 0 }

-- the elements of a set, its integers in ranges
abbrev pub cells_in : ElementSet → List Cell
cells_in s = map (λ w. one (Named w)) (words_in s) ++ map (λ i. span i.low i.high) (runs_in s)
