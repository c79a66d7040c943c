-- Where the condition of `refine` is met.
use Rattle.std.specs.Prelude.{List}
use Rattle.std.specs.List.{AllByRecursion}
use Rattle.kb_logic.specs.declared.elements.Elem.{Elem}
use Rattle.kb_logic.specs.declared.vocabularies.Vocabulary.{Vocabulary}
use Rattle.kb_logic.specs.Bounds.{TheoryIsBounded}
use Rattle.kb_logic.specs.Trees.{DefinitionTree, TheoryTree}
use Rattle.bound_laws.specs.Heads.{HasPlainHead}
use Rattle.quantifier_bounds.specs.Fits.{TheoryFits}

-- a theory with plain heads whose terms have small static bounds meets the condition of `refine`
abbrev pub SmallTheoriesFit : Type 0
SmallTheoriesFit =
    (v : Vocabulary) (domains : List (List Elem)) (t : TheoryTree)
    → AllByRecursion (λ (d : DefinitionTree). AllByRecursion HasPlainHead d.rules) t.definitions
    → TheoryIsBounded v domains t → TheoryFits v.symbols domains t
